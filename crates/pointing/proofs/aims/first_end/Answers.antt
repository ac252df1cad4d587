use Prim.Native.Nat.{◌+◌}
use mathlib.Core.Path.{ap}
use Rattle.pointing.specs.declared.spots.Spot.{Spot}
use Rattle.pointing.proofs.Inside.{word-inside}
use native.Mathlib.Omega.{arith}
use Rattle.pointing.proofs.aims.first_end.Goals as goal

pub overflow_add-result : goal.overflow_add-result
overflow_add-result c =
    record { fits = omega (arith, ap (λ (s : Spot). s.place + s.length) c.word_from-word.ensures, (word-inside c.args.l.now 0 (omega arith)).inside, c.well_formed) }
