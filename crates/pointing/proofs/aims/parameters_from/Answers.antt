use Rattle.pointing.proofs.Inside.{start-inside}
use mathlib.Core.Path.{ap}
use Rattle.pointing.specs.declared.spots.Spot.{Spot}
use native.Mathlib.Omega.{arith}
use Rattle.pointing.proofs.aims.parameters_from.Goals as goal

pub rest_from-requires : goal.rest_from-requires
rest_from-requires c = omega (arith, ap (λ (s : Spot). s.place) c.word_from-word.ensures, start-inside c.args.l.now c.args.from c.requires)
