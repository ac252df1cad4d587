use Prim.Native.Nat.{ℕ, ◌+◌, ◌*◌, ◌/◌, min}
use mathlib.Core.Path.{◌≡◌, sym, ap, ap₂, ◌∙◌}
use native.Mathlib.Omega.{arith}
use lib.IntN.{pos, ◌*ℤ◌}
use Rattle.whole.specs.Integers.{up}
use Rattle.whole.specs.Nearest.{code}
use Rattle.whole.specs.declared.reciprocal.Divisor.{Divisor}
use Rattle.whole.proofs.NearestLaws.{code-in-terms}
use Rattle.colour.specs.Adding.{Codable}
use Rattle.colour.proofs.codes.code_of.Goals as goal
use Rattle.colour.proofs.codes.code_of.Lts as lts
use Rattle.colour.proofs.codes.code_of.Reads as reads
use Rattle.colour.proofs.codes.code_of.Tie as ties

abbrev After-min-s : Type 0
After-min-s = lts.After-min ties.the-claims reads.Pre reads.Post

moved : (c : After-min-s) → let a = c.args in c.min-s.result ≡ min a.axis.full (up a.sum.0)
moved c = c.min-s.ensures ∙ ap (min c.args.axis.full) c.above.ensures

coded : (c : goal.After-quotient) → let a = c.args in
    (m : ℕ) → Codable a.p a.axis m → c.quotient.result ≡ code (pos m *ℤ a.sum.0) a.axis.full m
coded c m f =
    let l = c.before.before.before in
    let a = l.args in
    c.quotient.ensures
    ∙ ap₂ (λ s (d : Divisor). (2 * (a.p * s) + a.axis.unit) / d.by) (moved l) f.divisor
    ∙ sym (code-in-terms a.p m a.axis.full a.axis.unit a.sum.0 f.wide (omega (arith, f.least)) f.in_terms)

pub returns : goal.returns
returns c = coded c
