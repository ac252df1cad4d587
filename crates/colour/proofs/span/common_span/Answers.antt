use Prim.Native.Nat.{ℕ, ◌*◌, ◌/◌, ◌≤◌}
use mathlib.Core.Path.{◌≡◌, sym, ◌∙◌}
use native.Mathlib.Nat.{mul-le-mul}
use native.Mathlib.Omega.{arith}
use Rattle.rules.specs.Units.{bound_one}
use Rattle.rules.specs.Descriptions.{width, common_span, DomainFits}
use Rattle.rules.specs.declared.Colour.TheVariants.{Red, Green, Blue}
use Rattle.rules.specs.declared.Domain.{Domain}
use Rattle.rules.proofs.Looking.Spans.{units-most}
use Rattle.colour.proofs.Plans.{sound}
use Rattle.colour.proofs.span.common_span.Goals as goal

-- Each domain has at most 10 whole units, so no product wraps.
-- so of the width that was found
found-most : (dom : Domain) {w : ℕ} → w ≡ width dom → DomainFits dom → w / bound_one ≤ 10
found-most dom e fits = rw e (units-most dom fits)

two-most : (c : goal.After-width_of-blue) → c.width_of-red.result / bound_one * (c.width_of-green.result / bound_one) ≤ 10 * 10
two-most c =
    let d = c.args.d in
    let fits = (sound d c.requires).domains in
    mul-le-mul (found-most d.red c.width_of-red.ensures (fits Red)) (found-most d.green c.width_of-green.ensures (fits Green))

three-most : (c : goal.After-width_of-blue)
    → c.width_of-red.result / bound_one * (c.width_of-green.result / bound_one) * (c.width_of-blue.result / bound_one) ≤ 10 * 10 * 10
three-most c =
    let d = c.args.d in
    mul-le-mul (two-most c) (found-most d.blue c.width_of-blue.ensures ((sound d c.requires).domains Blue))

pub width_of-red-requires : goal.width_of-red-requires
width_of-red-requires c = (sound _ c.requires).domains Red

pub returns-then-one_domain : goal.returns-then-one_domain
unfolding common_span
returns-then-one_domain c = rw (sym c.one_domain.ensures ∙ c.if-one_domain.true) c.width_of-red.ensures

pub width_of-green-requires : goal.width_of-green-requires
width_of-green-requires c = (sound _ c.requires).domains Green

pub width_of-blue-requires : goal.width_of-blue-requires
width_of-blue-requires c = (sound _ c.requires).domains Blue

pub overflow_mul-result : goal.overflow_mul-result
overflow_mul-result c = record { fits = omega (arith, two-most c) }

pub overflow_mul-result-2 : goal.overflow_mul-result-2
overflow_mul-result-2 c = record { fits = omega (arith, three-most c) }

pub returns : goal.returns
unfolding common_span
returns c =
    rw (sym c.one_domain.ensures ∙ c.if-one_domain.false, c.width_of-blue.ensures, c.width_of-green.ensures, c.width_of-red.ensures)
