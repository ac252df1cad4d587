use mathlib.Core.Path.{◌≡◌, refl, ap, ◌∙◌}
use mathlib.Core.List.{List}
use lib.IntN.{ℤ}
use Rattle.rules.specs.Units.{corrected_m, code_in}
use Rattle.rules.specs.Looking.Interpolation.{code_by}
use Rattle.rules.specs.Looking.{used, codes_by, correct}
use Rattle.rules.specs.declared.Codes.{Codes}
use Rattle.rules.specs.declared.Colour.{Colour}
use Rattle.rules.specs.declared.Colour.TheVariants.{Red}
use Rattle.rules.specs.declared.Kind.{Kind}
use Rattle.rules.specs.declared.Kind.TheVariants.{ThreeD}
use Rattle.rules.specs.declared.Shares.{Shares}
use Rattle.colour.specs.Plans.{axis_in, Planned}
use Rattle.colour.specs.Places.{shown_by}
use Rattle.colour.specs.declared.plan.Plan.{Plan}
use Rattle.colour.specs.Adding.{SharesFit}
use Rattle.colour.proofs.Plans.{codable, shown-is, path-shown, steps-fit}
use Rattle.colour.proofs.Weighing.{kind-fit, kind-codes, cube-codes, plan-codes, shown-weighable}
use Rattle.colour.proofs.correct.Goals as goal

-- What is shown may be weighed, and the codes made of it are the corrected ones, for either kind.
-- ---- what is shown, and the codes made of it
module _ {plan : Plan} {table : List ℤ} (pixel : Codes) (s : Planned plan table) {k : Kind} (e : plan.kind ≡ k) {shares : Shares} (h : shares ≡ shown_by plan pixel k) where
  fit : (c : Colour) → SharesFit table (used k c shares)
  fit = kind-fit s shares e (shown-weighable s shares pixel (h ∙ shown-is s pixel e))

  made : (p : Planned plan table) {r : Codes} → ((c : Colour) → code_in r c ≡ code_by (corrected_m p.depths) (axis_in plan c).den table c (used k c shares))
      → r ≡ correct p.d table p.depths pixel
  made p codes = plan-codes p shares (kind-codes p shares e codes) ∙ ap (codes_by p.d table p.depths) (h ∙ shown-is p pixel e)

-- 3D: the path of the steps
path-there : (c : goal.After-path_by) → c.path_by.result ≡ shown_by c.args.plan c.args.pixel ThreeD
path-there c = path-shown c.requires c.args.pixel c.steps_of.ensures c.path_by.ensures

path-fit : (c : goal.After-path_by) (k : Colour) → SharesFit c.args.table.now (used ThreeD k c.path_by.result)
path-fit c = fit c.args.pixel c.requires c.in-ThreeD.is (path-there c)

pub line_codes-requires : goal.line_codes-requires
line_codes-requires c = record { by_index = (_, codable c.requires); shares_fit = fit c.args.pixel c.requires c.in-OneD.is c.line.ensures }

pub path_by-requires : goal.path_by-requires
path_by-requires c = rw c.steps_of.ensures (steps-fit c.requires c.in-ThreeD.is c.args.pixel)

pub cube_sums-sums-requires : goal.cube_sums-sums-requires
cube_sums-sums-requires c = path-fit c

pub codes_by-requires : goal.codes_by-requires
codes_by-requires c = (_, codable c.requires Red)

pub returns-in-OneD : goal.returns-in-OneD
returns-in-OneD c = λ p. made c.args.pixel c.requires c.in-OneD.is c.line.ensures p (c.line_codes.ensures _ (codable p))

pub returns-in-ThreeD : goal.returns-in-ThreeD
returns-in-ThreeD c =
    let e = c.in-ThreeD.is in
    λ p. made c.args.pixel c.requires e (path-shown c.requires c.args.pixel c.steps_of.ensures c.path_by.ensures) p (cube-codes p c.path_by.result e refl c.cube_sums-sums.ensures (c.codes_by.ensures _ (codable p Red)))
