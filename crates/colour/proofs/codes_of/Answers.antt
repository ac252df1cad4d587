use mathlib.Core.Path.{refl}
use Rattle.rules.specs.declared.Colour.TheVariants.{Red}
use Rattle.colour.proofs.Plans.{codable}
use Rattle.colour.proofs.Weighing.{kind-fit, kind-codes, cube-codes, plan-codes}
use Rattle.colour.proofs.codes_of.Goals as goal

pub line_codes-requires : goal.line_codes-requires
line_codes-requires c =
    let p = c.requires.planned in
    record { by_index = (_, codable p); shares_fit = kind-fit p c.args.shares c.in-OneD.is c.requires.weighable }

pub cube_sums-requires : goal.cube_sums-requires
cube_sums-requires c = kind-fit c.requires.planned c.args.shares c.in-ThreeD.is c.requires.weighable

pub codes_by-requires : goal.codes_by-requires
codes_by-requires c = (_, codable c.requires.planned Red)

pub returns-in-OneD : goal.returns-in-OneD
returns-in-OneD c = λ p. plan-codes p c.args.shares (kind-codes p c.args.shares c.in-OneD.is (c.line_codes.ensures _ (codable p)))

pub returns-in-ThreeD : goal.returns-in-ThreeD
returns-in-ThreeD c =
    λ p. let e = c.in-ThreeD.is in
    plan-codes p c.args.shares (kind-codes p c.args.shares e (cube-codes p c.args.shares e refl c.cube_sums.ensures (c.codes_by.ensures _ (codable p Red))))
