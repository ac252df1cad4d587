-- One colour of a plan by itself, in 1D.
use Rattle.std.specs.Prelude.{◌≡◌, List, ℤ}
use Rattle.rules.specs.declared.Colour.{Colour}
use Rattle.rules.specs.declared.Kind.TheVariants.{OneD}
use Rattle.colour.specs.Plans.{axis_in, Planned}
use Rattle.colour.specs.declared.lines.Line.{Line}
use Rattle.colour.specs.declared.plan.Plan.{Plan}

abbrev pub line_of : Plan → Colour → Line
line_of plan c = record { colour = c; cells = plan.cells; axis = axis_in plan c; times = plan.times }

-- the line is a colour of a plan of a 1D description, which reading could have given with this table
pub record Lined (line : Line) (table : List ℤ) : Type 0 where
  pub plan : Plan
  pub planned : Planned plan table
  pub one_d : planned.d.kind ≡ OneD
  pub is : line ≡ line_of plan line.colour
