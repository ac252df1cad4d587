-- A plan: what of a description and the depths is the same for every pixel.
use Rattle.std.specs.Prelude.{ℕ, suc, ◌-◌, ◌*◌, ◌/◌, ◌≤◌, ◌<◌, ◌≡◌, true, List, ℤ, pos, ◌*ℤ◌}
use Rattle.std.specs.Int.Signed.{quot_z}
use Rattle.whole.specs.Reciprocals.{divisor_of}
use Rattle.rules.specs.Units.{sample_one, bound_one, raw_m, corrected_m, rows_of, stride}
use Rattle.rules.specs.Descriptions.{width, span, could_be_read}
use Rattle.rules.specs.Looking.Interpolation.{denominator}
use Rattle.rules.specs.declared.Colour.{Colour}
use Rattle.rules.specs.declared.Colour.TheVariants.{Red, Green, Blue}
use Rattle.rules.specs.declared.Depths.{Depths}
use Rattle.rules.specs.declared.Description.{Description}
use Rattle.rules.specs.declared.Domain.{Domain}
use Rattle.colour.specs.Ratios.{ratio_of, InTerms}
use Rattle.colour.specs.declared.plan.Axis.{Axis}
use Rattle.colour.specs.declared.plan.Plan.{Plan}

-- ---- what is kept

-- one unit of a domain is so many parts of a span s
abbrev pub each_of : Domain → ℕ → ℕ
each_of dom s = bound_one * s / width dom

-- and its lower bound lies at so many
abbrev pub low_of : Domain → ℕ → ℤ
low_of dom s = quot_z (pos (each_of dom s) *ℤ dom.lower.0) (pos bound_one)

-- of a domain and a span, at the M of raw codes: these parts, D, D·10,000,000 and, with q of p / q, q·s·10,000,000 and its double; one index up along the axis
-- is so many rows up
abbrev pub axis_of : Domain → ℕ → ℕ → ℕ → ℕ → Axis
axis_of dom s m q step = record {
  each = each_of dom s;
  low = record { 0 = pos m *ℤ low_of dom s };
  den = m * s;
  full = denominator (m * s);
  unit = q * (s * sample_one);
  divisor = divisor_of (2 * (q * (s * sample_one)));
  stride = step;
}

abbrev pub plan_of : Description → Depths → Plan
plan_of d depths = record {
  kind = d.kind;
  cells = d.n - 1;
  red = axis_of d.red (span d Red) (raw_m depths) (ratio_of depths).bottom (stride d.n Red);
  green = axis_of d.green (span d Green) (raw_m depths) (ratio_of depths).bottom (stride d.n Green);
  blue = axis_of d.blue (span d Blue) (raw_m depths) (ratio_of depths).bottom (stride d.n Blue);
  times = (ratio_of depths).top;
}

abbrev pub axis_in : Plan → Colour → Axis
axis_in plan Red = plan.red
axis_in plan Green = plan.green
axis_in plan Blue = plan.blue

-- N is one more than the cells
abbrev pub rows_in : Plan → ℕ
rows_in plan = rows_of plan.kind (suc plan.cells)

-- ---- of what

-- reading could have given the description, with some table
abbrev pub Readable : Description → Type 0
Readable d = (table : List ℤ) × (could_be_read d table ≡ true)

-- the plan is that of a description which reading could have given with this table
pub record Planned (plan : Plan) (table : List ℤ) : Type 0 where
  pub d : Description
  pub depths : Depths
  pub could : could_be_read d table ≡ true
  pub deep : 0 < raw_m depths
  pub most : raw_m depths ≤ 65535
  pub corrected_most : corrected_m depths ≤ 65535
  pub in_terms : InTerms (ratio_of depths) depths
  pub is : plan ≡ plan_of d depths

-- with some table
abbrev pub Made : Plan → Type 0
Made plan = (table : List ℤ) × Planned plan table
