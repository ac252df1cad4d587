-- A line of a plan: its numbers fit, its two rows may be weighed, and the code made of them is the rule's.
use Prim.Native.Nat.{ℕ, ◌<◌}
use mathlib.Core.Path.{◌≡◌, sym, ap, subst, ◌∙◌}
use mathlib.Core.Bool.{true}
use mathlib.Core.List.{List}
use lib.IntN.{ℤ}
use Rattle.rules.specs.Units.{raw_m, corrected_m}
use Rattle.rules.specs.Descriptions.{rows, could_be_read}
use Rattle.rules.specs.Looking.Interpolation.{den_of, pair_at, pair, shares_for, code_by}
use Rattle.rules.specs.Looking.{line_code}
use Rattle.rules.specs.Demands.{Weighable}
use Rattle.rules.specs.declared.Colour.{Colour}
use Rattle.rules.specs.declared.Description.{Description}
use Rattle.rules.specs.declared.Kind.TheVariants.{OneD}
use Rattle.rules.proofs.Colours.{grey, grey-code}
use Rattle.rules.proofs.Looking.Demand3.{used-shown, rule-weighable}
use Rattle.colour.specs.Plans.{axis_in, rows_in}
use Rattle.colour.specs.Places.{AxisFits, CellsFit, pair_of}
use Rattle.colour.specs.Adding.{SharesFit, Codable}
use Rattle.colour.specs.Lines.{Lined}
use Rattle.colour.specs.declared.lines.Line.{Line}
use Rattle.colour.proofs.Plans.{rows_are, den_is, cells_fit, axis-fits, codable, pair_is, line-code}
use Rattle.colour.proofs.Weighing.{shares-fit}

-- ---- the two rows of a code, in 1D: those of a grey pixel

pair-weighable : (d : Description) (table : List ℤ) (m : ℕ) → d.kind ≡ OneD → could_be_read d table ≡ true → 0 < m → (c : Colour) (code : ℕ)
    → Weighable (rows d) (den_of d m c) (pair_at d m c code)
unfolding pair
pair-weighable d table m one_d could deep c code =
    let pixel = grey code in
    subst (λ x. Weighable (rows d) (den_of d m c) (pair_at d m c x)) (grey-code code c)
    (subst (λ k. Weighable (rows d) (den_of d m c) (shares_for d m pixel k c)) one_d
    (subst (Weighable (rows d) (den_of d m c)) (used-shown d m pixel d.kind c) (rule-weighable d table m pixel could deep c)))

-- ---- a line

module _ {line : Line} {table : List ℤ} (l : Lined line table) where
  pub line-fits : AxisFits line.axis × CellsFit line.cells
  line-fits = subst (λ x. AxisFits x.axis × CellsFit x.cells) (sym l.is) (axis-fits l.planned line.colour, cells_fit l.planned)

  pub line-codable : Codable line.times line.axis (corrected_m l.planned.depths)
  line-codable = subst (λ x. Codable x.times x.axis (corrected_m l.planned.depths)) (sym l.is) (codable l.planned line.colour)

  pub line-shares : (code : ℕ) → SharesFit table (pair_of line.axis line.cells code)
  line-shares code =
      let p = l.planned in
      let c = line.colour in
      let w = pair-weighable p.d table (raw_m p.depths) l.one_d p.could p.deep c code in
      subst (λ x. SharesFit table (pair_of x.axis x.cells code)) (sym l.is)
      (shares-fit c p
      (subst (Weighable (rows_in l.plan) (axis_in l.plan c).den) (sym (pair_is p c code))
      (rw (rows_are p, den_is p c) w)))

  pub line_made : (code : ℕ) → code_by (corrected_m l.planned.depths) line.axis.den table line.colour (pair_of line.axis line.cells code)
      ≡ line_code l.planned.d table l.planned.depths line.colour code
  line_made code =
      ap (λ x. code_by (corrected_m l.planned.depths) x.axis.den table line.colour (pair_of x.axis x.cells code)) l.is
      ∙ line-code l.planned line.colour code
