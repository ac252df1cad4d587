-- The exact value of a pixel by the lanes of a cube is that of the rule. The lanes read each position in parts of g each; g times such a reading is a reading
-- over the D of the rule, and so gives the rule's S. Its weights are g times those in parts, so that S is g times the sum in parts, over g times their D.
use Prim.Native.Nat.{ℕ, suc, ◌*◌, ◌≤◌}
use mathlib.Core.Path.{◌≡◌, sym, ap, subst, ◌∙◌}
use mathlib.Core.List.{List}
use native.Mathlib.Nat as NatL
use native.Mathlib.Omega.{arith}
use lib.IntN.{ℤ, pos, ◌*ℤ◌}
use Rattle.whole.specs.Nearest.{code}
use Rattle.rules.specs.Units.{raw_m, corrected_m, code_in}
use Rattle.rules.specs.Looking.Interpolation.{Order, den_of, position_of, path_by, shares_for, total, code_by}
use Rattle.rules.specs.Looking.Readings.{Reading, Descends}
use Rattle.rules.specs.Looking.{shown, correct}
use Rattle.rules.specs.Demands as D
use Rattle.rules.specs.declared.Codes.{Codes}
use Rattle.rules.specs.declared.Colour.{Colour}
use Rattle.rules.specs.declared.Depths.{Depths}
use Rattle.rules.specs.declared.Description.{Description}
use Rattle.rules.specs.declared.Kind.TheVariants.{ThreeD}
use Rattle.rules.proofs.Sound.{sound-of}
use Rattle.rules.proofs.Looking.Demand3.{one_value, used-shown, code-by}
use Rattle.colour.proofs.Plans as P
use Rattle.lanes.specs.Lanes.{index_by, fraction_by}
use Rattle.lanes.specs.Cubes.{lane_in, Cubed}
use Rattle.lanes.specs.declared.cube.Cube.{Cube}
use Rattle.lanes.proofs.Running.{runs-read}
use Rattle.lanes.proofs.Positions.{position_in, position-in-parts}
use Rattle.lanes.proofs.Scaled.{reading-scaled, descends-scaled, total-scaled, path-scaled, code-in-parts}

-- ---- a pixel by the lanes of a cube

module _ (cube : Cube) (pixel : Codes) where
  abbrev pub index_on : Colour → ℕ
  index_on k = index_by (lane_in cube.lanes k) (code_in pixel k)

  abbrev pub fraction_on : Colour → ℕ
  fraction_on k = fraction_by cube.axis.den (lane_in cube.lanes k) (code_in pixel k)

module _ {cube : Cube} {table : List ℤ} (q : Cubed cube table) where
  abbrev d : Description
  d = q.planned.d

  abbrev depths : Depths
  depths = q.planned.depths

  abbrev raw : ℕ
  raw = raw_m depths

  abbrev den : ℕ
  den = cube.axis.den

  pub three_d : d.kind ≡ ThreeD
  three_d = sym (P.kind-is q.planned) ∙ q.three_d

  pub n-is : suc q.plan.cells ≡ d.n
  n-is = omega (arith, ap (λ x. x.cells) q.planned.is, (sound-of d table q.planned.could).least)

  -- the three colours have one D, g times that of the cube; so in parts of g each they have one too
  pub rule-den : (k : Colour) → den_of d raw k ≡ q.g * den
  rule-den k = sym (P.den_is q.planned k) ∙ sym (P.one-den q.planned q.three_d k) ∙ q.parted.den_is

  pub parts-den : (k : Colour) → (q.lanes k).parts.den ≡ den
  parts-den k =
      NatL.eq_of_mul-eq-mul_left q.g q.some (q.lanes k).parts.den den (sym (q.lanes k).parted.den_is ∙ P.den_is q.planned k ∙ rule-den k)

  module _ (pixel : Codes) (inside : (k : Colour) → code_in pixel k ≤ raw) where
    -- each colour's position in parts of g each
    pub cube-reads : (k : Colour) → Reading d.n den (position_in q.plan.cells (q.lanes k).parts (code_in pixel k)) (index_on cube pixel k) (fraction_on cube pixel k)
    cube-reads k =
        let lane = lane_in cube.lanes k in
        let p = position_in q.plan.cells (q.lanes k).parts (code_in pixel k) in
        subst (λ n. Reading n den p (index_on cube pixel k) (fraction_on cube pixel k)) n-is
        (subst (λ x. Reading (suc q.plan.cells) x p (index_on cube pixel k) (fraction_by x lane (code_in pixel k))) (parts-den k)
        (runs-read (q.lanes k).runs (code_in pixel k) (inside k)))

    -- the rule's position is g times it
    position-scaled : (k : Colour) → position_of d raw pixel k ≡ q.g * position_in q.plan.cells (q.lanes k).parts (code_in pixel k)
    position-scaled k =
        sym (P.position-by q.planned k (code_in pixel k))
        ∙ position-in-parts (q.lanes k).parted (q.lanes k).runs.inside (P.cells_fit q.planned).some (code_in pixel k) (inside k)

    -- and g times the reading one of that
    reads-rule : (k : Colour) → Reading d.n (den_of d raw k) (position_of d raw pixel k) (index_on cube pixel k) (q.g * fraction_on cube pixel k)
    reads-rule k =
        let i = index_on cube pixel k in
        let f = q.g * fraction_on cube pixel k in
        let p = position_in q.plan.cells (q.lanes k).parts (code_in pixel k) in
        subst (λ x. Reading d.n (den_of d raw k) x i f) (sym (position-scaled k))
        (subst (λ x. Reading d.n x (q.g * p) i f) (sym (rule-den k)) (reading-scaled q.g (cube-reads k)))

    module _ (o : Order) (s : Descends (fraction_on cube pixel) o) (c : Colour) where
      abbrev cube-total : ℤ
      cube-total = total table c (path_by d.n den (index_on cube pixel) (fraction_on cube pixel) o)

      -- so that the sum by it, times g, is S
      rule-total : total table c (shares_for d raw pixel d.kind c) ≡ pos q.g *ℤ cube-total
      rule-total =
          let i = index_on cube pixel in
          let f : Colour → ℕ = λ k. q.g * fraction_on cube pixel k in
          let t = total table c (path_by d.n (den_of d raw c) i f o) in
          let by-cube : D.ByReading d table raw pixel c ThreeD t = D.cube i f o reads-rule (descends-scaled q.g s) in
          sym (one_value d table raw pixel q.planned.could q.planned.deep c t (subst (λ k. D.ByReading d table raw pixel c k t) (sym three_d) by-cube))
          ∙ ap (λ x. total table c (path_by d.n x i f o)) (rule-den c)
          ∙ total-scaled q.g table c (path-scaled q.g d.n den i (fraction_on cube pixel) o)

      -- and gives the rule's code
      pub cube-value : code (pos (corrected_m depths) *ℤ cube-total) cube.axis.full (corrected_m depths) ≡ code_in (correct d table depths pixel) c
      cube-value =
          let m = corrected_m depths in
          sym
          (code-by d table depths (shown d raw pixel d.kind) c
          ∙ ap (λ ss. code_by m (den_of d raw c) table c ss) (used-shown d raw pixel d.kind c)
          ∙ ap (λ x. code_by m x table c (shares_for d raw pixel d.kind c)) (rule-den c)
          ∙ code-in-parts q.g den m table c (shares_for d raw pixel d.kind c) cube-total q.some rule-total
          ∙ ap (λ x. code (pos m *ℤ cube-total) x m) (sym q.parted.full_is))
