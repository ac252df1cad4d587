-- Rows and weights that may be weighed have a sum that fits an i64, and its code is that of the definition; the rows and weights of a pixel may be
-- weighed, and their codes are the corrected ones.
use Prim.Native.Nat.{ℕ, ◌+◌, ◌*◌, ◌<◌}
use mathlib.Core.Path.{◌≡◌, refl, sym, ap, ap₂, subst, ◌∙◌}
use mathlib.Core.List.{List, [], ◌∷◌}
use native.Mathlib.Omega.{arith}
use lib.IntN.{ℤ, pos, nat_abs, ◌+ℤ◌, ◌*ℤ◌}
use lib.Signed.{◌≤ℤ◌}
use Rattle.whole.specs.Nearest.{code}
use Rattle.whole.proofs.Halves as H
use Rattle.rules.specs.Units.{raw_m, corrected_m, colour_place, code_in}
use Rattle.rules.specs.Descriptions.{rows, Sound}
use Rattle.rules.specs.Looking.Interpolation.{den_of, code_by}
use Rattle.rules.specs.Looking.Judging.{sum_of}
use Rattle.rules.specs.Looking.{shown, used, codes_by}
use Rattle.rules.specs.Demands.{Each, Weighable}
use Rattle.rules.specs.declared.Codes.{Codes}
use Rattle.rules.specs.declared.Colour.{Colour}
use Rattle.rules.specs.declared.Colour.TheVariants.{Red, Green, Blue}
use Rattle.rules.specs.declared.Description.{Description}
use Rattle.rules.specs.declared.Kind.{Kind}
use Rattle.rules.specs.declared.Kind.TheVariants.{ThreeD}
use Rattle.rules.specs.declared.Share.{Share}
use Rattle.rules.specs.declared.Shares.{Shares}
use Rattle.rules.proofs.Colours.{place-below}
use Rattle.rules.proofs.Sound.{sound-of}
use Rattle.rules.proofs.Looking.Demand3.{code-by, rule-weighable}
use Rattle.colour.specs.Plans.{axis_in, rows_in, Planned}
use Rattle.colour.specs.Adding.{RowAt, carried, SharesFit, Totalled, Codable}
use Rattle.colour.specs.declared.plan.Axis.{Axis}
use Rattle.colour.specs.declared.plan.Plan.{Plan}
use Rattle.colour.proofs.Plans.{kind-is, rows_are, axis-of, den_is, one-den, axis-fits, codable}

-- ---- rows of the table, and weights that come to D

module _ (d : Description) (table : List ℤ) (s : Sound d table) where
  pub row-stands : (row : ℕ) → row < rows d → RowAt table (3 * row)
  row-stands row h =
      record { inside = omega (arith, s.long); small = λ c. s.samples (3 * row + colour_place c) (omega (arith, place-below c)) }

  pub rows-stand : (ss : List Share) → Each (λ x. x.row < rows d) ss → Each (λ x. RowAt table (3 * x.row)) ss
  rows-stand [] h = tt
  rows-stand (x ∷ xs) h = (row-stands x.row h.0, rows-stand xs h.1)

not-negative-up : (z : ℤ) → pos 0 ≤ℤ z → z ≡ pos (nat_abs z)
not-negative-up z h = H.eq-by z (pos (nat_abs z)) (omega (arith, H.le h, H.split z))

pub carried-is : (ss : List Share) → Each (λ x. pos 0 ≤ℤ x.weight) ss → sum_of ss ≡ pos (carried ss)
carried-is [] h = refl
carried-is (x ∷ xs) h =
    ap (λ z. z +ℤ sum_of xs) (not-negative-up x.weight h.0) ∙ ap (λ z. pos (nat_abs x.weight) +ℤ z) (carried-is xs h.1)

-- what the second half is given may be added up
pub shares-fit : {plan : Plan} {table : List ℤ} (c : Colour) {ss : List Share} → Planned plan table → Weighable (rows_in plan) (axis_in plan c).den ss → SharesFit table ss
shares-fit {plan} {table} c {ss} p w =
    record {
      rows = rows-stand p.d table (sound-of p.d table p.could) ss (subst (λ n. Each (λ x. x.row < n) ss) (rows_are p) w.in_table);
      weights = omega (arith, ap nat_abs (sym (carried-is ss w.not_negative) ∙ w.add_up), (axis-fits p c).most);
    }

-- ---- the code of a sum

module _ {table : List ℤ} {c : Colour} {ss : List Share} {z : ℤ} (t : Totalled table c ss z) where
  pub sum-code : {p : ℕ} {axis : Axis} {m r : ℕ} → Codable p axis m → r ≡ code (pos m *ℤ z) axis.full m → r ≡ code_by m axis.den table c ss
  unfolding code_by
  sum-code {m = m} a e = e ∙ ap₂ (λ x y. code (pos m *ℤ x) y m) t.is a.full

-- ---- by the kind that the plan has

module _ {plan : Plan} {table : List ℤ} {k : Kind} (p : Planned plan table) (shares : Shares) (e : plan.kind ≡ k) where
  pub kind-fit : ((c : Colour) → Weighable (rows_in plan) (axis_in plan c).den (used plan.kind c shares)) → (c : Colour) → SharesFit table (used k c shares)
  kind-fit w c = subst (λ x. SharesFit table (used x c shares)) e (shares-fit c p (w c))

  pub kind-codes : {r : Codes} → ((c : Colour) → code_in r c ≡ code_by (corrected_m p.depths) (axis_in plan c).den table c (used k c shares))
      → (c : Colour) → code_in r c ≡ code_by (corrected_m p.depths) (axis_in plan c).den table c (used plan.kind c shares)
  kind-codes h c = h c ∙ ap (λ x. code_by (corrected_m p.depths) (axis_in plan c).den table c (used x c shares)) (sym e)

  -- 3D: the three colours have one D, so that the red axis serves them all
  pub cube-codes : {r : Codes} {z : Colour → ℤ} → k ≡ ThreeD → ((c : Colour) → Totalled table c (used k c shares) (z c))
      → let m = corrected_m p.depths in ((c : Colour) → code_in r c ≡ code (pos m *ℤ z c) plan.red.full m)
      → (c : Colour) → code_in r c ≡ code_by m (axis_in plan c).den table c (used k c shares)
  cube-codes three t h c =
      sum-code (t c) (codable p Red) (h c) ∙ ap (λ x. code_by (corrected_m p.depths) x table c (used k c shares)) (one-den p (e ∙ three) c)

-- ---- rows and weights by the plan, and by the description that it was made of

-- codes that are equal colour by colour are equal
pub same_codes : (r s : Codes) → ((c : Colour) → code_in r c ≡ code_in s c) → r ≡ s
same_codes r s h i = record { red = h Red i; green = h Green i; blue = h Blue i }

module _ {plan : Plan} {table : List ℤ} (p : Planned plan table) (shares : Shares) where
  -- what may be weighed by the description may be by the plan
  pub plan-weighable : ((c : Colour) → Weighable (rows p.d) (den_of p.d (raw_m p.depths) c) (used p.d.kind c shares))
      → (c : Colour) → Weighable (rows_in plan) (axis_in plan c).den (used plan.kind c shares)
  plan-weighable w c = subst (λ k. Weighable (rows_in plan) (axis_in plan c).den (used k c shares)) (sym (kind-is p)) (rw (rows_are p, den_is p c) (w c))

  -- and the codes made by the plan are those of the description
  pub plan-codes : {r : Codes} → ((c : Colour) → code_in r c ≡ code_by (corrected_m p.depths) (axis_in plan c).den table c (used plan.kind c shares))
      → r ≡ codes_by p.d table p.depths shares
  plan-codes {r} h = same_codes r (codes_by p.d table p.depths shares) (λ c. by c ∙ sym (code-by p.d table p.depths shares c))
    where
      m : ℕ
      m = corrected_m p.depths

      by : (c : Colour) → code_in r c ≡ code_by m (den_of p.d (raw_m p.depths) c) table c (used p.d.kind c shares)
      by c =
          h c
          ∙ ap (λ x. code_by m (axis_in x c).den table c (used x.kind c shares)) p.is
          ∙ ap (λ x. code_by m x.den table c (used p.d.kind c shares)) (axis-of p.d p.depths c)

  -- what is shown of a pixel may be weighed
  pub shown-weighable : (pixel : Codes) → shares ≡ shown p.d (raw_m p.depths) pixel p.d.kind
      → (c : Colour) → Weighable (rows_in plan) (axis_in plan c).den (used plan.kind c shares)
  shown-weighable pixel e = plan-weighable (λ c. rw e (rule-weighable p.d table (raw_m p.depths) pixel p.could p.deep c))
