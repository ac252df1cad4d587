-- What is looked up for a pixel among the kept codes of the three colours is what look gives it, as each colour is a matter of its own codes.
use Prim.Native.Nat.{ℕ, ◌+◌, ◌*◌, ◌<◌}
use mathlib.Core.Path.{◌≡◌, sym, ap, subst, ◌∙◌}
use mathlib.Core.List.{List}
use native.Mathlib.Nat as NatL
use native.Mathlib.Omega.{arith}
use lib.IntN.{ℤ}
use lib.ListN.{length, get_or}
use Rattle.rules.specs.Units.{code_in}
use Rattle.rules.specs.Looking.{line_code, correct}
use Rattle.rules.specs.Picturing.{each_pixel}
use Rattle.rules.specs.Demands.{pixel_at}
use Rattle.rules.specs.declared.Codes.{Codes}
use Rattle.rules.specs.declared.Colour.{Colour}
use Rattle.rules.specs.declared.Colour.TheVariants.{Red, Green, Blue}
use Rattle.rules.specs.declared.Depths.{Depths}
use Rattle.rules.specs.declared.Description.{Description}
use Rattle.rules.specs.declared.Kind.TheVariants.{OneD}
use Rattle.rules.proofs.Looking.Demand3.{line-looked}
use Rattle.rules.proofs.Picturing.Checks.{each_same}
use Rattle.colour.specs.Plans.{Planned}
use Rattle.colour.specs.Lines.{line_of}
use Rattle.colour.specs.declared.lines.Line.{Line}
use Rattle.colour.specs.declared.plan.Plan.{Plan}
use Rattle.colour.proofs.Totals.{each-colour}
use Rattle.colour.proofs.Weighing.{same_codes}
use Rattle.picture.specs.Filling.{pixel_from}
use Rattle.picture.specs.Keeping.{Kept, kept_pixel, Listed}
use Rattle.picture.specs.Passes.{line_by}
use Rattle.picture.proofs.ThreePasses.{lined-so}

-- ---- places for the codes of a pixel

module _ {reds greens blues src : List ℕ} (l : Listed reds greens blues src) (i : ℕ) (h : i + 2 < length src) {pixel : Codes} (e : pixel ≡ pixel_from src i) where
  pub red-there : pixel.red < length reds
  red-there = NatL.lt_of_lt_of_le (subst (λ (x : Codes). x.red < l.count) (sym e) (l.below i (omega (arith, h)))) l.reds_long

  pub green-there : pixel.green < length greens
  green-there = NatL.lt_of_lt_of_le (subst (λ (x : Codes). x.green < l.count) (sym e) (l.below (i + 1) (omega (arith, h)))) l.greens_long

  pub blue-there : pixel.blue < length blues
  blue-there = NatL.lt_of_lt_of_le (subst (λ (x : Codes). x.blue < l.count) (sym e) (l.below (i + 2) (omega (arith, h)))) l.blues_long

-- ---- the codes that are looked up

-- the codes kept by a line of a plan are those of its colour
pub kept-so : {plan : Plan} {table : List ℤ} {c : Colour} (p : Planned plan table) (one_d : plan.kind ≡ OneD) {line : Line} (is : line ≡ line_of plan c) {count : ℕ} {kept : List ℕ}
    → Kept (line_by (lined-so p one_d is)) count kept → Kept (line_code p.d table p.depths c) count kept
kept-so {table = table} p one_d is {count} {kept} s = subst (λ x. Kept (line_code p.d table p.depths x) count kept) (ap (λ x. x.colour) is) s

module _ (d : Description) (table : List ℤ) (depths : Depths) (one_d : d.kind ≡ OneD) {count : ℕ} {reds greens blues : List ℕ} (r : Kept (line_code d table depths Red) count reds)
    (g : Kept (line_code d table depths Green) count greens) (b : Kept (line_code d table depths Blue) count blues) (src : List ℕ)
    (below : (k : ℕ) → k < length src → get_or src k 0 < count) where
  pixel-kept : (k : ℕ) → 3 * k + 2 < length src → kept_pixel reds greens blues (pixel_at src k) ≡ correct d table depths (pixel_at src k)
  pixel-kept k h =
      same_codes _ _
      (each-colour _ (r.are _ (below (3 * k) (omega (arith, h))) ∙ looked Red)
      (g.are _ (below (3 * k + 1) (omega (arith, h))) ∙ looked Green)
      (b.are _ (below (3 * k + 2) h) ∙ looked Blue))
    where
      looked : (c : Colour) → line_code d table depths c (code_in (pixel_at src k) c) ≡ code_in (correct d table depths (pixel_at src k)) c
      looked c = sym (line-looked d table one_d depths (pixel_at src k) c)

  pub kept-corrects : each_pixel (kept_pixel reds greens blues) src ≡ each_pixel (correct d table depths) src
  kept-corrects = each_same (kept_pixel reds greens blues) (correct d table depths) src pixel-kept
