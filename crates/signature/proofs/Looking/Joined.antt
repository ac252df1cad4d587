-- Document 02, Req 09: with known depths the two halves of a look, joined, are the look and its refusals. What the first half finds the second accepts.
-- Where a depth is unknown they differ in one case alone.
use Prim.Native.Nat.{ℕ, ◌<◌}
use mathlib.Core.Path.{◌≡◌, refl, sym, ap, subst, ◌∙◌}
use mathlib.Core.Logic.{inl, inr}
use mathlib.Core.Bool.{Bool, true, false}
use mathlib.Core.List.{List}
use native.Mathlib.Omega.{arith}
use lib.IntN.{ℤ}
use Rattle.rules.specs.Units.{depth_of, depths_of, raw_m, code_in}
use Rattle.rules.specs.Descriptions.{could_be_read}
use Rattle.rules.specs.Looking.{within, shown, correct, look, first_half, second_half}
use Rattle.rules.specs.Promises.{Looks, FindsRows, GivesCodes}
use Rattle.rules.specs.declared.Bits.{Bits}
use Rattle.rules.specs.declared.Codes.{Codes}
use Rattle.rules.specs.declared.Colour.{Colour}
use Rattle.rules.specs.declared.Depth.{Depth}
use Rattle.rules.specs.declared.Depths.{Depths}
use Rattle.rules.specs.declared.Description.{Description}
use Rattle.rules.specs.declared.Refusal.{Refusal}
use Rattle.rules.specs.declared.Refusal.TheVariants.{DepthUnknown, CodeTooGreat}
use Rattle.rules.specs.declared.Shares.{Shares}
use Rattle.rules.proofs.Answers.{is-looks, finds-is, gives-is}
use Rattle.rules.proofs.KnownDepths.{OneUnknown, each-known, depths-bounds, not-both, unknown-not-both}
use Rattle.rules.proofs.Looking.Checks.{look-24, look-20, look-23, look-0}
use Rattle.rules.proofs.Looking.Demand3.{rule-weighable}
use Rattle.rules.proofs.Looking.Halves.{rows-23, rows-0, first-24, first-20, first-with, second-20, second-0}
use Rattle.rules.proofs.Looking.Judging.{weighable-all}
use Rattle.signature.specs.Joined.{beside, then_codes, joined}
use Rattle.signature.proofs.Looking.Numbers.{above_of, of-above}
use Rattle.std.specs.Prelude.{Err, None, Ok, Option, Some}
use Rattle.rules.specs.Results.{FirstHalf, Look, SecondHalf, look_of}

-- the second half after whatever the first answered
abbrev continued : Description → List ℤ → Bits → FirstHalf → Look
continued d table bits first = then_codes first (second_half d table bits)

-- what the second half gives of rows and weights that were found, and what look gives there
pub record SameCodes (d : Description) (table : List ℤ) (bits : Bits) (pixel : Codes) (shares : Shares) : Type 0 where
  pub codes : Codes
  pub second : second_half d table bits shares ≡ Ok codes
  pub looked : look d table bits pixel ≡ look_of codes shares

module _ (d : Description) (table : List ℤ) (bits : Bits) (pixel : Codes) (depths : Depths) (known : depths_of bits ≡ Some depths) where
  -- the first half and look, case by case
  data Compared : Type 0 where
    both-refuse : (r : Refusal) → first_half d table bits.raw pixel ≡ Err r → look d table bits pixel ≡ Err r → Compared
    both-accept : (shares : Shares) → first_half d table bits.raw pixel ≡ Ok shares → SameCodes d table bits pixel shares → Compared

  compared : Compared
  compared = by (could_be_read d table) refl (within (raw_m depths) pixel) refl
    where
      raw-known : depth_of bits.raw ≡ Some depths.raw
      raw-known = (each-known bits depths known).raw

      by : (a : Bool) → could_be_read d table ≡ a → (b : Bool) → within (raw_m depths) pixel ≡ b → Compared
      by false e b w = both-refuse _ (first-24 d table bits.raw pixel e) (look-24 d table bits pixel e)
      by true e false w =
          both-refuse _
          (first-with d table bits.raw pixel depths.raw e raw-known ∙ rows-23 d (raw_m depths) pixel w)
          (look-23 d table bits pixel depths e known w)
      by true e true w =
          let weighable = rule-weighable d table (raw_m depths) pixel e (depths-bounds bits depths known).0.0 in
          let found = shown d (raw_m depths) pixel d.kind in
          both-accept found
          (first-with d table bits.raw pixel depths.raw e raw-known ∙ rows-0 d (raw_m depths) pixel w)
          (record {
            codes = correct d table depths pixel;
            second = second-0 d table bits found depths e known (weighable-all d (raw_m depths) found weighable);
            looked = look-0 d table bits pixel depths e known w;
          })

  -- look is the two halves joined: the first's refusal, else the second's, else the codes with the rows and weights
  pub halves-joined : look d table bits pixel ≡ joined d table bits pixel
  halves-joined = by compared
    where
      by : Compared → look d table bits pixel ≡ joined d table bits pixel
      by (both-refuse r f l) = l ∙ sym (ap (continued d table bits) f)
      by (both-accept shares f a) = a.looked ∙ sym (ap (continued d table bits) f ∙ ap (beside shares) a.second)

  -- what the first half refuses look refuses with the same number
  pub first-refused : {r : Refusal} → first_half d table bits.raw pixel ≡ Err r → look d table bits pixel ≡ Err r
  first-refused f = halves-joined ∙ ap (continued d table bits) f

  -- of what it finds the second half gives the codes of look, and look's rows and weights are these
  pub first-accepted : {shares : Shares} → first_half d table bits.raw pixel ≡ Ok shares → SameCodes d table bits pixel shares
  first-accepted {shares} f = by compared
    where
      by : Compared → SameCodes d table bits pixel shares
      by (both-refuse r g l) = let z : ◌≡◌ {A = ℕ} 0 1 = cc in absurd (omega arith)
      by (both-accept others g a) = let e : shares ≡ others = cc in subst (SameCodes d table bits pixel) (sym e) a

  -- by the promises alone: whatever finds rows and then, of what was found, whatever gives codes, answers as look promises
  pub finds-then-gives : {found : FirstHalf} {gives : Shares → SecondHalf} → FindsRows d table bits.raw pixel found
      → ((shares : Shares) → found ≡ Ok shares → GivesCodes d table bits shares (gives shares))
      → Looks d table bits pixel (then_codes found gives)
  finds-then-gives {found} {gives} f g = is-looks (by found refl (finds-is f))
    where
      by : (x : FirstHalf) → found ≡ x → x ≡ first_half d table bits.raw pixel → then_codes x gives ≡ look d table bits pixel
      by (Err r) e h = sym (first-refused (sym h))
      by (Ok shares) e h =
          ap (beside shares) (gives-is (g shares e)) ∙ ap (continued d table bits) h ∙ sym halves-joined

-- ---- where a depth is unknown

-- the raw depth is known, the corrected is not, and a code is above the raw M: the first half does not know of the corrected depth
pub record Differ (d : Description) (table : List ℤ) (bits : Bits) (pixel : Codes) : Type 0 where
  pub readable : could_be_read d table ≡ true
  pub depth : Depth
  pub raw : depth_of bits.raw ≡ Some depth
  pub corrected : depth_of bits.corrected ≡ None
  pub colour : Colour
  pub above : depth.greatest < code_in pixel colour

module _ (d : Description) (table : List ℤ) (bits : Bits) (pixel : Codes) where
  -- there look refuses with 20, and the halves with 23
  pub differ-so : Differ d table bits pixel → (look d table bits pixel ≡ Err DepthUnknown) × (joined d table bits pixel ≡ Err CodeTooGreat)
  differ-so x =
      let m = x.depth.greatest in
      let refused = rows-23 d m pixel (of-above m pixel x.colour x.above) in (
        look-20 d table bits pixel x.readable (unknown-not-both bits (inr (x.depth, x.raw, x.corrected))),
        ap (continued d table bits) (first-with d table bits.raw pixel x.depth x.readable x.raw ∙ refused),
      )

  -- everywhere else they are one
  pub joined-elsewhere : (Differ d table bits pixel → ⊥) → look d table bits pixel ≡ joined d table bits pixel
  joined-elsewhere not_there = by (could_be_read d table) refl (depths_of bits) refl
    where
      by-23 : (raw : Depth) (t : Bool) → could_be_read d table ≡ true → depths_of bits ≡ None → depth_of bits.raw ≡ Some raw → depth_of bits.corrected ≡ None
          → within raw.greatest pixel ≡ t → look d table bits pixel ≡ joined d table bits pixel
      by-23 raw true e u p q w =
          let found = shown d raw.greatest pixel d.kind in
          look-20 d table bits pixel e u
          ∙ sym (ap (continued d table bits) (first-with d table bits.raw pixel raw e p ∙ rows-0 d raw.greatest pixel w) ∙ ap (beside found) (second-20 d table bits found e u))
      by-23 raw false e u p q w =
          let (c, above) = above_of raw.greatest pixel w in
          absurd (not_there (record { readable = e; depth = raw; raw = p; corrected = q; colour = c; above = above }))

      by-20 : could_be_read d table ≡ true → depths_of bits ≡ None → OneUnknown bits → look d table bits pixel ≡ joined d table bits pixel
      by-20 e u (inl p) = look-20 d table bits pixel e u ∙ sym (ap (continued d table bits) (first-20 d table bits.raw pixel e p))
      by-20 e u (inr (raw, p, q)) = by-23 raw (within raw.greatest pixel) e u p q refl

      by : (t : Bool) → could_be_read d table ≡ t → (x : Option Depths) → depths_of bits ≡ x → look d table bits pixel ≡ joined d table bits pixel
      by false e x k = look-24 d table bits pixel e ∙ sym (ap (continued d table bits) (first-24 d table bits.raw pixel e))
      by true e None u = by-20 e u (not-both bits u)
      by true e (Some depths) k = halves-joined d table bits pixel depths k
