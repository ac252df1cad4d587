-- Picture answers 0 or 20 to 24: when each is given, and so of what could be read never 24.
use Prim.Native.Nat.{ℕ, ◌%◌, ◌≤◌, ◌<◌}
use mathlib.Core.Path.{◌≡◌, refl, sym, subst, ap, ◌∙◌}
use mathlib.Core.Logic.{inl, inr}
use mathlib.Core.Bool.{Bool, true, false, true≢false}
use mathlib.Core.List.{List, [], ◌∷◌}
use native.Mathlib.Decide.{dec_le, ℕ_discrete}
use native.Mathlib.Omega.{arith}
use borrow.Author.Tests.{leb-false, lt-leb}
use lib.Dec.{leb}
use lib.IntN.{ℤ}
use lib.ListN.{length, get_or}
use Rattle.rules.specs.Units.{depths_of, raw_m}
use Rattle.rules.specs.Descriptions.{could_be_read}
use Rattle.rules.specs.Picturing.{picture}
use Rattle.rules.specs.Answers.{picture_number, refusal_number}
use Rattle.rules.specs.Promises.{Pictures}
use Rattle.rules.specs.declared.Bits.{Bits}
use Rattle.rules.specs.declared.Depths.{Depths}
use Rattle.rules.specs.declared.Description.{Description}
use Rattle.rules.proofs.KnownDepths.{OneUnknown, not-both, unknown-not-both}
use Rattle.rules.proofs.Picturing.Checks.{within_all, picture-24, picture-20, picture-21, picture-22, picture-23, picture-0}
use Rattle.signature.specs.Numbers.{OneOf}
use Rattle.signature.proofs.Either.{fails-some, some-fails}
use Rattle.std.specs.Prelude.{None, Option, Some}
use Rattle.rules.specs.Results.{Picture}

-- ---- a code above M

abbrev Above : ℕ → List ℕ → Type 0
Above m src = (k : ℕ) × (k < length src) × (m < get_or src k 0)

above_of : (m : ℕ) (src : List ℕ) → within_all m src ≡ false → Above m src
above_of m src e = let (k, inside, fails) = some-fails (λ c. leb c m) src e in (k, inside, leb-false _ _ fails)

of-above : (m : ℕ) (src : List ℕ) (k : ℕ) → k < length src → m < get_or src k 0 → within_all m src ≡ false
of-above m src k h above = fails-some (λ c. leb c m) src k h (lt-leb _ m above)

-- ---- when each number is given

pub data PictureGiven (d : Description) (table : List ℤ) (bits : Bits) (src : List ℕ) (places : ℕ) : ℕ → Type 0 where
  -- what could not be read
  given-24 : could_be_read d table ≡ false → PictureGiven d table bits src places 24
  -- a depth that is unknown, whatever the picture and the output
  given-20 : could_be_read d table ≡ true → OneUnknown bits → PictureGiven d table bits src places 20
  -- no whole pixels
  given-21 : could_be_read d table ≡ true → (depths : Depths) → depths_of bits ≡ Some depths → (length src % 3 ≡ 0 → ⊥) → PictureGiven d table bits src places 21
  -- an output without room for them
  given-22 : could_be_read d table ≡ true → (depths : Depths) → depths_of bits ≡ Some depths → length src % 3 ≡ 0 → places < length src
      → PictureGiven d table bits src places 22
  -- a code above the raw M
  given-23 : could_be_read d table ≡ true → (depths : Depths) → depths_of bits ≡ Some depths → length src % 3 ≡ 0 → length src ≤ places
      → (k : ℕ) → k < length src → raw_m depths < get_or src k 0 → PictureGiven d table bits src places 23
  -- none above it
  given-0 : could_be_read d table ≡ true → (depths : Depths) → depths_of bits ≡ Some depths → length src % 3 ≡ 0 → length src ≤ places
      → within_all (raw_m depths) src ≡ true → PictureGiven d table bits src places 0

module _ (d : Description) (table : List ℤ) (bits : Bits) (src : List ℕ) (places : ℕ) where
  -- the number of a picture is one that is given there
  pub picture-given : PictureGiven d table bits src places (picture_number (picture d table bits src places))
  unfolding refusal_number
  picture-given = by-24 (could_be_read d table) refl
    where
      Answer : Picture → Type 0
      Answer r = PictureGiven d table bits src places (picture_number r)

      by-23 : (depths : Depths) → could_be_read d table ≡ true → depths_of bits ≡ Some depths
          → Dec (length src % 3 ≡ 0) → Dec (length src ≤ places) → (b : Bool) → within_all (raw_m depths) src ≡ b → Answer (picture d table bits src places)
      by-23 depths e k (no over) room b w = subst Answer (sym (picture-21 d table bits src places depths e k over)) (given-21 e depths k over)
      by-23 depths e k (yes whole) (no short) b w =
          let less : places < length src = omega arith in
          subst Answer (sym (picture-22 d table bits src places depths e k whole less)) (given-22 e depths k whole less)
      by-23 depths e k (yes whole) (yes room) false w =
          let (at, inside, above) = above_of (raw_m depths) src w in
          subst Answer (sym (picture-23 d table bits src places depths e k whole room w)) (given-23 e depths k whole room at inside above)
      by-23 depths e k (yes whole) (yes room) true w = subst Answer (sym (picture-0 d table bits src places depths e k whole room w)) (given-0 e depths k whole room w)

      by-20 : (x : Option Depths) → could_be_read d table ≡ true → depths_of bits ≡ x → Answer (picture d table bits src places)
      by-20 None e u = subst Answer (sym (picture-20 d table bits src places e u)) (given-20 e (not-both bits u))
      by-20 (Some depths) e k = by-23 depths e k (ℕ_discrete (length src % 3) 0) (dec_le (length src) places) (within_all (raw_m depths) src) refl

      by-24 : (b : Bool) → could_be_read d table ≡ b → Answer (picture d table bits src places)
      by-24 true e = by-20 (depths_of bits) e refl
      by-24 false e = subst Answer (sym (picture-24 d table bits src places e)) (given-24 e)

  -- and no other is given there
  pub given-picture : (n : ℕ) → PictureGiven d table bits src places n → picture_number (picture d table bits src places) ≡ n
  unfolding refusal_number
  given-picture n (given-24 e) = ap picture_number (picture-24 d table bits src places e)
  given-picture n (given-20 e u) = ap picture_number (picture-20 d table bits src places e (unknown-not-both bits u))
  given-picture n (given-21 e depths k over) = ap picture_number (picture-21 d table bits src places depths e k over)
  given-picture n (given-22 e depths k whole less) = ap picture_number (picture-22 d table bits src places depths e k whole less)
  given-picture n (given-23 e depths k whole room at inside above) =
      ap picture_number (picture-23 d table bits src places depths e k whole room (of-above (raw_m depths) src at inside above))
  given-picture n (given-0 e depths k whole room inside) = ap picture_number (picture-0 d table bits src places depths e k whole room inside)

-- so it is for every call that keeps picture's promise
pub pictures-given : {d : Description} {table : List ℤ} {bits : Bits} {src dst dst' : List ℕ} {r : Picture} → Pictures d table bits src dst r dst'
    → PictureGiven d table bits src (length dst) (picture_number r)
pictures-given {d} {table} {bits} {src} {dst} h = subst (PictureGiven d table bits src (length dst)) (sym h.number) (picture-given d table bits src (length dst))

-- ---- the numbers

abbrev pub OfPicture : Picture → Type 0
OfPicture r = OneOf (picture_number r) (0 ∷ 20 ∷ 21 ∷ 22 ∷ 23 ∷ 24 ∷ [])

given-number : {d : Description} {table : List ℤ} {bits : Bits} {src : List ℕ} {places : ℕ} (n : ℕ) → PictureGiven d table bits src places n
    → OneOf n (0 ∷ 20 ∷ 21 ∷ 22 ∷ 23 ∷ 24 ∷ [])
given-number n (given-24 e) = inr (inr (inr (inr (inr (inl refl)))))
given-number n (given-20 e u) = inr (inl refl)
given-number n (given-21 e depths k over) = inr (inr (inl refl))
given-number n (given-22 e depths k whole less) = inr (inr (inr (inl refl)))
given-number n (given-23 e depths k whole room at inside above) = inr (inr (inr (inr (inl refl))))
given-number n (given-0 e depths k whole room inside) = inl refl

-- picture answers 0, 20, 21, 22, 23 or 24
pub picture-number : (d : Description) (table : List ℤ) (bits : Bits) (src : List ℕ) (places : ℕ)
    → OneOf (picture_number (picture d table bits src places)) (0 ∷ 20 ∷ 21 ∷ 22 ∷ 23 ∷ 24 ∷ [])
picture-number d table bits src places = given-number _ (picture-given d table bits src places)

-- and so does every call that keeps picture's promise
pub pictures-number : {d : Description} {table : List ℤ} {bits : Bits} {src dst dst' : List ℕ} {r : Picture} → Pictures d table bits src dst r dst'
    → OneOf (picture_number r) (0 ∷ 20 ∷ 21 ∷ 22 ∷ 23 ∷ 24 ∷ [])
pictures-number h = given-number _ (pictures-given h)

-- what could be read is not 24
pub picture-not-24 : (d : Description) (table : List ℤ) (bits : Bits) (src : List ℕ) (places : ℕ) → could_be_read d table ≡ true
    → picture_number (picture d table bits src places) ≡ 24 → ⊥
picture-not-24 d table bits src places could z = by (subst (PictureGiven d table bits src places) z (picture-given d table bits src places))
  where
    by : PictureGiven d table bits src places 24 → ⊥
    by (given-24 e) = true≢false (sym could ∙ e)
