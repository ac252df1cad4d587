-- Look answers 0, 20, 23 or 24: when each is given, and so of what could be read never 24.
use Prim.Native.Nat.{ℕ, ◌<◌}
use mathlib.Core.Path.{◌≡◌, refl, sym, subst, ap, ◌∙◌}
use mathlib.Core.Logic.{inl, inr}
use mathlib.Core.Bool.{Bool, true, false, ◌&&◌, true≢false}
use mathlib.Core.List.{List, [], ◌∷◌}
use borrow.Author.Tests.{leb-false, lt-leb}
use lib.Dec.{leb}
use lib.IntN.{ℤ}
use Rattle.rules.specs.Units.{depths_of, raw_m, code_in}
use Rattle.rules.specs.Descriptions.{could_be_read}
use Rattle.rules.specs.Looking.{look, within}
use Rattle.rules.specs.Answers.{look_number, refusal_number}
use Rattle.rules.specs.Promises.{Looks}
use Rattle.rules.specs.declared.Bits.{Bits}
use Rattle.rules.specs.declared.Codes.{Codes}
use Rattle.rules.specs.declared.Colour.{Colour}
use Rattle.rules.specs.declared.Colour.TheVariants.{Red, Green, Blue}
use Rattle.rules.specs.declared.Depths.{Depths}
use Rattle.rules.specs.declared.Description.{Description}
use Rattle.rules.proofs.Tests.{and-fails}
use Rattle.rules.proofs.KnownDepths.{OneUnknown, not-both, unknown-not-both}
use Rattle.rules.proofs.Looking.Checks.{look-24, look-20, look-23, look-0}
use Rattle.signature.specs.Numbers.{OneOf}
use Rattle.std.specs.Prelude.{None, Option, Some}
use Rattle.rules.specs.Results.{Look}

-- ---- a code above M

pub above_of : (m : ℕ) (pixel : Codes) → within m pixel ≡ false → (c : Colour) × (m < code_in pixel c)
unfolding within
above_of m pixel e = by (leb pixel.red m) (leb pixel.green m) (leb pixel.blue m) refl refl refl e
  where
    by : (r g b : Bool) → leb pixel.red m ≡ r → leb pixel.green m ≡ g → leb pixel.blue m ≡ b → r && (g && b) ≡ false → (c : Colour) × (m < code_in pixel c)
    by false g b p q s e = (Red, leb-false _ _ p)
    by true false b p q s e = (Green, leb-false _ _ q)
    by true true false p q s e = (Blue, leb-false _ _ s)
    by true true true p q s e = absurd (true≢false e)

pub of-above : (m : ℕ) (pixel : Codes) (c : Colour) → m < code_in pixel c → within m pixel ≡ false
unfolding within
of-above m pixel Red h = and-fails (leb pixel.red m) _ (inr (lt-leb pixel.red m h))
of-above m pixel Green h = and-fails (leb pixel.red m) _ (inl (and-fails (leb pixel.green m) _ (inr (lt-leb pixel.green m h))))
of-above m pixel Blue h = and-fails (leb pixel.red m) _ (inl (and-fails (leb pixel.green m) _ (inl (lt-leb pixel.blue m h))))

-- ---- when each number is given

pub data LookGiven (d : Description) (table : List ℤ) (bits : Bits) (pixel : Codes) : ℕ → Type 0 where
  -- what could not be read
  given-24 : could_be_read d table ≡ false → LookGiven d table bits pixel 24
  -- a depth that is unknown, whatever the pixel
  given-20 : could_be_read d table ≡ true → OneUnknown bits → LookGiven d table bits pixel 20
  -- a code above the raw M
  given-23 : could_be_read d table ≡ true → (depths : Depths) → depths_of bits ≡ Some depths → (c : Colour) → raw_m depths < code_in pixel c → LookGiven d table bits pixel 23
  -- none above it
  given-0 : could_be_read d table ≡ true → (depths : Depths) → depths_of bits ≡ Some depths → within (raw_m depths) pixel ≡ true → LookGiven d table bits pixel 0

module _ (d : Description) (table : List ℤ) (bits : Bits) (pixel : Codes) where
  -- the number of a look is one that is given there
  pub look-given : LookGiven d table bits pixel (look_number (look d table bits pixel))
  unfolding refusal_number
  look-given = by-24 (could_be_read d table) refl
    where
      Answer : Look → Type 0
      Answer r = LookGiven d table bits pixel (look_number r)

      by-23 : (depths : Depths) (b : Bool) → could_be_read d table ≡ true → depths_of bits ≡ Some depths → within (raw_m depths) pixel ≡ b → Answer (look d table bits pixel)
      by-23 depths true e k w = subst Answer (sym (look-0 d table bits pixel depths e k w)) (given-0 e depths k w)
      by-23 depths false e k w =
          let (c, above) = above_of (raw_m depths) pixel w in
          subst Answer (sym (look-23 d table bits pixel depths e k w)) (given-23 e depths k c above)

      by-20 : (x : Option Depths) → could_be_read d table ≡ true → depths_of bits ≡ x → Answer (look d table bits pixel)
      by-20 None e u = subst Answer (sym (look-20 d table bits pixel e u)) (given-20 e (not-both bits u))
      by-20 (Some depths) e k = by-23 depths (within (raw_m depths) pixel) e k refl

      by-24 : (b : Bool) → could_be_read d table ≡ b → Answer (look d table bits pixel)
      by-24 true e = by-20 (depths_of bits) e refl
      by-24 false e = subst Answer (sym (look-24 d table bits pixel e)) (given-24 e)

  -- and no other is given there
  pub given-look : (n : ℕ) → LookGiven d table bits pixel n → look_number (look d table bits pixel) ≡ n
  unfolding refusal_number
  given-look n (given-24 e) = ap look_number (look-24 d table bits pixel e)
  given-look n (given-20 e u) = ap look_number (look-20 d table bits pixel e (unknown-not-both bits u))
  given-look n (given-23 e depths k c above) = ap look_number (look-23 d table bits pixel depths e k (of-above (raw_m depths) pixel c above))
  given-look n (given-0 e depths k inside) = ap look_number (look-0 d table bits pixel depths e k inside)

-- so it is for every call that keeps look's promise
pub looks-given : {d : Description} {table : List ℤ} {bits : Bits} {pixel : Codes} {r : Look} → Looks d table bits pixel r → LookGiven d table bits pixel (look_number r)
looks-given {d} {table} {bits} {pixel} h = subst (LookGiven d table bits pixel) (sym h.number) (look-given d table bits pixel)

-- ---- the numbers

abbrev pub OfLook : Look → Type 0
OfLook r = OneOf (look_number r) (0 ∷ 20 ∷ 23 ∷ 24 ∷ [])

given-number : {d : Description} {table : List ℤ} {bits : Bits} {pixel : Codes} (n : ℕ) → LookGiven d table bits pixel n → OneOf n (0 ∷ 20 ∷ 23 ∷ 24 ∷ [])
given-number n (given-24 e) = inr (inr (inr (inl refl)))
given-number n (given-20 e u) = inr (inl refl)
given-number n (given-23 e depths k c above) = inr (inr (inl refl))
given-number n (given-0 e depths k inside) = inl refl

-- look answers 0, 20, 23 or 24
pub look-number : (d : Description) (table : List ℤ) (bits : Bits) (pixel : Codes) → OneOf (look_number (look d table bits pixel)) (0 ∷ 20 ∷ 23 ∷ 24 ∷ [])
look-number d table bits pixel = given-number _ (look-given d table bits pixel)

-- and so does every call that keeps look's promise
pub looks-number : {d : Description} {table : List ℤ} {bits : Bits} {pixel : Codes} {r : Look} → Looks d table bits pixel r → OneOf (look_number r) (0 ∷ 20 ∷ 23 ∷ 24 ∷ [])
looks-number h = given-number _ (looks-given h)

-- what could be read is not 24
pub look-not-24 : (d : Description) (table : List ℤ) (bits : Bits) (pixel : Codes) → could_be_read d table ≡ true → look_number (look d table bits pixel) ≡ 24 → ⊥
look-not-24 d table bits pixel could z = by (subst (LookGiven d table bits pixel) z (look-given d table bits pixel))
  where
    by : LookGiven d table bits pixel 24 → ⊥
    by (given-24 e) = true≢false (sym could ∙ e)
