-- The first half of a look answers 0, 20, 23 or 24, the second 0, 20, 24 or 26: when each is given, and so of what could be read never 24. A refusal gives
-- zeros.
use Prim.Native.Nat.{ℕ, ◌<◌}
use mathlib.Core.Path.{◌≡◌, refl, sym, subst, ap, ◌∙◌}
use mathlib.Core.Logic.{inl, inr, ◌↔◌}
use mathlib.Core.Bool.{Bool, true, false, true≢false}
use mathlib.Core.List.{List, [], ◌∷◌}
use lib.IntN.{ℤ, pos}
use lib.ListN.{replicate}
use Rattle.rules.specs.Units.{depth_of, depths_of, raw_m, code_in}
use Rattle.rules.specs.Descriptions.{rows, could_be_read}
use Rattle.rules.specs.Looking.Interpolation.{den_of}
use Rattle.rules.specs.Looking.{within, used, first_half, judged_for, judged_all, second_half}
use Rattle.rules.specs.Answers.{refusal_number, first_number, first_rows, first_weights, second_number, second_codes}
use Rattle.rules.specs.Promises.{FindsRows, GivesCodes}
use Rattle.rules.specs.Demands.{Weighable, Unfit}
use Rattle.rules.specs.declared.Bits.{Bits}
use Rattle.rules.specs.declared.Codes.{Codes}
use Rattle.rules.specs.declared.Colour.{Colour}
use Rattle.rules.specs.declared.Colour.TheVariants.{Red, Green, Blue}
use Rattle.rules.specs.declared.Depth.{Depth}
use Rattle.rules.specs.declared.Depths.{Depths}
use Rattle.rules.specs.declared.Description.{Description}
use Rattle.rules.specs.declared.Shares.{Shares}
use Rattle.rules.proofs.KnownDepths.{OneUnknown, not-both, unknown-not-both}
use Rattle.rules.proofs.Looking.Halves.{rows-23, rows-0, first-24, first-20, first-with, second-24, second-20, second-26, second-0}
use Rattle.rules.proofs.Looking.Judging.{is-fit, fit-both, weighable-fit, not-fit-unfit, unfit-not-fit, all-weighable, weighable-all}
use Rattle.signature.specs.Numbers.{OneOf}
use Rattle.signature.proofs.Looking.Numbers.{above_of, of-above}
use Rattle.std.specs.Prelude.{Err, None, Ok, Option, Some}
use Rattle.rules.specs.Results.{FirstHalf, Judged, SecondHalf}

-- ---- the first half: when each number is given

pub data FirstGiven (d : Description) (table : List ℤ) (raw : ℕ) (pixel : Codes) : ℕ → Type 0 where
  -- what could not be read
  finds-24 : could_be_read d table ≡ false → FirstGiven d table raw pixel 24
  -- a raw depth that is unknown, whatever the pixel
  finds-20 : could_be_read d table ≡ true → depth_of raw ≡ None → FirstGiven d table raw pixel 20
  -- a code above the raw M
  finds-23 : could_be_read d table ≡ true → (depth : Depth) → depth_of raw ≡ Some depth → (c : Colour) → depth.greatest < code_in pixel c → FirstGiven d table raw pixel 23
  -- none above it
  finds-0 : could_be_read d table ≡ true → (depth : Depth) → depth_of raw ≡ Some depth → within depth.greatest pixel ≡ true → FirstGiven d table raw pixel 0

module _ (d : Description) (table : List ℤ) (raw : ℕ) (pixel : Codes) where
  -- the number of a first half is one that is given there
  first-given : FirstGiven d table raw pixel (first_number (first_half d table raw pixel))
  unfolding refusal_number
  first-given = by (could_be_read d table) refl (depth_of raw) refl
    where
      Answer : FirstHalf → Type 0
      Answer r = FirstGiven d table raw pixel (first_number r)

      by-23 : (depth : Depth) (t : Bool) → could_be_read d table ≡ true → depth_of raw ≡ Some depth → within depth.greatest pixel ≡ t → Answer (first_half d table raw pixel)
      by-23 depth true e k w = subst Answer (sym (first-with d table raw pixel depth e k ∙ rows-0 d depth.greatest pixel w)) (finds-0 e depth k w)
      by-23 depth false e k w =
          let (c, above) = above_of depth.greatest pixel w in
          subst Answer (sym (first-with d table raw pixel depth e k ∙ rows-23 d depth.greatest pixel w)) (finds-23 e depth k c above)

      by : (t : Bool) → could_be_read d table ≡ t → (x : Option Depth) → depth_of raw ≡ x → Answer (first_half d table raw pixel)
      by false e x k = subst Answer (sym (first-24 d table raw pixel e)) (finds-24 e)
      by true e None k = subst Answer (sym (first-20 d table raw pixel e k)) (finds-20 e k)
      by true e (Some depth) k = by-23 depth (within depth.greatest pixel) e k refl

  -- and no other is given there
  given-first : (n : ℕ) → FirstGiven d table raw pixel n → first_number (first_half d table raw pixel) ≡ n
  unfolding refusal_number
  given-first n (finds-24 e) = ap first_number (first-24 d table raw pixel e)
  given-first n (finds-20 e k) = ap first_number (first-20 d table raw pixel e k)
  given-first n (finds-23 e depth k c above) =
      ap first_number (first-with d table raw pixel depth e k ∙ rows-23 d depth.greatest pixel (of-above depth.greatest pixel c above))
  given-first n (finds-0 e depth k inside) = ap first_number (first-with d table raw pixel depth e k ∙ rows-0 d depth.greatest pixel inside)

  -- so a number is answered exactly where it is given
  pub first-exactly : (n : ℕ) → (first_number (first_half d table raw pixel) ≡ n) ↔ FirstGiven d table raw pixel n
  first-exactly n = (λ e. subst (FirstGiven d table raw pixel) e first-given, given-first n)

-- so it is for every call that keeps the first half's promise
pub finds-exactly : {d : Description} {table : List ℤ} {raw : ℕ} {pixel : Codes} {r : FirstHalf} → FindsRows d table raw pixel r → (n : ℕ)
    → (first_number r ≡ n) ↔ FirstGiven d table raw pixel n
finds-exactly {d} {table} {raw} {pixel} h n =
    (λ e. (first-exactly d table raw pixel n).0 (sym h.number ∙ e), λ g. h.number ∙ (first-exactly d table raw pixel n).1 g)

-- ---- its numbers

abbrev pub OfFirst : FirstHalf → Type 0
OfFirst r = OneOf (first_number r) (0 ∷ 20 ∷ 23 ∷ 24 ∷ [])

given-first-number : {d : Description} {table : List ℤ} {raw : ℕ} {pixel : Codes} (n : ℕ) → FirstGiven d table raw pixel n → OneOf n (0 ∷ 20 ∷ 23 ∷ 24 ∷ [])
given-first-number n (finds-24 e) = inr (inr (inr (inl refl)))
given-first-number n (finds-20 e k) = inr (inl refl)
given-first-number n (finds-23 e depth k c above) = inr (inr (inl refl))
given-first-number n (finds-0 e depth k inside) = inl refl

-- the first half answers 0, 20, 23 or 24
pub first-numbers : (d : Description) (table : List ℤ) (raw : ℕ) (pixel : Codes) → OfFirst (first_half d table raw pixel)
first-numbers d table raw pixel = given-first-number _ (first-given d table raw pixel)

-- and so does every call that keeps its promise
pub finds-numbers : {d : Description} {table : List ℤ} {raw : ℕ} {pixel : Codes} {r : FirstHalf} → FindsRows d table raw pixel r → OfFirst r
finds-numbers h = given-first-number _ ((finds-exactly h _).0 refl)

-- what could be read is not 24
pub first-not-24 : (d : Description) (table : List ℤ) (raw : ℕ) (pixel : Codes) → could_be_read d table ≡ true → first_number (first_half d table raw pixel) ≡ 24 → ⊥
first-not-24 d table raw pixel could z = by ((first-exactly d table raw pixel 24).0 z)
  where
    by : FirstGiven d table raw pixel 24 → ⊥
    by (finds-24 e) = true≢false (sym could ∙ e)

-- whatever is refused has six rows and six weights of 0
pub first-zeros : (r : FirstHalf) → (first_number r ≡ 0 → ⊥) → (first_rows r ≡ replicate 6 0) × (first_weights r ≡ replicate 6 (pos 0))
first-zeros (Ok shares) not-0 = absurd (not-0 refl)
first-zeros (Err r) not-0 = (refl, refl)

-- ---- the second half: 26 is one of three conditions

module _ (d : Description) (m : ℕ) (shares : Shares) where
  -- the places that a colour's code is made of may be weighed
  abbrev pub FitFor : Colour → Type 0
  FitFor c = Weighable (rows d) (den_of d m c) (used d.kind c shares)

  -- or one of the three conditions holds of them: a row number not below the count of rows, a negative weight, or weights that do not add up to the denominator
  abbrev pub UnfitFor : Colour → Type 0
  UnfitFor c = Unfit (rows d) (den_of d m c) (used d.kind c shares)

  some-unfit : (judged_all d m shares ≡ (Ok tt) → ⊥) → (c : Colour) × UnfitFor c
  unfolding judged_all
  some-unfit h = by (is-fit (judged_for d m shares Red)) (is-fit (judged_for d m shares Green)) (is-fit (judged_for d m shares Blue))
    where
      unfit : (c : Colour) → (judged_for d m shares c ≡ (Ok tt) → ⊥) → (c : Colour) × UnfitFor c
      unfit c not-fit = (c, not-fit-unfit (rows d) (den_of d m c) (used d.kind c shares) not-fit)

      by : Dec (judged_for d m shares Red ≡ (Ok tt)) → Dec (judged_for d m shares Green ≡ (Ok tt)) → Dec (judged_for d m shares Blue ≡ (Ok tt)) → (c : Colour) × UnfitFor c
      by (no r) g b = unfit Red r
      by (yes r) (no g) b = unfit Green g
      by (yes r) (yes g) (no b) = unfit Blue b
      by (yes r) (yes g) (yes b) = absurd (h (fit-both (judged_for d m shares Red) _ r (fit-both (judged_for d m shares Green) _ g b)))

  unfit-some : (c : Colour) → UnfitFor c → judged_all d m shares ≡ (Ok tt) → ⊥
  unfit-some c u e =
      unfit-not-fit (rows d) (den_of d m c) (used d.kind c shares) u
      (weighable-fit (rows d) (den_of d m c) (used d.kind c shares) (all-weighable d m shares e c))

-- ---- when each number is given

-- what an answer of 26 says
pub record Judged26 (d : Description) (table : List ℤ) (bits : Bits) (shares : Shares) : Type 0 where
  pub readable : could_be_read d table ≡ true
  pub depths : Depths
  pub known : depths_of bits ≡ Some depths
  pub colour : Colour
  pub unfit : UnfitFor d (raw_m depths) shares colour

-- what an answer of 0 says
pub record Judged0 (d : Description) (table : List ℤ) (bits : Bits) (shares : Shares) : Type 0 where
  pub readable : could_be_read d table ≡ true
  pub depths : Depths
  pub known : depths_of bits ≡ Some depths
  pub fit : (c : Colour) → FitFor d (raw_m depths) shares c

pub data SecondGiven (d : Description) (table : List ℤ) (bits : Bits) (shares : Shares) : ℕ → Type 0 where
  -- what could not be read
  gives-24 : could_be_read d table ≡ false → SecondGiven d table bits shares 24
  -- a depth that is unknown, whatever the rows and weights
  gives-20 : could_be_read d table ≡ true → OneUnknown bits → SecondGiven d table bits shares 20
  -- rows and weights of some colour that are not fit
  gives-26 : Judged26 d table bits shares → SecondGiven d table bits shares 26
  -- those of each colour are
  gives-0 : Judged0 d table bits shares → SecondGiven d table bits shares 0

module _ (d : Description) (table : List ℤ) (bits : Bits) (shares : Shares) where
  -- the number of a second half is one that is given there
  second-given : SecondGiven d table bits shares (second_number (second_half d table bits shares))
  unfolding refusal_number
  second-given = by (could_be_read d table) refl (depths_of bits) refl
    where
      Answer : SecondHalf → Type 0
      Answer r = SecondGiven d table bits shares (second_number r)

      by-26 : (depths : Depths) (j : Judged) → could_be_read d table ≡ true → depths_of bits ≡ Some depths → judged_all d (raw_m depths) shares ≡ j
          → Answer (second_half d table bits shares)
      by-26 depths j e k judged = or (is-fit j)
        where
          or : Dec (j ≡ (Ok tt)) → Answer (second_half d table bits shares)
          or (yes fit) =
              let all = judged ∙ fit in
              subst Answer (sym (second-0 d table bits shares depths e k all))
              (gives-0 (record { readable = e; depths = depths; known = k; fit = all-weighable d (raw_m depths) shares all }))
          or (no not-fit) =
              let none : judged_all d (raw_m depths) shares ≡ (Ok tt) → ⊥ = λ fit. not-fit (sym judged ∙ fit) in
              let (c, unfit) = some-unfit d (raw_m depths) shares none in
              subst Answer (sym (second-26 d table bits shares depths e k none))
              (gives-26 (record { readable = e; depths = depths; known = k; colour = c; unfit = unfit }))

      by : (t : Bool) → could_be_read d table ≡ t → (x : Option Depths) → depths_of bits ≡ x → Answer (second_half d table bits shares)
      by false e x k = subst Answer (sym (second-24 d table bits shares e)) (gives-24 e)
      by true e None k = subst Answer (sym (second-20 d table bits shares e k)) (gives-20 e (not-both bits k))
      by true e (Some depths) k = by-26 depths (judged_all d (raw_m depths) shares) e k refl

  -- and no other is given there
  given-second : (n : ℕ) → SecondGiven d table bits shares n → second_number (second_half d table bits shares) ≡ n
  unfolding refusal_number
  given-second n (gives-24 e) = ap second_number (second-24 d table bits shares e)
  given-second n (gives-20 e u) = ap second_number (second-20 d table bits shares e (unknown-not-both bits u))
  given-second n (gives-26 j) =
      ap second_number (second-26 d table bits shares j.depths j.readable j.known (unfit-some d (raw_m j.depths) shares j.colour j.unfit))
  given-second n (gives-0 j) = ap second_number (second-0 d table bits shares j.depths j.readable j.known (weighable-all d (raw_m j.depths) shares j.fit))

  -- so a number is answered exactly where it is given
  pub second-exactly : (n : ℕ) → (second_number (second_half d table bits shares) ≡ n) ↔ SecondGiven d table bits shares n
  second-exactly n = (λ e. subst (SecondGiven d table bits shares) e second-given, given-second n)

  -- 26 exactly where the description and the table could have been read, both depths are known, and for some colour one of the three conditions holds of the places
  -- that its code is made of
  pub second-26-exactly : (second_number (second_half d table bits shares) ≡ 26) ↔ Judged26 d table bits shares
  second-26-exactly = (λ e. by ((second-exactly 26).0 e), λ j. given-second 26 (gives-26 j))
    where
      by : SecondGiven d table bits shares 26 → Judged26 d table bits shares
      by (gives-26 j) = j

  -- 0 exactly where the places of each colour may be weighed
  pub second-0-exactly : (second_number (second_half d table bits shares) ≡ 0) ↔ Judged0 d table bits shares
  second-0-exactly = (λ e. by ((second-exactly 0).0 e), λ j. given-second 0 (gives-0 j))
    where
      by : SecondGiven d table bits shares 0 → Judged0 d table bits shares
      by (gives-0 j) = j

-- so it is for every call that keeps the second half's promise
pub gives-exactly : {d : Description} {table : List ℤ} {bits : Bits} {shares : Shares} {r : SecondHalf} → GivesCodes d table bits shares r → (n : ℕ)
    → (second_number r ≡ n) ↔ SecondGiven d table bits shares n
gives-exactly {d} {table} {bits} {shares} h n =
    (λ e. (second-exactly d table bits shares n).0 (sym h.number ∙ e), λ g. h.number ∙ (second-exactly d table bits shares n).1 g)

-- ---- its numbers

abbrev pub OfSecond : SecondHalf → Type 0
OfSecond r = OneOf (second_number r) (0 ∷ 20 ∷ 24 ∷ 26 ∷ [])

given-second-number : {d : Description} {table : List ℤ} {bits : Bits} {shares : Shares} (n : ℕ) → SecondGiven d table bits shares n → OneOf n (0 ∷ 20 ∷ 24 ∷ 26 ∷ [])
given-second-number n (gives-24 e) = inr (inr (inl refl))
given-second-number n (gives-20 e u) = inr (inl refl)
given-second-number n (gives-26 j) = inr (inr (inr (inl refl)))
given-second-number n (gives-0 j) = inl refl

-- the second half answers 0, 20, 24 or 26
pub second-numbers : (d : Description) (table : List ℤ) (bits : Bits) (shares : Shares) → OfSecond (second_half d table bits shares)
second-numbers d table bits shares = given-second-number _ (second-given d table bits shares)

-- and so does every call that keeps its promise
pub gives-numbers : {d : Description} {table : List ℤ} {bits : Bits} {shares : Shares} {r : SecondHalf} → GivesCodes d table bits shares r → OfSecond r
gives-numbers h = given-second-number _ ((gives-exactly h _).0 refl)

-- what could be read is not 24
pub second-not-24 : (d : Description) (table : List ℤ) (bits : Bits) (shares : Shares) → could_be_read d table ≡ true → second_number (second_half d table bits shares) ≡ 24 → ⊥
second-not-24 d table bits shares could z = by ((second-exactly d table bits shares 24).0 z)
  where
    by : SecondGiven d table bits shares 24 → ⊥
    by (gives-24 e) = true≢false (sym could ∙ e)

-- whatever is refused has three codes of 0
pub second-zeros : (r : SecondHalf) → (second_number r ≡ 0 → ⊥) → second_codes r ≡ replicate 3 0
second-zeros (Ok codes) not-0 = absurd (not-0 refl)
second-zeros (Err r) not-0 = refl
