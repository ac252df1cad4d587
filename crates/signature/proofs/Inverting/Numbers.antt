-- The inverse answers 0, 20, 23, 24 or 28: when each is given. A refusal gives code 0, and its count is 0 but for 28, which gives that of all raw codes.
use Prim.Native.Nat.{ℕ, ◌+◌, ◌<◌}
use mathlib.Core.Path.{◌≡◌, refl, sym, subst, ap, ◌∙◌}
use mathlib.Core.Logic.{◌⊎◌, inl, inr, ◌↔◌}
use mathlib.Core.Bool.{true, false, true≢false}
use mathlib.Core.List.{List, [], ◌∷◌}
use native.Mathlib.Omega.{arith}
use lib.IntN.{ℤ}
use Rattle.rules.specs.Units.{depths_of, raw_m, corrected_m}
use Rattle.rules.specs.Descriptions.{could_be_read}
use Rattle.rules.specs.Inverting.{inverse}
use Rattle.rules.specs.Answers.{refusal_number, inverse_number, inverse_code, inverse_count}
use Rattle.rules.specs.Promises.{Inverts}
use Rattle.rules.specs.declared.Aim.{Aim}
use Rattle.rules.specs.declared.Bits.{Bits}
use Rattle.rules.specs.declared.Depths.{Depths}
use Rattle.rules.specs.declared.Description.{Description}
use Rattle.rules.specs.declared.Kind.TheVariants.{OneD, ThreeD}
use Rattle.rules.proofs.KnownDepths.{OneUnknown, not-both, unknown-not-both, depths-one}
use Rattle.rules.proofs.Answers.{inverts-is}
use Rattle.signature.specs.Numbers.{OneOf}
use Rattle.rules.proofs.Inverting.Right.{InversePassed, ReachedIn, InverseGiven, not-read, unknown, too-great, none_within, answered, reached-accepted, inverse-exactly}
use Rattle.std.specs.Prelude.{Err, Ok, Some}
use Rattle.rules.specs.Results.{Inverse}

-- ---- when each number is given

pub data NumberGiven (d : Description) (table : List ℤ) (bits : Bits) (aim : Aim) : ℕ → Type 0 where
  -- a 3D table, or what could not be read
  given-24 : (d.kind ≡ ThreeD) ⊎ (could_be_read d table ≡ false) → NumberGiven d table bits aim 24
  -- a depth that is unknown, whatever is wanted
  given-20 : d.kind ≡ OneD → could_be_read d table ≡ true → OneUnknown bits → NumberGiven d table bits aim 20
  -- a wanted code above the corrected M
  given-23 : d.kind ≡ OneD → could_be_read d table ≡ true → (depths : Depths) → depths_of bits ≡ Some depths → corrected_m depths < aim.wanted
      → NumberGiven d table bits aim 23
  -- no raw code comes within the tolerance
  given-28 : (p : InversePassed d table bits aim) → (ReachedIn d table p.depths aim → ⊥) → NumberGiven d table bits aim 28
  -- one does
  given-0 : (p : InversePassed d table bits aim) → ReachedIn d table p.depths aim → NumberGiven d table bits aim 0

module _ (d : Description) (table : List ℤ) (bits : Bits) (aim : Aim) where
  answer : {r : Inverse} → InverseGiven d table bits aim r → inverse_number (inverse d table bits aim) ≡ inverse_number r
  answer {r} g = ap inverse_number ((inverse-exactly d table bits aim r).1 g)

  number_of : (r : Inverse) → InverseGiven d table bits aim r → NumberGiven d table bits aim (inverse_number r)
  unfolding refusal_number
  number_of r (not-read e) = given-24 e
  number_of r (unknown l e k) = given-20 l e (not-both bits k)
  number_of r (too-great l e depths k above) = given-23 l e depths k above
  number_of r (none_within p none) = given-28 p none
  number_of r (answered p {code} right) = given-0 p (record { code = code; inside = right.nearest.inside; within = right.within })

  given-number : (n : ℕ) → NumberGiven d table bits aim n → inverse_number (inverse d table bits aim) ≡ n
  unfolding refusal_number
  given-number n (given-24 e) = answer (not-read e)
  given-number n (given-20 l e u) = answer (unknown l e (unknown-not-both bits u))
  given-number n (given-23 l e depths k above) = answer (too-great l e depths k above)
  given-number n (given-28 p none) = answer (none_within p none)
  given-number n (given-0 p r) = ap inverse_number (reached-accepted d table bits aim p r)

  -- a number is answered exactly where it is given
  pub number-exactly : (n : ℕ) → (inverse_number (inverse d table bits aim) ≡ n) ↔ NumberGiven d table bits aim n
  number-exactly n = (λ e. subst (NumberGiven d table bits aim) e (number_of _ ((inverse-exactly d table bits aim _).0 refl)), given-number n)

module _ {d : Description} {table : List ℤ} {bits : Bits} {aim : Aim} {r : Inverse} (h : Inverts d table bits aim r) where
  -- so it is for every call that keeps the promise of the inverse
  pub inverts-exactly : (n : ℕ) → (inverse_number r ≡ n) ↔ NumberGiven d table bits aim n
  inverts-exactly n = (λ e. (number-exactly d table bits aim n).0 (sym h.number ∙ e), λ g. h.number ∙ (number-exactly d table bits aim n).1 g)

  -- ---- the numbers

  -- 0, 20, 23, 24 or 28
  pub inverts-numbers : OneOf (inverse_number r) (0 ∷ 20 ∷ 23 ∷ 24 ∷ 28 ∷ [])
  inverts-numbers = by _ ((inverts-exactly _).0 refl)
    where
      by : (n : ℕ) → NumberGiven d table bits aim n → OneOf n (0 ∷ 20 ∷ 23 ∷ 24 ∷ 28 ∷ [])
      by n (given-24 e) = inr (inr (inr (inl refl)))
      by n (given-20 l e u) = inr (inl refl)
      by n (given-23 l e depths k above) = inr (inr (inl refl))
      by n (given-28 p none) = inr (inr (inr (inr (inl refl))))
      by n (given-0 p reached) = inl refl

  -- a 1D table that could be read is not 24
  pub inverts-not-24 : d.kind ≡ OneD → could_be_read d table ≡ true → inverse_number r ≡ 24 → ⊥
  inverts-not-24 line could e = by ((inverts-exactly 24).0 e)
    where
      by : NumberGiven d table bits aim 24 → ⊥
      by (given-24 (inl cube)) = let z : ◌≡◌ {A = ℕ} 0 1 = cc in omega arith
      by (given-24 (inr not)) = true≢false (sym could ∙ not)

  -- ---- the counts of refusals

  given_so : InverseGiven d table bits aim r
  given_so = (inverse-exactly d table bits aim r).0 (sym (inverts-is h))

  -- 28 has tried all raw codes
  pub count-28 : (depths : Depths) → depths_of bits ≡ Some depths → inverse_number r ≡ 28 → inverse_count r ≡ raw_m depths + 1
  unfolding refusal_number
  count-28 depths known e = by r given_so e
    where
      by : (r : Inverse) → InverseGiven d table bits aim r → inverse_number r ≡ 28 → inverse_count r ≡ raw_m depths + 1
      by r (none_within p none) e = ap (λ x. raw_m x + 1) (depths-one bits p.depths depths p.known known)
      by r (not-read f) e = absurd (omega (arith, e))
      by r (unknown l f k) e = absurd (omega (arith, e))
      by r (too-great l f ds k above) e = absurd (omega (arith, e))
      by r (answered p right) e = absurd (omega (arith, e))

  -- and the refusals before it none
  pub count-before : (inverse_number r ≡ 0 → ⊥) → (inverse_number r ≡ 28 → ⊥) → inverse_count r ≡ 0
  unfolding refusal_number
  count-before not-0 not-28 = by r given_so not-0 not-28
    where
      by : (r : Inverse) → InverseGiven d table bits aim r → (inverse_number r ≡ 0 → ⊥) → (inverse_number r ≡ 28 → ⊥) → inverse_count r ≡ 0
      by r (not-read f) not-0 not-28 = refl
      by r (unknown l f k) not-0 not-28 = refl
      by r (too-great l f ds k above) not-0 not-28 = refl
      by r (none_within p none) not-0 not-28 = absurd (not-28 refl)
      by r (answered p right) not-0 not-28 = absurd (not-0 refl)

-- whatever is refused has code 0
pub refused-code : (r : Inverse) → (inverse_number r ≡ 0 → ⊥) → inverse_code r ≡ 0
refused-code (Ok x) not-0 = absurd (not-0 refl)
refused-code (Err x) not-0 = refl
