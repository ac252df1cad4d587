-- What is said is so: a hit is corrected to the wanted code and is the last code that was tried; what is off is off by so much, and the whole range was
-- searched.
use Prim.Native.Nat.{ℕ, suc, ◌≤◌}
use mathlib.Core.Path.{◌≡◌, refl, sym, ap, ◌∙◌}
use mathlib.Core.Bool.{Bool, true, false, cond}
use mathlib.Core.List.{List}
use native.Mathlib.Omega.{arith}
use borrow.Author.Tests.{eqb-true, eqb-false}
use lib.Dec.{eqb}
use lib.IntN.{ℤ}
use Rattle.rules.specs.Units.{depths_of, raw_m, code_in}
use Rattle.rules.specs.Descriptions.{could_be_read}
use Rattle.rules.specs.Looking.{line_code}
use Rattle.rules.specs.Inverting.{apart}
use Rattle.rules.specs.Answers.{codes_in}
use Rattle.rules.specs.declared.Bits.{Bits}
use Rattle.rules.specs.declared.Colour.{Colour}
use Rattle.rules.specs.declared.Depths.{Depths}
use Rattle.rules.specs.declared.Description.{Description}
use Rattle.rules.specs.declared.Kind.TheVariants.{OneD}
use Rattle.rules.specs.declared.Refusal.TheVariants.{NoneWithinTolerance}
use Rattle.rules.proofs.Colours.{grey, grey-code, grey-within}
use Rattle.rules.proofs.Inverting.Searched.{apart-0, apart-same}
use Rattle.rules.proofs.Inverting.Right.{InverseGiven, not-read, unknown, too-great, none_within, answered, count-hit, count-all, inverse-exactly, right-at}
use Rattle.rules.proofs.KnownDepths.{depths-one}
use Rattle.rules.proofs.Looking.Checks.{look-0}
use Rattle.rules.proofs.Looking.Demand3.{line-looked}
use Rattle.invert.specs.Saying.{Said, corrected_to, found_by, said_by, aim_of, said_of}
use Rattle.invert.specs.declared.answers.Found.TheVariants.{Hit, Near}
use Rattle.invert.specs.declared.question.Question.{Question}
use Rattle.std.specs.Prelude.{Some, Ok, Err}
use Rattle.rules.specs.Results.{Inverse}

-- ---- a look at a grey pixel has the code that the inverse tries

module _ (d : Description) (table : List ℤ) (line : d.kind ≡ OneD) (could : could_be_read d table ≡ true) where
  pub looked-so : (bits : Bits) (depths : Depths) → depths_of bits ≡ Some depths → (c : Colour) (code : ℕ) → code ≤ raw_m depths
      → corrected_to d table bits c code ≡ line_code d table depths c code
  unfolding corrected_to
  looked-so bits depths known c code inside =
      ap (λ r. code_in (codes_in r) c) (look-0 d table bits (grey code) depths could known (grey-within (raw_m depths) code inside))
      ∙ line-looked d table line depths (grey code) c
      ∙ ap (line_code d table depths c) (grey-code code c)

-- ---- what is said

module _ (d : Description) (table : List ℤ) (q : Question) (depths : Depths) (known : depths_of q.bits ≡ Some depths) where
  abbrev to : ℕ → ℕ
  to = corrected_to d table q.bits q.colour

  abbrev pub SaidSo : Said → Type 0
  SaidSo (Ok (Hit code count)) = (to code ≡ q.wanted) × (count ≡ suc code)
  SaidSo (Ok (Near code corrected far count)) = (corrected ≡ to code) × (far ≡ apart corrected q.wanted) × (count ≡ suc (raw_m depths))
  SaidSo (Err none) = none.reason ≡ NoneWithinTolerance → none.count ≡ suc (raw_m depths)

  by-off : (code count : ℕ) → (apart (to code) q.wanted ≡ 0 → count ≡ suc code) → ((apart (to code) q.wanted ≡ 0 → ⊥) → count ≡ suc (raw_m depths))
      → (t : Bool) → eqb (apart (to code) q.wanted) 0 ≡ t → SaidSo (Ok (cond t (Hit code count) (Near code (to code) (apart (to code) q.wanted) count)))
  by-off code count hit missed true e = let z = eqb-true (apart (to code) q.wanted) 0 e in (omega (arith, z), hit z)
  by-off code count hit missed false e = (refl, refl, missed (eqb-false (apart (to code) q.wanted) 0 e))

  -- an inverse that is answered, where each answer is given
  by_answer : (r : Inverse) → InverseGiven d table q.bits (aim_of q) r → SaidSo (said_by to q.wanted r)
  unfolding said_by found_by
  by_answer r (answered p {code} {count} so) =
      let right = right-at (record { passed = p; right = so }) depths known in
      let same = looked-so d table p.line p.could q.bits depths known q.colour code right.nearest.inside in
      by-off code count
      (λ z. omega (arith, count-hit right (sym same ∙ apart-0 (to code) q.wanted z)))
      (λ missed. omega (arith, count-all right (λ e. missed (apart-same (to code) q.wanted (same ∙ e)))))
      (eqb (apart (to code) q.wanted) 0) refl
  by_answer r (none_within p none) = λ e. omega (arith, ap raw_m (depths-one q.bits p.depths depths p.known known))
  by_answer r (not-read f) = λ e. absurd (let z : ◌≡◌ {A = ℕ} 0 1 = cc in omega arith)
  by_answer r (unknown l f k) = λ e. absurd (let z : ◌≡◌ {A = ℕ} 0 1 = cc in omega arith)
  by_answer r (too-great l f ds k above) = λ e. absurd (let z : ◌≡◌ {A = ℕ} 0 1 = cc in omega arith)

  pub said-so : SaidSo (said_of d table q)
  unfolding said_of
  said-so = by_answer _ ((inverse-exactly d table q.bits (aim_of q) _).0 refl)
