-- What is said of a question, by what the inverse and a look answer.
use Prim.Native.Nat.{ℕ, ◌<◌}
use mathlib.Core.Path.{◌≡◌, refl, sym, ap, ◌∙◌}
use mathlib.Core.Bool.{true, false}
use mathlib.Core.List.{List}
use native.Mathlib.Omega.{arith}
use borrow.Author.Tests.{eq-eqb, ne_eqb}
use lib.IntN.{ℤ}
use Rattle.rules.specs.Units.{depths_of, code_in}
use Rattle.rules.specs.Descriptions.{could_be_read}
use Rattle.rules.specs.Picturing.{pixel_of}
use Rattle.rules.specs.Inverting.{apart, inverse}
use Rattle.rules.specs.Answers.{codes_in}
use Rattle.rules.specs.Promises.{Looks}
use Rattle.rules.specs.declared.Aim.{Aim}
use Rattle.rules.specs.declared.Bits.{Bits}
use Rattle.rules.specs.declared.Codes.{Codes}
use Rattle.rules.specs.declared.Colour.{Colour}
use Rattle.rules.specs.declared.Colour.TheVariants.{Red, Green, Blue}
use Rattle.rules.specs.declared.Depths.{Depths}
use Rattle.rules.specs.declared.Description.{Description}
use Rattle.rules.specs.declared.Kind.TheVariants.{OneD, ThreeD}
use Rattle.rules.specs.declared.NotInverted.{NotInverted}
use Rattle.rules.specs.declared.Refusal.{Refusal}
use Rattle.rules.specs.declared.Refusal.TheVariants.{DepthUnknown, CodeTooGreat, CouldNotBeRead}
use Rattle.rules.specs.declared.Shares.{Shares}
use Rattle.rules.proofs.Answers.{looks-is}
use Rattle.rules.proofs.Inverting.Checks.{inverse-24-cube, inverse-24, inverse-20, inverse-23}
use Rattle.rules.proofs.KnownDepths.{depths-bounds}
use Rattle.invert.specs.Saying.{Said, corrected_to, found_by, said_by}
use Rattle.invert.specs.declared.answers.Found.{Found}
use Rattle.invert.specs.declared.answers.Found.TheVariants.{Hit, Near}
use Rattle.std.specs.Prelude.{Ok, Err, None, Some}
use Rattle.rules.specs.Results.{Inverse, Look, inverse_of, look_of, no_inverse}

-- ---- a code that was found, by what is off

module _ (corrected wanted code count : ℕ) {far : ℕ} (so : far ≡ apart corrected wanted) where
  pub found-hit : far ≡ 0 → Hit code count ≡ found_by corrected wanted code count
  unfolding found_by
  found-hit hit = rw (eq-eqb _ _ (sym so ∙ hit))

  pub found-near : (far ≡ 0 → ⊥) → Near code corrected far count ≡ found_by corrected wanted code count
  unfolding found_by
  found-near missed = rw (ne_eqb _ _ (λ z. missed (so ∙ z))) (ap (λ x. Near code corrected x count) so)

-- ---- an inverse

-- a raw code, and why there is none, as they are said
abbrev pub found-said : Found → Said
found-said found = Ok found

abbrev pub as-said : NotInverted → Said
as-said none = Err none

abbrev none : Refusal → ℕ → NotInverted
none reason count = record { reason = reason; count = count }

module _ (corrected : ℕ → ℕ) (wanted : ℕ) {r : Inverse} where
  pub said-accepted : (code count : ℕ) {to : ℕ} → to ≡ corrected code → r ≡ inverse_of code count → Ok (found_by to wanted code count) ≡ said_by corrected wanted r
  unfolding said_by
  said-accepted code count so e = ap (λ x. found-said (found_by x wanted code count)) so ∙ ap (said_by corrected wanted) (sym e)

  pub said-refused : (reason : Refusal) (count : ℕ) → r ≡ no_inverse reason count → Err (none reason count) ≡ said_by corrected wanted r
  unfolding said_by
  said-refused reason count e = ap (said_by corrected wanted) (sym e)

-- ---- what a look makes of a code

module _ {d : Description} {table : List ℤ} {bits : Bits} {code : ℕ} {r : Look} (l : Looks d table bits (pixel_of code code code) r) (c : Colour) where
  by-look : {x : Look} → r ≡ x → code_in (codes_in x) c ≡ corrected_to d table bits c code
  unfolding corrected_to
  by-look e = ap (λ a. code_in (codes_in a) c) (sym e ∙ looks-is l)

  pub corrected-so : {codes : Codes} {shares : Shares} → r ≡ look_of codes shares → code_in codes c ≡ corrected_to d table bits c code
  corrected-so e = by-look e

  pub none-corrected : {reason : Refusal} → r ≡ Err reason → 0 ≡ corrected_to d table bits c code
  none-corrected {reason} e = zero_in c ∙ by-look e
    where
      zero_in : (c : Colour) → 0 ≡ code_in (codes_in (Err reason)) c
      zero_in Red = refl
      zero_in Green = refl
      zero_in Blue = refl

-- ---- a code that no depth has

module _ (d : Description) (table : List ℤ) (bits : Bits) (corrected : ℕ → ℕ) (aim : Aim) (beyond : 65_535 < aim.wanted) where
  -- what is said of it
  abbrev BeyondSaid : NotInverted → Type 0
  BeyondSaid n = Err n ≡ said_by corrected aim.wanted (inverse d table bits aim)

  pub beyond-24-cube : d.kind ≡ ThreeD → BeyondSaid (none CouldNotBeRead 0)
  beyond-24-cube cube = said-refused corrected aim.wanted CouldNotBeRead 0 (inverse-24-cube d table bits aim cube)

  pub beyond-24 : could_be_read d table ≡ false → BeyondSaid (none CouldNotBeRead 0)
  beyond-24 could-not = said-refused corrected aim.wanted CouldNotBeRead 0 (inverse-24 d table bits aim could-not)

  pub beyond-20 : d.kind ≡ OneD → could_be_read d table ≡ true → depths_of bits ≡ None → BeyondSaid (none DepthUnknown 0)
  beyond-20 line could unknown = said-refused corrected aim.wanted DepthUnknown 0 (inverse-20 d table bits aim line could unknown)

  pub beyond-23 : d.kind ≡ OneD → could_be_read d table ≡ true → (depths : Depths) → depths_of bits ≡ Some depths → BeyondSaid (none CodeTooGreat 0)
  beyond-23 line could depths known =
      let low = (depths-bounds bits depths known).1.1 in
      said-refused corrected aim.wanted CodeTooGreat 0 (inverse-23 d table bits aim line could depths known (omega (arith, low, beyond)))
