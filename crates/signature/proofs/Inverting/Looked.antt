-- The inverse and look say the same of a code: a look at the answer's code comes within the tolerance of the wanted one, and no look comes nearer.
use Prim.Native.Nat.{ℕ, ◌≤◌, ◌<◌}
use mathlib.Core.Path.{◌≡◌, sym, ap, subst, ◌∙◌}
use mathlib.Core.Bool.{true, true≢false}
use mathlib.Core.List.{List}
use native.Mathlib.Decide.{dec_le}
use native.Mathlib.Omega.{arith}
use lib.IntN.{ℤ}
use Rattle.rules.specs.Units.{depths_of, raw_m, code_in}
use Rattle.rules.specs.Looking.{within, line_code, look}
use Rattle.rules.specs.Inverting.{apart, off_by, inverse}
use Rattle.rules.specs.Answers.{look_number, codes_in}
use Rattle.rules.specs.Demands.{InverseRight}
use Rattle.rules.specs.declared.Aim.{Aim}
use Rattle.rules.specs.declared.Bits.{Bits}
use Rattle.rules.specs.declared.Codes.{Codes}
use Rattle.rules.specs.declared.Colour.{Colour}
use Rattle.rules.specs.declared.Depths.{Depths}
use Rattle.rules.specs.declared.Description.{Description}
use Rattle.rules.specs.declared.Kind.TheVariants.{OneD}
use Rattle.rules.proofs.Colours.{grey, grey-code, grey-within}
use Rattle.rules.proofs.KnownDepths.{depths-one}
use Rattle.rules.proofs.Looking.Checks.{look-passed, look-0}
use Rattle.rules.proofs.Looking.Demand3.{line-looked}
use Rattle.signature.proofs.Looking.Numbers.{of-above}
use Rattle.rules.proofs.Inverting.Right.{InversePassed, inverse-right, right-at}
use Rattle.std.specs.Prelude.{Some}
use Rattle.rules.specs.Results.{inverse_of}

module _ (d : Description) (table : List ℤ) (line : d.kind ≡ OneD) where
  -- an accepted look, for one colour
  record LineLook (bits : Bits) (depths : Depths) (pixel : Codes) (c : Colour) : Type 0 where
    inside : code_in pixel c ≤ raw_m depths
    corrected : code_in (codes_in (look d table bits pixel)) c ≡ line_code d table depths c (code_in pixel c)

  look-line : (bits : Bits) (depths : Depths) → depths_of bits ≡ Some depths → (pixel : Codes) → look_number (look d table bits pixel) ≡ 0
      → (c : Colour) → LineLook bits depths pixel c
  look-line bits depths known pixel z c =
      let p = look-passed d table bits pixel z in
      subst (λ x. LineLook bits x pixel c) (depths-one bits p.depths depths p.known known) (record {
        inside = inside p.depths p.inside (dec_le (code_in pixel c) (raw_m p.depths));
        corrected = ap (λ r. code_in (codes_in r) c) (look-0 d table bits pixel p.depths p.could p.known p.inside) ∙ line-looked d table line p.depths pixel c;
      })
    where
      inside : (ds : Depths) → within (raw_m ds) pixel ≡ true → Dec (code_in pixel c ≤ raw_m ds) → code_in pixel c ≤ raw_m ds
      inside ds w (yes h) = h
      inside ds w (no h) = absurd (true≢false (sym w ∙ of-above (raw_m ds) pixel c (omega (arith, h))))

-- how far from the wanted code a look at a pixel comes
abbrev pub look_off : Description → List ℤ → Bits → Aim → Codes → ℕ
look_off d table bits aim pixel = apart (code_in (codes_in (look d table bits pixel)) aim.colour) aim.wanted

-- a look at a pixel whose raw code is the answer's
pub record AnswerLooked (d : Description) (table : List ℤ) (bits : Bits) (aim : Aim) (pixel : Codes) : Type 0 where
  pub accepted : look_number (look d table bits pixel) ≡ 0
  pub near-enough : look_off d table bits aim pixel ≤ aim.tolerance
  -- no other accepted look comes nearer, and none at a lower raw code as near
  pub none_nearer : (other : Codes) → look_number (look d table bits other) ≡ 0 → look_off d table bits aim pixel ≤ look_off d table bits aim other
  pub none_lower : (other : Codes) → look_number (look d table bits other) ≡ 0 → code_in other aim.colour < code_in pixel aim.colour
      → look_off d table bits aim pixel < look_off d table bits aim other

pub inverse-looked : (d : Description) (table : List ℤ) (bits : Bits) (aim : Aim) (code count : ℕ) → inverse d table bits aim ≡ inverse_of code count
    → (depths : Depths) → depths_of bits ≡ Some depths → (pixel : Codes) → code_in pixel aim.colour ≡ code → within (raw_m depths) pixel ≡ true
    → AnswerLooked d table bits aim pixel
inverse-looked d table bits aim code count e depths known pixel code_so inside = record {
  accepted = accepted;
  near-enough = subst (λ x. x ≤ aim.tolerance) (sym answer-off) right.within;
  none_nearer = λ other z. rw (answer-off, other-off other z) (right.nearest.none_nearer (code_in other c) (other-line other z).inside);
  none_lower = λ other z h. rw (answer-off, other-off other z) (right.nearest.none_lower (code_in other c) (rw (sym code_so) h));
}
  where
    c : Colour
    c = aim.colour

    p : InversePassed d table bits aim
    p = (inverse-right e).passed

    right : InverseRight d table depths aim code count
    right = right-at (inverse-right e) depths known

    accepted : look_number (look d table bits pixel) ≡ 0
    accepted = ap look_number (look-0 d table bits pixel depths p.could known inside)

    other-line : (other : Codes) → look_number (look d table bits other) ≡ 0 → LineLook d table p.line bits depths other c
    other-line other z = look-line d table p.line bits depths known other z c

    other-off : (other : Codes) → look_number (look d table bits other) ≡ 0 → look_off d table bits aim other ≡ off_by d table depths aim (code_in other c)
    other-off other z = ap (λ x. apart x aim.wanted) (other-line other z).corrected

    answer-off : look_off d table bits aim pixel ≡ off_by d table depths aim code
    answer-off = other-off pixel accepted ∙ ap (off_by d table depths aim) code_so

-- there is such a pixel, with that code in each colour
pub answer-pixel : (d : Description) (table : List ℤ) (bits : Bits) (aim : Aim) (code count : ℕ) → inverse d table bits aim ≡ inverse_of code count
    → AnswerLooked d table bits aim (grey code)
answer-pixel d table bits aim code count e =
    let a = inverse-right e in
    let inside = a.right.nearest.inside in
    inverse-looked d table bits aim code count e a.passed.depths a.passed.known (grey code) (grey-code code aim.colour) (grey-within _ code inside)
