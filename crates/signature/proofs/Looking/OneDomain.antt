-- Document 02, Req 07: 1D tables, and 3D tables with one domain, keep their rows, weights, codes and refusals, for all input: D and the fractions are those of
-- each colour's own domain. Every other 3D table was refused with 24.
use Prim.Native.Nat.{ℕ, ◌*◌, ◌<◌}
use mathlib.Core.Path.{◌≡◌, refl, sym, ap, ◌∙◌}
use mathlib.Core.Logic.{◌↔◌}
use mathlib.Core.Bool.{Bool, true, false, ◌&&◌, cond}
use mathlib.Core.List.{List}
use native.Mathlib.Nat as NatL
use lib.IntN.{ℤ}
use Rattle.rules.specs.Units.{depths_of, raw_m, corrected_m}
use Rattle.rules.specs.Descriptions.{domain, width, span, could_be_read, Sound}
use Rattle.rules.specs.Looking.Interpolation.{den_of, index_of, position_of, fraction_of}
use Rattle.rules.specs.Looking.{within, look_at, look}
use Rattle.rules.specs.Promises.{Looks}
use Rattle.rules.specs.declared.Bits.{Bits}
use Rattle.rules.specs.declared.Codes.{Codes}
use Rattle.rules.specs.declared.Colour.{Colour}
use Rattle.rules.specs.declared.Description.{Description}
use Rattle.rules.specs.declared.Kind.{Kind}
use Rattle.rules.specs.declared.Kind.TheVariants.{OneD, ThreeD}
use Rattle.rules.specs.declared.Refusal.TheVariants.{CouldNotBeRead}
use Rattle.rules.proofs.Answers.{looks-is}
use Rattle.rules.proofs.KnownDepths.{depths-bounds}
use Rattle.rules.proofs.Tests.{and_both, both-and}
use Rattle.rules.proofs.Sound.{one-domain, domain-one, sound-of, of-sound, wide_enough}
use Rattle.rules.proofs.Looking.Spans.{span-1d, span-one}
use Rattle.rules.proofs.Looking.Brought.{brought-same}
use Rattle.signature.specs.OneDomain.{look_with, agree_before, could_be_read_before, own_den, own_position, own_fraction, look_before_at, look_before}
use Rattle.signature.proofs.Looking.SamePlaces.{look-with}
use Rattle.std.specs.Prelude.{Err, None, Option, Some}
use Rattle.rules.specs.declared.Depths.{Depths}
use Rattle.rules.specs.Results.{Look}

-- of whatever could have been read the D of a colour's own domain is above 0, as the M of every known depth is
pub own-some : (d : Description) (table : List ℤ) (m : ℕ) → could_be_read d table ≡ true → 0 < m → (c : Colour) → 0 < own_den d m c
own-some d table m could deep c = NatL.mul-pos deep (wide_enough ((sound-of d table could).domains c))

-- 24 was what it is, but for one domain in 3D
pub before-sound : (d : Description) (table : List ℤ) → (could_be_read_before d table ≡ true) ↔ (Sound d table × (d.kind ≡ ThreeD → (c : Colour) → domain d c ≡ d.red))
unfolding could_be_read_before agree_before
before-sound d table = (
  λ e. let (one, could) = and_both (agree_before d.kind d) (could_be_read d table) e in (sound-of d table could, ones one),
  λ h. both-and (agree_before d.kind d) (could_be_read d table) (agreed d.kind refl h.1) (of-sound d table h.0),
)
  where
    ones : agree_before d.kind d ≡ true → d.kind ≡ ThreeD → (c : Colour) → domain d c ≡ d.red
    ones e q = one-domain d (sym (ap (λ k. agree_before k d) q) ∙ e)

    agreed : (k : Kind) → d.kind ≡ k → (d.kind ≡ ThreeD → (c : Colour) → domain d c ≡ d.red) → agree_before k d ≡ true
    agreed OneD q h = refl
    agreed ThreeD q h = domain-one d (h q)

-- ---- 1D, or one domain

module _ (d : Description) (one : agree_before d.kind d ≡ true) where
  span-own : (c : Colour) → span d c ≡ width (domain d c)
  unfolding agree_before
  span-own c = by d.kind refl one
    where
      by : (k : Kind) → d.kind ≡ k → agree_before k d ≡ true → span d c ≡ width (domain d c)
      by OneD e h = span-1d d c e
      by ThreeD e h = span-one d c h

  -- D is what it was
  pub den-own : (m : ℕ) (c : Colour) → den_of d m c ≡ own_den d m c
  den-own m c = ap (λ s. m * s) (span-own c)

  pub same-24 : (table : List ℤ) → could_be_read d table ≡ could_be_read_before d table
  unfolding could_be_read_before
  same-24 table = sym (ap (λ a. a && could_be_read d table) one)

  module _ (table : List ℤ) (pixel : Codes) where
    module _ (m : ℕ) (could : could_be_read d table ≡ true) (deep : 0 < m) (c : Colour) where
      -- and so are positions and fractions
      pub position-own : position_of d m pixel c ≡ own_position d m pixel c
      position-own = brought-same (own_den d m c) (den_of d m c) (own-some d table m could deep c) (den-own m c) (own_position d m pixel c)

      pub fraction-own : fraction_of d m pixel c ≡ own_fraction d m pixel c
      fraction-own = brought-same (own_den d m c) (den_of d m c) (own-some d table m could deep c) (den-own m c) (own_fraction d m pixel c)

    look-own : could_be_read d table ≡ true → (bits : Bits) (x : Option Depths) → depths_of bits ≡ x → look_at d table pixel x ≡ look_before_at d table pixel x
    unfolding look_at look_before_at
    look-own could bits None e = refl
    look-own could bits (Some depths) e =
        let m = raw_m depths in
        let deep = (depths-bounds bits depths e).0.0 in
        look-with d table depths pixel
        ∙ (λ i. look_with d.n (λ c. den-own m c i) (index_of d m pixel) (λ c. fraction-own m could deep c i) (within m pixel) d.kind table (corrected_m depths))

  -- look is what it was
  pub look-one-domain : (table : List ℤ) (bits : Bits) (pixel : Codes) → look d table bits pixel ≡ look_before d table bits pixel
  unfolding look look_before
  look-one-domain table bits pixel = by (could_be_read d table) refl
    where
      refused : Look
      refused = Err CouldNotBeRead

      by : (b : Bool) → could_be_read d table ≡ b
          → cond (could_be_read d table) (look_at d table pixel (depths_of bits)) refused ≡ cond (could_be_read_before d table) (look_before_at d table pixel (depths_of bits)) refused
      by true e = rw (sym (same-24 table), e) (look-own table pixel e bits (depths_of bits) refl)
      by false e = rw (sym (same-24 table), e)

  -- so every call that keeps look's promise answers as before
  pub looks-one-domain : {table : List ℤ} {bits : Bits} {pixel : Codes} {r : Look} → Looks d table bits pixel r → r ≡ look_before d table bits pixel
  looks-one-domain {table} {bits} {pixel} l = looks-is l ∙ look-one-domain table bits pixel

-- ---- 3D, and domains that differ

module _ (d : Description) (table : List ℤ) (differ : agree_before d.kind d ≡ false) where
  pub before-24 : could_be_read_before d table ≡ false
  unfolding could_be_read_before
  before-24 = ap (λ a. a && could_be_read d table) differ

  -- 24, whatever the rest
  pub look-before-24 : (bits : Bits) (pixel : Codes) → look_before d table bits pixel ≡ Err CouldNotBeRead
  unfolding look_before
  look-before-24 bits pixel = ap (λ b. cond b (look_before_at d table pixel (depths_of bits)) (Err CouldNotBeRead)) before-24
