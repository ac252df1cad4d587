-- What holds of each of the four depths holds of the one that is found: M is from 1 to 65535, and a depth that is found by its M is that of its bits.
-- Two depths are known where each is, and not both where one is not.
use Prim.Native.Nat.{ℕ, ◌≤◌, ◌<◌}
use mathlib.Core.Path.{◌≡◌, refl, sym, ap, ap₂, subst, ◌∙◌}
use mathlib.Core.Bool.{Bool, true, false, cond, ◌&&◌}
use mathlib.Core.Logic.{◌⊎◌, inl, inr}
use native.Mathlib.Omega.{arith}
use borrow.Author.Tests.{eqb-true, ltb-true, leb-true}
use lib.Dec.{eqb, ltb, leb}
use Rattle.rules.specs.Units.{of_bits, or_else, depth_that, depth_of, depth_with, depths_of, together, raw_m, corrected_m}
use Rattle.rules.specs.declared.Bits.{Bits}
use Rattle.rules.specs.declared.Depth.{Depth}
use Rattle.rules.specs.declared.Depths.{Depths}
use Rattle.rules.proofs.Tests.{and_both}
use Rattle.std.specs.Prelude.{None, Option, Some}

-- ---- one of the four

-- a property of the depth that is found
abbrev Of : (Depth → Type 0) → Option Depth → Type 0
Of P (Some depth) = P depth
Of P None = Unit {0}

module _ (takes : Depth → Bool) (P : Depth → Type 0) where
  -- of one of the four that is taken
  abbrev Taken : ℕ → ℕ → Type 0
  Taken bits m = takes (of_bits bits m) ≡ true → P (of_bits bits m)

  tried : (depth : Depth) (other : Option Depth) → (takes depth ≡ true → P depth) → Of P other → Of P (or_else takes depth other)
  tried depth other so later = by (takes depth) refl
    where
      by : (t : Bool) → takes depth ≡ t → Of P (cond t (Some depth) other)
      by true e = so e
      by false e = later

  each : Taken 8 255 → Taken 10 1023 → Taken 12 4095 → Taken 16 65535 → (depth : Depth) → depth_that takes ≡ Some depth → P depth
  each a b c d depth e = subst (Of P) e (tried _ _ a (tried _ _ b (tried _ _ c (tried _ _ d tt))))

-- a test that each of the four passes
abbrev pub four : (Depth → Bool) → Bool
four test = test (of_bits 8 255) && (test (of_bits 10 1023) && (test (of_bits 12 4095) && test (of_bits 16 65535)))

pub of_four : (test : Depth → Bool) → four test ≡ true → (bits : ℕ) (depth : Depth) → depth_of bits ≡ Some depth → test depth ≡ true
of_four test all bits =
    let (at8, after8) = and_both _ _ all in
    let (at10, after10) = and_both _ _ after8 in
    let (at12, at16) = and_both _ _ after10 in
    each (λ depth. eqb bits depth.bits) (λ depth. test depth ≡ true) (λ e. at8) (λ e. at10) (λ e. at12) (λ e. at16)

-- an M from 1 to 65535
abbrev pub Deep : ℕ → Type 0
Deep m = (0 < m) × (m ≤ 65535)

pub depth-bounds : (bits : ℕ) (depth : Depth) → depth_of bits ≡ Some depth → Deep depth.greatest
depth-bounds bits depth e =
    let (low, high) = and_both _ _ (of_four (λ depth. ltb 0 depth.greatest && leb depth.greatest 65535) refl bits depth e) in
    (ltb-true _ _ low, leb-true _ _ high)

-- a depth that is found by its greatest code has it, and is the depth of its bits
pub depth-with : (m : ℕ) (depth : Depth) → depth_with m ≡ Some depth → (depth.greatest ≡ m) × (depth_of depth.bits ≡ Some depth)
depth-with m =
    let its-bits : Depth → Type 0 = λ depth. (depth.greatest ≡ m) × (depth_of depth.bits ≡ Some depth) in
    each (λ depth. eqb m depth.greatest) its-bits
    (λ e. (sym (eqb-true m 255 e), refl))
    (λ e. (sym (eqb-true m 1023 e), refl))
    (λ e. (sym (eqb-true m 4095 e), refl))
    (λ e. (sym (eqb-true m 65535 e), refl))

-- ---- two depths

-- both depths of a pair are known by themselves
pub record EachKnown (bits : Bits) (depths : Depths) : Type 0 where
  pub raw : depth_of bits.raw ≡ Some depths.raw
  pub corrected : depth_of bits.corrected ≡ Some depths.corrected

pub each-known : (bits : Bits) (depths : Depths) → depths_of bits ≡ Some depths → EachKnown bits depths
each-known bits depths e = by (depth_of bits.raw) (depth_of bits.corrected) refl refl e
  where
    by : (a b : Option Depth) → depth_of bits.raw ≡ a → depth_of bits.corrected ≡ b → together a b ≡ Some depths → EachKnown bits depths
    by None b p q e = let z : ◌≡◌ {A = ℕ} 0 1 = cc in absurd (omega arith)
    by (Some raw) None p q e = let z : ◌≡◌ {A = ℕ} 0 1 = cc in absurd (omega arith)
    by (Some raw) (Some corrected) p q e =
        let x : raw ≡ depths.raw = cc in
        let y : corrected ≡ depths.corrected = cc in
        record { raw = p ∙ ap Some x; corrected = q ∙ ap Some y }

-- two widths give one pair
pub depths-one : (bits : Bits) (a b : Depths) → depths_of bits ≡ Some a → depths_of bits ≡ Some b → a ≡ b
depths-one bits a b p q = let e = sym p ∙ q in cc

-- a test that each of the sixteen pairs passes, raw and corrected
pub of-sixteen : (test : Depth → Depth → Bool) → four (λ raw. four (test raw)) ≡ true → (bits : Bits) (depths : Depths) → depths_of bits ≡ Some depths
    → test depths.raw depths.corrected ≡ true
of-sixteen test all bits depths e =
    let k = each-known bits depths e in
    of_four (test depths.raw) (of_four (λ raw. four (test raw)) all bits.raw depths.raw k.raw) bits.corrected depths.corrected k.corrected

pub depths-bounds : (bits : Bits) (depths : Depths) → depths_of bits ≡ Some depths → Deep (raw_m depths) × Deep (corrected_m depths)
depths-bounds bits depths e =
    let k = each-known bits depths e in
    (depth-bounds bits.raw depths.raw k.raw, depth-bounds bits.corrected depths.corrected k.corrected)

-- the raw depth is unknown; or it is known, and the corrected is not
abbrev pub OneUnknown : Bits → Type 0
OneUnknown bits = (depth_of bits.raw ≡ None) ⊎ ((raw : Depth) × (depth_of bits.raw ≡ Some raw) × (depth_of bits.corrected ≡ None))

-- two depths are not both known exactly there
pub not-both : (bits : Bits) → depths_of bits ≡ None → OneUnknown bits
not-both bits e = by (depth_of bits.raw) (depth_of bits.corrected) refl refl e
  where
    by : (a b : Option Depth) → depth_of bits.raw ≡ a → depth_of bits.corrected ≡ b → together a b ≡ None → OneUnknown bits
    by None b p q e = inl p
    by (Some raw) None p q e = inr (raw, p, q)
    by (Some raw) (Some corrected) p q e = let z : ◌≡◌ {A = ℕ} 0 1 = cc in absurd (omega arith)

pub unknown-not-both : (bits : Bits) → OneUnknown bits → depths_of bits ≡ None
unknown-not-both bits (inl p) = ap (λ x. together x (depth_of bits.corrected)) p
unknown-not-both bits (inr (raw, p, q)) = ap₂ together p q
