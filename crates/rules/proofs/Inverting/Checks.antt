-- The answers of the inverse by their cases, in the order of the checks: 24, 20, 23, 28, accepted.
use Prim.Native.Nat.{◌≤◌, ◌<◌}
use mathlib.Core.Path.{◌≡◌, ap, ◌∙◌}
use mathlib.Core.Bool.{Bool, true, false, cond, ◌&&◌}
use mathlib.Core.Logic.{inl, inr}
use mathlib.Core.List.{List}
use borrow.Author.Tests.{le-leb, lt-leb}
use lib.IntN.{ℤ}
use Rattle.rules.specs.Units.{depths_of, corrected_m}
use Rattle.rules.specs.Descriptions.{could_be_read}
use Rattle.rules.specs.Inverting.{Search, is_line, search_in, off_by, searched, inverse_at, inverse}
use Rattle.rules.specs.declared.Aim.{Aim}
use Rattle.rules.specs.declared.Bits.{Bits}
use Rattle.rules.specs.declared.Depths.{Depths}
use Rattle.rules.specs.declared.Description.{Description}
use Rattle.rules.specs.declared.Kind.TheVariants.{OneD, ThreeD}
use Rattle.rules.specs.declared.Refusal.TheVariants.{DepthUnknown, CodeTooGreat, CouldNotBeRead, NoneWithinTolerance}
use Rattle.rules.proofs.Tests.{both-and, and-fails}
use Rattle.std.specs.Prelude.{None, Some}
use Rattle.rules.specs.Results.{inverse_of, no_inverse}

module _ (d : Description) (table : List ℤ) (bits : Bits) (aim : Aim) where
  by-24 : {t : Bool} → is_line d.kind && could_be_read d table ≡ t → inverse d table bits aim ≡ cond t (inverse_at d table aim (depths_of bits)) (no_inverse CouldNotBeRead 0)
  unfolding inverse
  by-24 e = ap (λ t. cond t (inverse_at d table aim (depths_of bits)) (no_inverse CouldNotBeRead 0)) e

  pub inverse-24-cube : d.kind ≡ ThreeD → inverse d table bits aim ≡ no_inverse CouldNotBeRead 0
  inverse-24-cube cube = by-24 (and-fails _ (could_be_read d table) (inr (ap is_line cube)))

  pub inverse-24 : could_be_read d table ≡ false → inverse d table bits aim ≡ no_inverse CouldNotBeRead 0
  inverse-24 e = by-24 (and-fails (is_line d.kind) _ (inl e))

  module _ (line : d.kind ≡ OneD) (could : could_be_read d table ≡ true) where
    passed-24 : inverse d table bits aim ≡ inverse_at d table aim (depths_of bits)
    passed-24 = by-24 (both-and _ _ (ap is_line line) could)

    pub inverse-20 : depths_of bits ≡ None → inverse d table bits aim ≡ no_inverse DepthUnknown 0
    unfolding inverse_at
    inverse-20 u = passed-24 ∙ ap (inverse_at d table aim) u

    module _ (depths : Depths) (known : depths_of bits ≡ Some depths) where
      pub inverse-23 : corrected_m depths < aim.wanted → inverse d table bits aim ≡ no_inverse CodeTooGreat 0
      unfolding inverse_at
      inverse-23 h = passed-24 ∙ ap (inverse_at d table aim) known ∙ rw (lt-leb _ _ h)

      module _ (inside : aim.wanted ≤ corrected_m depths) where
        abbrev found : Search
        found = search_in d table depths aim

        pub inverse-searched : inverse d table bits aim ≡ searched d table depths aim found
        unfolding inverse_at
        inverse-searched = passed-24 ∙ ap (inverse_at d table aim) known ∙ rw (le-leb _ _ inside)

        pub inverse-28 : aim.tolerance < off_by d table depths aim found.nearest → inverse d table bits aim ≡ no_inverse NoneWithinTolerance found.tries
        inverse-28 h = inverse-searched ∙ rw (lt-leb _ _ h)

        pub inverse-0 : off_by d table depths aim found.nearest ≤ aim.tolerance → inverse d table bits aim ≡ inverse_of found.nearest found.tries
        inverse-0 h = inverse-searched ∙ rw (le-leb _ _ h)
