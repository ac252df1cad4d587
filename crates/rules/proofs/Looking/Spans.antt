-- Document 02, Req 07: the span of a colour, and its domain in parts of it: thousandths where the span is the domain's own width, and parts of Wr·Wg·Wb where
-- that is the span.
use Prim.Native.Nat.{ℕ, suc, ◌*◌, ◌/◌, ◌%◌, ◌≤◌, ◌<◌}
use mathlib.Core.Path.{◌≡◌, refl, sym, ap, subst, ◌∙◌}
use mathlib.Core.Bool.{Bool, true, false}
use mathlib.Core.List.{List}
use native.Mathlib.Nat as NatL
use native.Mathlib.Omega.{arith}
use lib.IntN.{ℤ, pos, negsuc, neg_ℤ, nat_abs, ◌-ℤ◌, ◌*ℤ◌}
use lib.Signed.{quot_z}
use Rattle.whole.specs.Integers.{up, dn}
use Rattle.whole.proofs.Halves as H
use Rattle.rules.specs.Units.{bound_one, width_limit}
use Rattle.rules.specs.Descriptions.{domain, width, units, one_domain, common_span, span_in, span, DomainFits, WholeBounds, Agreed, one, whole, Sound}
use Rattle.rules.specs.declared.Colour.{Colour}
use Rattle.rules.specs.declared.Colour.TheVariants.{Red, Green, Blue}
use Rattle.rules.specs.declared.Description.{Description}
use Rattle.rules.specs.declared.Domain.{Domain}
use Rattle.rules.specs.declared.Kind.{Kind}
use Rattle.rules.specs.declared.Kind.TheVariants.{OneD, ThreeD}
use Rattle.rules.proofs.Sound.{wide_enough, one-domain, domain-one}
use Rattle.rules.proofs.Tests.{no_true}

-- ---- which span it is

module _ (d : Description) (c : Colour) where
  -- in 1D, and where the three colours have one domain, it is the width of the colour's own domain
  pub span-1d : d.kind ≡ OneD → span d c ≡ width (domain d c)
  span-1d e = ap (λ k. span_in k d c) e

  common-one : one_domain d ≡ true → common_span d ≡ width (domain d c)
  unfolding common_span
  common-one e = rw (e, one-domain d e c)

  pub span-one : one_domain d ≡ true → span d c ≡ width (domain d c)
  span-one e = by d.kind
    where
      by : (k : Kind) → span_in k d c ≡ width (domain d c)
      by OneD = refl
      by ThreeD = common-one e

  -- and where they differ, that of all three in whole units
  pub span-common : d.kind ≡ ThreeD → one_domain d ≡ false → span d c ≡ units d.red * units d.green * units d.blue
  unfolding common_span
  span-common e differ = ap (λ k. span_in k d c) e ∙ rw differ

-- of whatever could have been read it is one or the other
pub data Spanned (d : Description) (c : Colour) : Type 0 where
  own : span d c ≡ width (domain d c) → Spanned d c
  common : ((k : Colour) → WholeBounds (domain d k)) → span d c ≡ units d.red * units d.green * units d.blue → Spanned d c

pub spanned : (d : Description) {table : List ℤ} → Sound d table → (c : Colour) → Spanned d c
spanned d s c = by d.kind refl (one_domain d) refl
  where
    mixed : one_domain d ≡ false → d.kind ≡ ThreeD → Agreed d → Spanned d c
    mixed f e (one o) = absurd (no_true (sym (domain-one d o) ∙ f))
    mixed f e (whole w) = common w (span-common d c e f)

    by : (k : Kind) → d.kind ≡ k → (b : Bool) → one_domain d ≡ b → Spanned d c
    by k e true f = own (span-one d c f)
    by OneD e false f = own (span-1d d c e)
    by ThreeD e false f = mixed f e (s.agreed e)

-- ---- whole bounds

-- a whole bound, in whole units
unit-bound : (z : ℤ) → nat_abs z % bound_one ≡ 0 → pos bound_one *ℤ quot_z z (pos bound_one) ≡ z
unit-bound (pos a) e = ap pos (omega (arith, NatL.mod-add-div a bound_one))
unit-bound (negsuc a) e =
    let k = suc a / bound_one in
    H.eq-by (pos bound_one *ℤ neg_ℤ (pos k)) (negsuc a) (omega (arith, H.times bound_one (neg_ℤ (pos k)), H.neg (pos k), NatL.mod-add-div (suc a) bound_one))

-- between two the width is whole units
pub whole-width : (dom : Domain) → WholeBounds dom → width dom ≡ units dom * bound_one
whole-width dom w =
    let lower = dom.lower.0 in
    let upper = dom.upper.0 in
    let lo = quot_z lower (pos bound_one) in
    let hi = quot_z upper (pos bound_one) in
    omega (
      arith,
      H.sum upper (neg_ℤ lower),
      H.neg lower,
      H.split (upper -ℤ lower),
      H.times bound_one lo,
      H.times bound_one hi,
      ap up (unit-bound lower w.lower),
      ap dn (unit-bound lower w.lower),
      ap up (unit-bound upper w.upper),
      ap dn (unit-bound upper w.upper),
      NatL.mod-add-div (width dom) bound_one,
      NatL.mod-lt (width dom) {m = bound_one} (omega arith),
    )

-- of them at least one
units-some : (dom : Domain) → DomainFits dom → WholeBounds dom → 0 < units dom
units-some dom fits w = omega (arith, whole-width dom w, wide_enough fits)

-- and of any domain at most 10
pub units-most : (dom : Domain) → DomainFits dom → units dom ≤ 10
units-most dom fits = omega (arith, fits.narrow)

-- ---- how great a span is

module _ (d : Description) {table : List ℤ} (s : Sound d table) (c : Colour) where
  -- never 0
  pub span-some : 0 < span d c
  span-some = by (spanned d s c)
    where
      by : Spanned d c → 0 < span d c
      by (own e) = rw e (wide_enough (s.domains c))
      by (common w e) =
          let some : (k : Colour) → 0 < units (domain d k) = λ k. units-some (domain d k) (s.domains k) (w k) in
          rw e (NatL.mul-pos (NatL.mul-pos (some Red) (some Green)) (some Blue))

  -- and no more than the widest domain is in thousandths; in whole units at most 10·10·10
  pub span-most : span d c ≤ width_limit
  span-most = by (spanned d s c)
    where
      by : Spanned d c → span d c ≤ width_limit
      by (own e) = rw e (s.domains c).narrow
      by (common w e) =
          let most : (k : Colour) → units (domain d k) ≤ 10 = λ k. units-most (domain d k) (s.domains k) in
          omega (arith, e, NatL.mul-le-mul (NatL.mul-le-mul (most Red) (most Green)) (most Blue))

-- ---- a domain in parts of a span

-- one unit is so many parts, and the lower bound lies at so many
pub record InParts (dom : Domain) (s : ℕ) : Type 0 where
  pub each : ℕ
  pub low : ℤ
  pub units-so : each * width dom ≡ bound_one * s
  pub lower-so : pos bound_one *ℤ low ≡ pos each *ℤ dom.lower.0

-- of its own width: in thousandths
own-parts : (dom : Domain) → InParts dom (width dom)
own-parts dom = record { each = bound_one; low = dom.lower.0; units-so = refl; lower-so = refl }

-- of its width in whole units times another number: in so many parts a unit
unit-parts : (dom : Domain) (others : ℕ) → WholeBounds dom → InParts dom (units dom * others)
unit-parts dom others w =
    let lo = quot_z dom.lower.0 (pos bound_one) in
    record {
      each = others;
      low = pos others *ℤ lo;
      units-so = ap (λ x. others * x) (whole-width dom w) ∙ sym (NatL.mul_assoc others (units dom) bound_one) ∙ NatL.mul_comm (others * units dom) bound_one ∙ ap (λ x. bound_one * x) (NatL.mul_comm others (units dom));
      lower-so = sym (H.mul_assoc bound_one others lo) ∙ ap (λ x. pos x *ℤ lo) (NatL.mul_comm bound_one others) ∙ H.mul_assoc others bound_one lo ∙ ap (λ z. pos others *ℤ z) (unit-bound dom.lower.0 w.lower);
    }

pub in_parts : (d : Description) {table : List ℤ} → Sound d table → (c : Colour) → InParts (domain d c) (span d c)
in_parts d s c = by (spanned d s c)
  where
    r : ℕ
    r = units d.red

    g : ℕ
    g = units d.green

    b : ℕ
    b = units d.blue

    -- the units of a colour, times those of the others
    parted : (k : Colour) → ((k : Colour) → WholeBounds (domain d k)) → InParts (domain d k) (r * g * b)
    parted Red w = subst (InParts d.red) (sym (NatL.mul_assoc r g b)) (unit-parts d.red (g * b) (w Red))
    parted Green w = subst (InParts d.green) (NatL.mul_left_comm g r b ∙ sym (NatL.mul_assoc r g b)) (unit-parts d.green (r * b) (w Green))
    parted Blue w = subst (InParts d.blue) (NatL.mul_comm b (r * g)) (unit-parts d.blue (r * g) (w Blue))

    by : Spanned d c → InParts (domain d c) (span d c)
    by (own e) = subst (InParts (domain d c)) (sym e) (own-parts (domain d c))
    by (common w e) = subst (InParts (domain d c)) (sym e) (parted c w)
