-- The test of 24 and the property that it tests: each gives the other, and so does each part of the test.
use Prim.Native.Nat.{ℕ, zero, suc, ◌*◌, ◌≤◌, ◌<◌}
use mathlib.Core.Path.{◌≡◌, refl, sym, ap, ap₂, ◌∙◌}
use mathlib.Core.Bool.{Bool, true, false, ◌||◌, or-true}
use mathlib.Core.List.{List, [], ◌∷◌}
use native.Mathlib.Nat.{mul-le-mul, mul-pos}
use native.Mathlib.Omega.{arith}
use borrow.Author.Tests.{leb-true, le-leb, eqb-true, eq-eqb}
use lib.Dec.{leb}
use lib.IntN.{ℤ, pos, neg_ℤ, nat_abs, ◌-ℤ◌}
use lib.ListN.{length, take, get_or}
use lib.Seq.{get_or-take, length-take-le}
use lib.Signed.{◌<ℤ◌, lt_z, le_z, ≤ℤ_refl, lt_z_yes, le_z_yes}
use Rattle.whole.proofs.Halves as H
use Rattle.whole.proofs.Held.{passed, true-by, false-by, le_up}
use Rattle.rules.specs.Units.{sample_limit, bound_limit, width_limit, greatest_n, in_range, rows_of, row_limit}
use Rattle.rules.specs.Descriptions.{DomainFits, WholeBounds, Agreed, one, whole, Sound, rows, domain, width, every_colour, bounds_fit, ordered, narrow, same, same_domain, one_domain, whole_bounds, agree, roomy, samples_fit, could_be_read}
use Rattle.rules.specs.declared.Colour.{Colour}
use Rattle.rules.specs.declared.Colour.TheVariants.{Red, Green, Blue}
use Rattle.rules.specs.declared.Description.{Description}
use Rattle.rules.specs.declared.Domain.{Domain}
use Rattle.rules.specs.declared.Kind.{Kind}
use Rattle.rules.specs.declared.Kind.TheVariants.{OneD, ThreeD}
use Rattle.rules.proofs.Tests.{and_both, both-and}

-- ---- rows

-- no N is greater than the greatest of 1D
pub greatest-most : (k : Kind) → greatest_n k ≤ greatest_n OneD
greatest-most OneD = omega arith
greatest-most ThreeD = omega arith

-- a table has at most 256·256·256 rows
pub rows-most : (k : Kind) (n : ℕ) → n ≤ greatest_n k → rows_of k n ≤ row_limit
rows-most OneD n h = omega arith
rows-most ThreeD n h = mul-le-mul (mul-le-mul h h) h

-- and at least one
rows-some : (k : Kind) (n : ℕ) → 2 ≤ n → 0 < rows_of k n
rows-some OneD n h = omega arith
rows-some ThreeD n h = mul-pos (mul-pos (omega arith) (omega arith)) (omega arith)

-- at most so many it has where N is in range
pub range-most : (k : Kind) (n : ℕ) → in_range k n ≡ true → n ≤ greatest_n k
range-most k n e = leb-true _ _ (and_both (leb 2 n) _ e).1

pub range-rows-most : (k : Kind) (n : ℕ) → in_range k n ≡ true → rows_of k n ≤ row_limit
range-rows-most k n e = rows-most k n (range-most k n e)

-- ---- a domain by itself

module _ (dom : Domain) where
  pub bounds-within : bounds_fit dom ≡ true → (nat_abs dom.lower.0 ≤ bound_limit) × (nat_abs dom.upper.0 ≤ bound_limit)
  unfolding bounds_fit
  bounds-within e = let (l, h) = and_both _ _ e in (leb-true _ _ l, leb-true _ _ h)

  pub within-bounds : nat_abs dom.lower.0 ≤ bound_limit → nat_abs dom.upper.0 ≤ bound_limit → bounds_fit dom ≡ true
  unfolding bounds_fit
  within-bounds l h = both-and _ _ (le-leb _ _ l) (le-leb _ _ h)

  pub ordered-less : ordered dom ≡ true → dom.lower.0 <ℤ dom.upper.0
  unfolding ordered
  ordered-less e = lt_z_yes (passed (lt_z dom.lower.0 dom.upper.0) e)

  pub less-ordered : dom.lower.0 <ℤ dom.upper.0 → ordered dom ≡ true
  unfolding ordered
  less-ordered h = true-by (lt_z dom.lower.0 dom.upper.0) h.lt

  -- where the upper bound is below the lower the width is 0, and the domain is narrow by both tests
  narrow-is : narrow dom ≡ leb (width dom) width_limit
  unfolding narrow
  narrow-is = le_up (dom.upper.0 -ℤ dom.lower.0) width_limit

  pub narrow-width : narrow dom ≡ true → width dom ≤ width_limit
  narrow-width e = leb-true _ _ (sym narrow-is ∙ e)

  pub width_narrow : width dom ≤ width_limit → narrow dom ≡ true
  width_narrow h = narrow-is ∙ le-leb _ _ h

pub wide_enough : {dom : Domain} → DomainFits dom → 0 < width dom
wide_enough {dom} f =
    let lower = dom.lower.0 in
    let upper = dom.upper.0 in
    omega (arith, H.lt f.order, H.sum upper (neg_ℤ lower), H.neg lower, H.split (upper -ℤ lower))

-- ---- two domains that are one

pub same_number : (a b : ℤ) → same a b ≡ true → a ≡ b
same_number a b e = let (p, q) = and_both (le_z a b) (le_z b a) e in H.≤-antisymm (le_z_yes (passed _ p)) (le_z_yes (passed _ q))

pub number_same : (a b : ℤ) → a ≡ b → same a b ≡ true
number_same a b e = let self = true-by (le_z b b) (≤ℤ_refl b).le in rw e (both-and _ _ self self)

module _ (a b : Domain) where
  pub same-domain : same_domain a b ≡ true → a ≡ b
  unfolding same_domain
  same-domain e =
      let (l, u) = and_both _ _ e in
      rebuilt (same_number a.lower.0 b.lower.0 l) (same_number a.upper.0 b.upper.0 u)
    where
      rebuilt : a.lower.0 ≡ b.lower.0 → a.upper.0 ≡ b.upper.0 → a ≡ b
      rebuilt l u = ap₂ (λ (x y : ℤ). record { lower = record { 0 = x }; upper = record { 0 = y } }) l u

  pub domain-same : a ≡ b → same_domain a b ≡ true
  unfolding same_domain
  domain-same e =
      both-and _ _ (number_same _ _ (ap (λ (x : Domain). x.lower.0) e)) (number_same _ _ (ap (λ (x : Domain). x.upper.0) e))

module _ (d : Description) where
  pub one-domain : one_domain d ≡ true → (c : Colour) → domain d c ≡ d.red
  unfolding one_domain
  one-domain e Red = refl
  one-domain e Green = same-domain _ _ (and_both _ _ e).0
  one-domain e Blue = same-domain _ _ (and_both (same_domain d.green d.red) _ e).1

  pub domain-one : ((c : Colour) → domain d c ≡ d.red) → one_domain d ≡ true
  unfolding one_domain
  domain-one h = both-and _ _ (domain-same _ _ (h Green)) (domain-same _ _ (h Blue))

-- ---- the three colours

module _ (good : Domain → Bool) (d : Description) where
  pub every-each : every_colour good d ≡ true → (c : Colour) → good (domain d c) ≡ true
  every-each e c = by c (and_both _ _ e).0 (and_both _ _ (and_both (good d.red) _ e).1)
    where
      by : (c : Colour) → good d.red ≡ true → (good d.green ≡ true) × (good d.blue ≡ true) → good (domain d c) ≡ true
      by Red r gb = r
      by Green r gb = gb.0
      by Blue r gb = gb.1

  pub each-every : ((c : Colour) → good (domain d c) ≡ true) → every_colour good d ≡ true
  each-every h = both-and _ _ (h Red) (both-and _ _ (h Green) (h Blue))

-- ---- 12: one domain, or whole bounds

module _ (dom : Domain) where
  whole-bounds : whole_bounds dom ≡ true → WholeBounds dom
  unfolding whole_bounds
  whole-bounds e = let (l, u) = and_both _ _ e in record { lower = eqb-true _ _ l; upper = eqb-true _ _ u }

  bounds-whole : WholeBounds dom → whole_bounds dom ≡ true
  unfolding whole_bounds
  bounds-whole w = both-and _ _ (eq-eqb _ _ w.lower) (eq-eqb _ _ w.upper)

module _ (d : Description) where
  pub agree-agreed : (k : Kind) → agree k d ≡ true → k ≡ ThreeD → Agreed d
  unfolding agree
  agree-agreed OneD e q = absurd (apart q)
    where
      apart : OneD ≡ ThreeD → ⊥
      apart q = let z : ◌≡◌ {A = ℕ} 0 1 = cc in omega arith
  agree-agreed ThreeD e q = by (one_domain d) refl e
    where
      by : (b : Bool) → one_domain d ≡ b → b || every_colour whole_bounds d ≡ true → Agreed d
      by true h e = one (one-domain d h)
      by false h e = whole (λ c. whole-bounds (domain d c) (every-each whole_bounds d e c))

  pub agreed-agree : (k : Kind) → (k ≡ ThreeD → Agreed d) → agree k d ≡ true
  unfolding agree
  agreed-agree OneD h = refl
  agreed-agree ThreeD h = by (h refl)
    where
      by : Agreed d → one_domain d || every_colour whole_bounds d ≡ true
      by (one o) = rw (domain-one d o)
      by (whole w) = rw (each-every whole_bounds d (λ c. bounds-whole (domain d c) (w c))) (or-true (one_domain d))

-- ---- the samples

pub fit-each : (xs : List ℤ) → samples_fit xs ≡ true → (k : ℕ) → k < length xs → nat_abs (get_or xs k (pos 0)) ≤ sample_limit
unfolding samples_fit
fit-each [] e k h = absurd (omega arith)
fit-each (x ∷ xs) e zero h = leb-true _ _ (and_both _ _ e).0
fit-each (x ∷ xs) e (suc k) h = fit-each xs (and_both (leb (nat_abs x) sample_limit) _ e).1 k (omega arith)

pub each-fit : (xs : List ℤ) → ((k : ℕ) → k < length xs → nat_abs (get_or xs k (pos 0)) ≤ sample_limit) → samples_fit xs ≡ true
unfolding samples_fit
each-fit [] h = refl
each-fit (x ∷ xs) h = both-and _ _ (le-leb _ _ (h 0 (omega arith))) (each-fit xs (λ k l. h (suc k) (omega arith)))

-- the first so many numbers of a table
module _ (count : ℕ) (table : List ℤ) (long : count ≤ length table) where
  pub first-fit-each : samples_fit (take count table) ≡ true → (k : ℕ) → k < count → nat_abs (get_or table k (pos 0)) ≤ sample_limit
  first-fit-each e k h = rw (get_or-take count table k (pos 0) h) at (fit-each (take count table) e k (rw (length-take-le count table long) h))

  pub each-first-fit : ((k : ℕ) → k < count → nat_abs (get_or table k (pos 0)) ≤ sample_limit) → samples_fit (take count table) ≡ true
  each-first-fit f =
      each-fit (take count table) (λ k l. let h = rw (length-take-le count table long) at l in rw (get_or-take count table k (pos 0) h) (f k h))

-- ---- description and table

module _ (d : Description) (table : List ℤ) where
  pub sound-of : could_be_read d table ≡ true → Sound d table
  unfolding could_be_read roomy
  sound-of e =
      let (range, e1) = and_both _ _ e in
      let (bounds, e2) = and_both (every_colour bounds_fit d) _ e1 in
      let (order, e3) = and_both (every_colour ordered d) _ e2 in
      let (widths, e4) = and_both (every_colour narrow d) _ e3 in
      let (agrees, e5) = and_both _ _ e4 in
      let (room, fit) = and_both _ _ e5 in
      let (least, most) = and_both _ _ range in
      let long : 3 * rows d ≤ length table = leb-true _ _ room in
      record {
        least = leb-true _ _ least;
        most = leb-true _ _ most;
        domains = λ c. fits c (every-each bounds_fit d bounds c) (every-each ordered d order c) (every-each narrow d widths c);
        agreed = agree-agreed d d.kind agrees;
        long = long;
        samples = first-fit-each (3 * rows d) table long fit;
      }
    where
      fits : (c : Colour) → bounds_fit (domain d c) ≡ true → ordered (domain d c) ≡ true → narrow (domain d c) ≡ true → DomainFits (domain d c)
      fits c b o w =
          let dom = domain d c in
          record { low = (bounds-within dom b).0; high = (bounds-within dom b).1; order = ordered-less dom o; narrow = narrow-width dom w }

  pub sound-range : Sound d table → in_range d.kind d.n ≡ true
  sound-range s = both-and _ _ (le-leb _ _ s.least) (le-leb _ _ s.most)

  pub sound-rows : Sound d table → 0 < rows d
  sound-rows s = rows-some d.kind d.n s.least

  pub of-sound : Sound d table → could_be_read d table ≡ true
  unfolding could_be_read roomy
  of-sound s =
      both-and _ _ (sound-range s)
      (both-and _ _ (each-every bounds_fit d (λ c. within-bounds _ (s.domains c).low (s.domains c).high))
      (both-and _ _ (each-every ordered d (λ c. less-ordered _ (s.domains c).order))
      (both-and _ _ (each-every narrow d (λ c. width_narrow _ (s.domains c).narrow))
      (both-and _ _ (agreed-agree d d.kind s.agreed)
      (both-and _ _ (le-leb _ _ s.long)
      (each-first-fit (3 * rows d) table s.long s.samples))))))

  -- what lacks one part of it could not have been read
  pub unsound : (Sound d table → ⊥) → could_be_read d table ≡ false
  unsound lacks = false-by (could_be_read d table) (λ t. lacks (sound-of (true-by _ t)))

  pub too_short : length table < 3 * rows d → could_be_read d table ≡ false
  too_short h = unsound (λ s. clash s.long)
    where
      clash : 3 * rows d ≤ length table → ⊥
      clash l = omega arith
