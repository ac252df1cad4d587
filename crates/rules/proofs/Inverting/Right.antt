-- The answer of the inverse, exactly: what is accepted is right, and what is right is accepted. The search keeps the property, and one code and one count have it.
use Prim.Native.Nat.{ℕ, ◌+◌, ◌≤◌, ◌<◌}
use mathlib.Core.Path.{◌≡◌, refl, sym, subst, ap, ◌∙◌}
use mathlib.Core.Logic.{◌⊎◌, inl, inr, ◌↔◌}
use mathlib.Core.Bool.{Bool, true, false}
use mathlib.Core.List.{List}
use native.Mathlib.Decide.{dec_le}
use native.Mathlib.Omega.{arith}
use lib.IntN.{ℤ}
use Rattle.rules.specs.Units.{depths_of, raw_m, corrected_m}
use Rattle.rules.specs.Descriptions.{could_be_read}
use Rattle.rules.specs.Looking.{line_code}
use Rattle.rules.specs.Inverting.{Search, search_in, off_by, inverse}
use Rattle.rules.specs.Promises.{Inverts}
use Rattle.rules.specs.Demands.{NearestCode, Counted, Reached, InverseRight}
use Rattle.rules.specs.declared.Aim.{Aim}
use Rattle.rules.specs.declared.Bits.{Bits}
use Rattle.rules.specs.declared.Depths.{Depths}
use Rattle.rules.specs.declared.Description.{Description}
use Rattle.rules.specs.declared.Kind.{Kind}
use Rattle.rules.specs.declared.Kind.TheVariants.{OneD, ThreeD}
use Rattle.rules.specs.declared.Refusal.TheVariants.{DepthUnknown, CodeTooGreat, CouldNotBeRead, NoneWithinTolerance}
use Rattle.rules.proofs.Answers.{inverts-is}
use Rattle.rules.proofs.KnownDepths.{depths-one}
use Rattle.rules.proofs.Inverting.Checks.{inverse-24-cube, inverse-24, inverse-20, inverse-23, inverse-28, inverse-0}
use Rattle.rules.proofs.Inverting.Searched.{apart-0, apart-same, hit_or_not, search-nearest, search-counted}
use Rattle.std.specs.Prelude.{None, Option, Some}
use Rattle.rules.specs.Results.{Inverse, inverse_of, no_inverse}

-- ---- one code, and one count

module _ {corrected : ℕ → ℕ} {m wanted : ℕ} where
  pub nearest-one : {a b : ℕ} → NearestCode corrected m wanted a → NearestCode corrected m wanted b → a ≡ b
  nearest-one {a} {b} p q =
      let not-below : a < b → ⊥ = λ h. omega (arith, q.none_lower a h, p.none_nearer b q.inside) in
      let not-above : b < a → ⊥ = λ h. omega (arith, p.none_lower b h, q.none_nearer a p.inside) in
      omega (arith, not-below, not-above)

  module _ {code count : ℕ} (near : NearestCode corrected m wanted code) (n : Counted corrected m wanted code count) where
    -- a hit is the last code tried
    count-of-hit : corrected code ≡ wanted → count ≡ code + 1
    count-of-hit exact = (n.up_to_hit code (record { inside = near.inside; exact = exact; first = none_before })).1
      where
        none_before : (j : ℕ) → j < code → corrected j ≡ wanted → ⊥
        none_before j h e = omega (arith, near.none_lower j h, apart-same (corrected j) wanted e)

    -- and without one all codes are tried
    count-of-all : (corrected code ≡ wanted → ⊥) → count ≡ m + 1
    count-of-all missed = n.whole_range none
      where
        none : (k : ℕ) → k ≤ m → corrected k ≡ wanted → ⊥
        none k h e =
            let as-near = near.none_nearer k h in
            missed (apart-0 (corrected code) wanted (omega (arith, as-near, apart-same (corrected k) wanted e)))

    count-at-most : count ≤ m + 1
    count-at-most = by (hit_or_not corrected wanted code)
      where
        by : Dec (corrected code ≡ wanted) → count ≤ m + 1
        by (yes e) = omega (arith, count-of-hit e, near.inside)
        by (no e) = omega (arith, count-of-all e)

  pub counted-one : {code a b : ℕ} → NearestCode corrected m wanted code → Counted corrected m wanted code a → Counted corrected m wanted code b → a ≡ b
  counted-one {code} {a} {b} near p q = by (hit_or_not corrected wanted code)
    where
      by : Dec (corrected code ≡ wanted) → a ≡ b
      by (yes e) = count-of-hit near p e ∙ sym (count-of-hit near q e)
      by (no e) = count-of-all near p e ∙ sym (count-of-all near q e)

module _ {d : Description} {table : List ℤ} {depths : Depths} {aim : Aim} where
  pub right-one : {a b n k : ℕ} → InverseRight d table depths aim a n → InverseRight d table depths aim b k → (a ≡ b) × (n ≡ k)
  right-one {a} {b} {n} {k} p q =
      let same = nearest-one p.nearest q.nearest in
      (same, counted-one q.nearest (subst (λ x. Counted (line_code d table depths aim.colour) (raw_m depths) aim.wanted x n) same p.counted) q.counted)

  -- the count of a right answer: up to it if it is a hit, of all raw codes if it is none
  module _ {code count : ℕ} (r : InverseRight d table depths aim code count) where
    pub count_most : count ≤ raw_m depths + 1
    count_most = count-at-most r.nearest r.counted

    pub count-hit : line_code d table depths aim.colour code ≡ aim.wanted → count ≡ code + 1
    count-hit = count-of-hit r.nearest r.counted

    pub count-all : (line_code d table depths aim.colour code ≡ aim.wanted → ⊥) → count ≡ raw_m depths + 1
    count-all = count-of-all r.nearest r.counted

-- ---- when each answer is given

-- what has passed the checks before the search
pub record InversePassed (d : Description) (table : List ℤ) (bits : Bits) (aim : Aim) : Type 0 where
  pub line : d.kind ≡ OneD
  pub could : could_be_read d table ≡ true
  pub depths : Depths
  pub known : depths_of bits ≡ Some depths
  pub inside : aim.wanted ≤ corrected_m depths

-- some raw code comes within the tolerance
abbrev pub ReachedIn : Description → List ℤ → Depths → Aim → Type 0
ReachedIn d table depths aim = Reached (line_code d table depths aim.colour) (raw_m depths) aim.wanted aim.tolerance

pub data InverseGiven (d : Description) (table : List ℤ) (bits : Bits) (aim : Aim) : Inverse → Type 0 where
  -- a 3D table, or what could not be read
  not-read : (d.kind ≡ ThreeD) ⊎ (could_be_read d table ≡ false) → InverseGiven d table bits aim (no_inverse CouldNotBeRead 0)
  -- a depth that is unknown, whatever is wanted
  unknown : d.kind ≡ OneD → could_be_read d table ≡ true → depths_of bits ≡ None → InverseGiven d table bits aim (no_inverse DepthUnknown 0)
  -- a wanted code above the corrected M
  too-great : d.kind ≡ OneD → could_be_read d table ≡ true → (depths : Depths) → depths_of bits ≡ Some depths → corrected_m depths < aim.wanted
      → InverseGiven d table bits aim (no_inverse CodeTooGreat 0)
  -- no raw code comes near enough, and all were tried
  none_within : (p : InversePassed d table bits aim) → (ReachedIn d table p.depths aim → ⊥)
      → InverseGiven d table bits aim (no_inverse NoneWithinTolerance (raw_m p.depths + 1))
  -- the nearest does
  answered : (p : InversePassed d table bits aim) {code count : ℕ} → InverseRight d table p.depths aim code count
      → InverseGiven d table bits aim (inverse_of code count)

module _ (d : Description) (table : List ℤ) (bits : Bits) (aim : Aim) where
  -- past the checks: the search by what it comes to
  module _ (p : InversePassed d table bits aim) where
    abbrev found : Search
    found = search_in d table p.depths aim

    abbrev corrected : ℕ → ℕ
    corrected = line_code d table p.depths aim.colour

    found-nearest : NearestCode corrected (raw_m p.depths) aim.wanted found.nearest
    found-nearest = search-nearest corrected aim.wanted (raw_m p.depths)

    found-counted : Counted corrected (raw_m p.depths) aim.wanted found.nearest found.tries
    found-counted = search-counted corrected aim.wanted (raw_m p.depths)

    within-accepted : off_by d table p.depths aim found.nearest ≤ aim.tolerance → inverse d table bits aim ≡ inverse_of found.nearest found.tries
    within-accepted h = inverse-0 d table bits aim p.line p.could p.depths p.known p.inside h

    -- where some code comes within the tolerance the nearest does
    pub reached-accepted : ReachedIn d table p.depths aim → inverse d table bits aim ≡ inverse_of found.nearest found.tries
    reached-accepted r = within-accepted (omega (arith, found-nearest.none_nearer r.code r.inside, r.within))

    beyond-refused : aim.tolerance < off_by d table p.depths aim found.nearest
        → inverse d table bits aim ≡ no_inverse NoneWithinTolerance (raw_m p.depths + 1)
    beyond-refused h =
        inverse-28 d table bits aim p.line p.could p.depths p.known p.inside h
        ∙ ap (no_inverse NoneWithinTolerance) (count-of-all found-nearest found-counted (λ e. omega (arith, h, apart-same (corrected found.nearest) aim.wanted e)))

  -- the answer is one that is given there
  inverse-given : InverseGiven d table bits aim (inverse d table bits aim)
  inverse-given = by d.kind refl (could_be_read d table) refl (depths_of bits) refl
    where
      Given : Inverse → Type 0
      Given = InverseGiven d table bits aim

      by-28 : (p : InversePassed d table bits aim) → Dec (off_by d table p.depths aim (found p).nearest ≤ aim.tolerance) → Given (inverse d table bits aim)
      by-28 p (yes h) =
          subst Given (sym (within-accepted p h)) (answered p (record { nearest = found-nearest p; counted = found-counted p; within = h }))
      by-28 p (no h) =
          subst Given (sym (beyond-refused p (omega (arith, h))))
          (none_within p (λ r. h (omega (arith, (found-nearest p).none_nearer r.code r.inside, r.within))))

      by-23 : (depths : Depths) → d.kind ≡ OneD → could_be_read d table ≡ true → depths_of bits ≡ Some depths → Dec (aim.wanted ≤ corrected_m depths)
          → Given (inverse d table bits aim)
      by-23 depths l e k (yes h) =
          let p : InversePassed d table bits aim = record { line = l; could = e; depths = depths; known = k; inside = h } in
          by-28 p (dec_le (off_by d table depths aim (found p).nearest) aim.tolerance)
      by-23 depths l e k (no h) =
          let above : corrected_m depths < aim.wanted = omega (arith, h) in
          subst Given (sym (inverse-23 d table bits aim l e depths k above)) (too-great l e depths k above)

      by : (x : Kind) → d.kind ≡ x → (t : Bool) → could_be_read d table ≡ t → (y : Option Depths) → depths_of bits ≡ y → Given (inverse d table bits aim)
      by ThreeD cube t e y k = subst Given (sym (inverse-24-cube d table bits aim cube)) (not-read (inl cube))
      by OneD l false e y k = subst Given (sym (inverse-24 d table bits aim e)) (not-read (inr e))
      by OneD l true e None k = subst Given (sym (inverse-20 d table bits aim l e k)) (unknown l e k)
      by OneD l true e (Some depths) k = by-23 depths l e k (dec_le aim.wanted (corrected_m depths))

  -- and no other is given there
  given-inverse : (r : Inverse) → InverseGiven d table bits aim r → inverse d table bits aim ≡ r
  given-inverse r (not-read (inl cube)) = inverse-24-cube d table bits aim cube
  given-inverse r (not-read (inr e)) = inverse-24 d table bits aim e
  given-inverse r (unknown l e k) = inverse-20 d table bits aim l e k
  given-inverse r (too-great l e depths k above) = inverse-23 d table bits aim l e depths k above
  given-inverse r (none_within p none) = by (dec_le (off_by d table p.depths aim (found p).nearest) aim.tolerance)
    where
      by : Dec (off_by d table p.depths aim (found p).nearest ≤ aim.tolerance) → inverse d table bits aim ≡ no_inverse NoneWithinTolerance (raw_m p.depths + 1)
      by (yes h) = absurd (none (record { code = (found p).nearest; inside = (found-nearest p).inside; within = h }))
      by (no h) = beyond-refused p (omega (arith, h))
  given-inverse r (answered p {code} {count} right) =
      let as-near = (found-nearest p).none_nearer code right.nearest.inside in
      let near : off_by d table p.depths aim (found p).nearest ≤ aim.tolerance = omega (arith, as-near, right.within) in
      let (code_so, count_so) = right-one (record { nearest = found-nearest p; counted = found-counted p; within = near }) right in
      within-accepted p near ∙ (λ i. inverse_of (code_so i) (count_so i))

  -- so an answer is the one given exactly where its case holds
  pub inverse-exactly : (r : Inverse) → (inverse d table bits aim ≡ r) ↔ InverseGiven d table bits aim r
  inverse-exactly r = (λ e. subst (InverseGiven d table bits aim) e inverse-given, given-inverse r)

-- ---- an accepted answer

-- it has passed the checks, and is right
pub record AcceptedRight (d : Description) (table : List ℤ) (bits : Bits) (aim : Aim) (code count : ℕ) : Type 0 where
  pub passed : InversePassed d table bits aim
  pub right : InverseRight d table passed.depths aim code count

module _ {d : Description} {table : List ℤ} {bits : Bits} {aim : Aim} {code count : ℕ} where
  pub inverse-right : inverse d table bits aim ≡ inverse_of code count → AcceptedRight d table bits aim code count
  inverse-right e = by ((inverse-exactly d table bits aim (inverse_of code count)).0 e)
    where
      by : InverseGiven d table bits aim (inverse_of code count) → AcceptedRight d table bits aim code count
      by (answered p r) = record { passed = p; right = r }

  -- what is right is answered
  pub right-inverse : AcceptedRight d table bits aim code count → inverse d table bits aim ≡ inverse_of code count
  right-inverse a = (inverse-exactly d table bits aim (inverse_of code count)).1 (answered a.passed a.right)

  -- at the depths of the call
  pub right-at : AcceptedRight d table bits aim code count → (depths : Depths) → depths_of bits ≡ Some depths → InverseRight d table depths aim code count
  right-at a depths known =
      subst (λ x. InverseRight d table x aim code count) (depths-one bits a.passed.depths depths a.passed.known known) a.right

-- so it is for every call that keeps the promise of the inverse
pub inverts-right : {d : Description} {table : List ℤ} {bits : Bits} {aim : Aim} {r : Inverse} {code count : ℕ} → Inverts d table bits aim r
    → r ≡ inverse_of code count → AcceptedRight d table bits aim code count
inverts-right h e = inverse-right (sym (inverts-is h) ∙ e)
