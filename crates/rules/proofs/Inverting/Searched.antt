-- A search finds the nearest code, of equally near ones the lowest, and its count is that of the codes up to the first exact hit, or of all of them.
-- What holds at each step: of the codes tried none is nearer, none lower is as near, and a hit is the last of them. The steps end at a hit or past m.
use Prim.Native.Nat.{ℕ, zero, suc, ◌+◌, ◌≤◌, ◌<◌}
use mathlib.Core.Path.{◌≡◌, refl, sym, subst}
use native.Mathlib.Decide.{dec_le, dec_lt}
use native.Mathlib.Omega.{arith}
use Rattle.rules.specs.Inverting.{Search, apart, off, try_next, try_on, search}
use Rattle.rules.specs.Demands.{NearestCode, FirstHit, Counted}
use Rattle.rules.proofs.Inverting.Tries.{try-none, try-hit, try-on, next-nearer, next-no-nearer}

-- codes lie 0 apart exactly if they are one
pub apart-0 : (a b : ℕ) → apart a b ≡ 0 → a ≡ b
apart-0 a b e = omega (arith, e)

pub apart-same : (a b : ℕ) → a ≡ b → apart a b ≡ 0
apart-same a b e = omega (arith, e)

module _ (corrected : ℕ → ℕ) (wanted : ℕ) where
  abbrev far : ℕ → ℕ
  far = off corrected wanted

  -- a hit, by how far off it is
  pub hit_or_not : (k : ℕ) → Dec (corrected k ≡ wanted)
  hit_or_not k = by (dec_le (far k) 0)
    where
      by : Dec (far k ≤ 0) → Dec (corrected k ≡ wanted)
      by (yes h) = yes (apart-0 (corrected k) wanted (omega (arith, h)))
      by (no h) = no (λ e. h (omega (arith, apart-same (corrected k) wanted e)))

  -- ---- what holds at each step

  record Tried (s : Search) : Type 0 where
    one : s.nearest < s.tries
    none_nearer : (k : ℕ) → k < s.tries → far s.nearest ≤ far k
    none_lower : (k : ℕ) → k < s.nearest → far s.nearest < far k
    hit-last : far s.nearest ≡ 0 → s.tries ≡ suc s.nearest

  begun : Tried (record { nearest = 0; tries = 1 })
  begun = record {
    one = omega arith;
    none_nearer = λ k h. let first : k ≡ 0 = omega (arith, h) in subst (λ x. far 0 ≤ far x) (sym first) (omega arith);
    none_lower = λ k h. absurd (omega (arith, h));
    hit-last = λ _. refl;
  }

  -- what holds of the codes before the next and of the next itself holds of all up to it
  and-next : (P : ℕ → Type 0) (n : ℕ) → ((k : ℕ) → k < n → P k) → P n → (k : ℕ) → k < suc n → P k
  and-next P n before next k h = by (dec_lt k n)
    where
      by : Dec (k < n) → P k
      by (yes l) = before k l
      by (no l) = let last : n ≡ k = omega (arith, h, l) in subst P last next

  next-tried : (s : Search) → Tried s → (far s.nearest ≡ 0 → ⊥) → Tried (try_next corrected wanted s)
  next-tried s t missed = by (dec_lt (far s.tries) (far s.nearest))
    where
      by : Dec (far s.tries < far s.nearest) → Tried (try_next corrected wanted s)
      by (yes nearer) = subst Tried (sym (next-nearer corrected wanted s nearer)) (record {
        one = omega arith;
        none_nearer =
            and-next (λ k. far s.tries ≤ far k) s.tries (λ k h. omega (arith, nearer, t.none_nearer k h)) (omega arith);
        none_lower = λ k h. omega (arith, nearer, t.none_nearer k h);
        hit-last = λ _. refl;
      })
      by (no h) = let no-nearer : far s.nearest ≤ far s.tries = omega (arith, h) in
          subst Tried (sym (next-no-nearer corrected wanted s no-nearer)) (record {
            one = omega (arith, t.one);
            none_nearer = and-next (λ k. far s.nearest ≤ far k) s.tries t.none_nearer no-nearer;
            none_lower = t.none_lower;
            hit-last = λ e. absurd (missed e);
          })

  one_more : (s : Search) → (try_next corrected wanted s).tries ≡ suc s.tries
  unfolding try_next
  one_more s = refl

  -- ---- and at the end

  module _ (m : ℕ) where
    record Ended (s : Search) : Type 0 where
      tried : Tried s
      inside : s.tries ≤ suc m
      all-or-hit : (far s.nearest ≡ 0 → ⊥) → s.tries ≡ suc m

    ends : (more : ℕ) (s : Search) → Tried s → s.tries + more ≡ suc m → Ended (try_on corrected wanted more s)
    ends zero s t e =
        subst Ended (sym (try-none corrected wanted s)) (record { tried = t; inside = omega (arith, e); all-or-hit = λ _. omega (arith, e) })
    ends (suc more) s t e = by (dec_le (far s.nearest) 0) (λ missed. ends more (try_next corrected wanted s) (next-tried s t missed))
      where
        by : Dec (far s.nearest ≤ 0)
            → ((far s.nearest ≡ 0 → ⊥) → (try_next corrected wanted s).tries + more ≡ suc m → Ended (try_on corrected wanted more (try_next corrected wanted s)))
            → Ended (try_on corrected wanted (suc more) s)
        by (yes h) later =
            let hit : far s.nearest ≡ 0 = omega (arith, h) in
            subst Ended (sym (try-hit corrected wanted (suc more) s hit))
            (record { tried = t; inside = omega (arith, e); all-or-hit = λ missed. absurd (missed hit) })
        by (no h) later =
            let missed : far s.nearest ≡ 0 → ⊥ = λ z. h (omega (arith, z)) in
            subst Ended (sym (try-on corrected wanted more s missed)) (later missed (omega (arith, e, one_more s)))

    abbrev found : Search
    found = search corrected wanted m

    ended : Ended found
    unfolding search
    ended = ends m (record { nearest = 0; tries = 1 }) begun (omega arith)

    -- the nearest code that a search comes to is the nearest
    pub search-nearest : NearestCode corrected m wanted found.nearest
    search-nearest = record {
      inside = omega (arith, ended.inside, ended.tried.one);
      none_nearer = λ k h. none_nearer k h (dec_le (far found.nearest) 0);
      none_lower = ended.tried.none_lower;
    }
      where
        none_nearer : (k : ℕ) → k ≤ m → Dec (far found.nearest ≤ 0) → far found.nearest ≤ far k
        none_nearer k h (yes hit) = omega (arith, hit)
        none_nearer k h (no missed) = ended.tried.none_nearer k (omega (arith, h, ended.all-or-hit (λ z. missed (omega (arith, z)))))

    -- and its count is the count
    pub search-counted : Counted corrected m wanted found.nearest found.tries
    search-counted = record {
      up_to_hit = up_to_hit;
      whole_range = whole_range;
    }
      where
        whole_range : ((k : ℕ) → k ≤ m → corrected k ≡ wanted → ⊥) → found.tries ≡ m + 1
        whole_range none =
            let missed : far found.nearest ≡ 0 → ⊥ = λ e. none found.nearest search-nearest.inside (apart-0 (corrected found.nearest) wanted e) in
            omega (arith, ended.all-or-hit missed)

        up_to_hit : (k : ℕ) → FirstHit corrected m wanted k → (found.nearest ≡ k) × (found.tries ≡ k + 1)
        up_to_hit k first =
            let hit : far k ≡ 0 = apart-same (corrected k) wanted first.exact in
            let as-near = search-nearest.none_nearer k first.inside in
            let nearest-hit : far found.nearest ≡ 0 = omega (arith, hit, as-near) in
            let not_lower : k < found.nearest → ⊥ = λ h. omega (arith, hit, ended.tried.none_lower k h) in
            let not-higher : found.nearest < k → ⊥ = λ h. first.first found.nearest h (apart-0 (corrected found.nearest) wanted nearest-hit) in
            let same : found.nearest ≡ k = omega (arith, not_lower, not-higher) in
            (same, omega (arith, same, ended.tried.hit-last nearest-hit))
