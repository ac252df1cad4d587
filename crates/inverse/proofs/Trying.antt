-- A search as the code keeps it, code by code: what is still to be tried makes of it what the definition says.
use Prim.Native.Nat.{ℕ, suc, ◌+◌, ◌-◌, ◌≤◌, ◌<◌}
use mathlib.Core.Path.{◌≡◌, refl, sym, ap, ap₂, subst, ◌∙◌}
use native.Mathlib.Omega.{arith}
use Rattle.rules.specs.Inverting.{off, try_next, try_on, search}
use Rattle.rules.proofs.Inverting.Tries.{try-none, try-hit, try-on, next-nearer, next-no-nearer}
use Rattle.inverse.specs.Finding.{search_of, found_by, OffSo}
use Rattle.inverse.specs.declared.Found.{Found}

module _ (corrected : ℕ → ℕ) (wanted : ℕ) where
  -- ---- one code more

  module _ (found : Found) (so : OffSo corrected wanted found) {far : ℕ} (e : far ≡ off corrected wanted found.tries) where
    abbrev next : Found
    next = found_by corrected wanted (try_next corrected wanted (search_of found))

    abbrev kept : ℕ → ℕ → ℕ → Found
    kept nearest by tries = record { nearest = nearest; off = by; tries = tries }

    one_more : found.tries + 1 ≡ suc found.tries
    one_more = omega arith

    pub nearer : far < found.off → kept found.tries far (found.tries + 1) ≡ next
    nearer h =
        ap₂ (kept found.tries) e one_more
        ∙ sym (ap (found_by corrected wanted) (next-nearer corrected wanted (search_of found) (omega (arith, h, e, so))))

    pub no-nearer : found.off ≤ far → kept found.nearest found.off (found.tries + 1) ≡ next
    no-nearer h =
        ap₂ (kept found.nearest) so one_more
        ∙ sym (ap (found_by corrected wanted) (next-no-nearer corrected wanted (search_of found) (omega (arith, h, e, so))))

  -- ---- in the loop

  -- what is kept is off by so much, and going on from it is the search
  pub record Trying (m : ℕ) (found : Found) : Type 0 where
    pub off-so : OffSo corrected wanted found
    pub reached : found.tries ≤ suc m
    pub goes-on : try_on corrected wanted (suc m - found.tries) (search_of found) ≡ search corrected wanted m

  module _ {m : ℕ} where
    -- code 0
    pub first-tried : {far : ℕ} → far ≡ off corrected wanted 0 → Trying m (record { nearest = 0; off = far; tries = 1 })
    unfolding search
    first-tried e =
        let left : suc m - 1 ≡ m = omega arith in
        record { off-so = e; reached = omega arith; goes-on = ap (λ n. try_on corrected wanted n (record { nearest = 0; tries = 1 })) left }

    module _ {found : Found} (t : Trying m found) where
      -- it is what has been kept, where nothing changes any more
      is-search : try_on corrected wanted (suc m - found.tries) (search_of found) ≡ search_of found → found ≡ found_by corrected wanted (search corrected wanted m)
      is-search e =
          let kept : found ≡ found_by corrected wanted (search_of found) = ap (λ x. record { nearest = found.nearest; off = x; tries = found.tries }) t.off-so in
          kept ∙ ap (found_by corrected wanted) (sym e ∙ t.goes-on)

      pub hit : found.off ≡ 0 → found ≡ found_by corrected wanted (search corrected wanted m)
      hit z = is-search (try-hit corrected wanted (suc m - found.tries) (search_of found) (sym t.off-so ∙ z))

      pub all-tried : m < found.tries → found ≡ found_by corrected wanted (search corrected wanted m)
      all-tried h =
          let none_left : suc m - found.tries ≡ 0 = omega (arith, h) in
          is-search (ap (λ n. try_on corrected wanted n (search_of found)) none_left ∙ try-none corrected wanted (search_of found))

      -- one code fewer is left
      pub tried-more : {r : Found} → r ≡ found_by corrected wanted (try_next corrected wanted (search_of found)) → r.tries ≡ suc found.tries
      unfolding try_next
      tried-more e = ap (λ x. x.tries) e

      pub next-tried : (found.off ≡ 0 → ⊥) → found.tries ≤ m → {r : Found} → r ≡ found_by corrected wanted (try_next corrected wanted (search_of found)) → Trying m r
      unfolding try_next
      next-tried missed h e =
          let s = search_of found in
          let left : suc m - found.tries ≡ suc (suc m - suc found.tries) = omega (arith, h) in
          subst (Trying m) (sym e)
          (record {
            off-so = refl;
            reached = omega (arith, h);
            goes-on =
                sym (try-on corrected wanted (suc m - suc found.tries) s (λ z. missed (t.off-so ∙ z)))
                ∙ ap (λ n. try_on corrected wanted n s) (sym left)
                ∙ t.goes-on;
          })
