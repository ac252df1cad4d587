-- The search, code by code.
use Prim.Native.Nat.{ℕ, zero, suc, ◌≤◌, ◌<◌}
use mathlib.Core.Path.{◌≡◌, refl}
use borrow.Author.Tests.{eq-eqb, ne_eqb, lt-ltb, le-ltb}
use Rattle.rules.specs.Inverting.{Search, off, try_next, try_on}

module _ (corrected : ℕ → ℕ) (wanted : ℕ) where
  -- after the last code
  pub try-none : (s : Search) → try_on corrected wanted 0 s ≡ s
  unfolding try_on
  try-none s = refl

  -- a hit ends it, however many codes there are to come
  pub try-hit : (more : ℕ) (s : Search) → off corrected wanted s.nearest ≡ 0 → try_on corrected wanted more s ≡ s
  unfolding try_on
  try-hit zero s e = refl
  try-hit (suc more) s e = rw (eq-eqb _ _ e)

  -- without one the next code is tried
  pub try-on : (more : ℕ) (s : Search) → (off corrected wanted s.nearest ≡ 0 → ⊥)
      → try_on corrected wanted (suc more) s ≡ try_on corrected wanted more (try_next corrected wanted s)
  unfolding try_on
  try-on more s missed = rw (ne_eqb _ _ missed)

  -- and is the nearest if it is nearer
  pub next-nearer : (s : Search) → off corrected wanted s.tries < off corrected wanted s.nearest
      → try_next corrected wanted s ≡ record { nearest = s.tries; tries = suc s.tries }
  unfolding try_next
  next-nearer s h = rw (lt-ltb _ _ h)

  pub next-no-nearer : (s : Search) → off corrected wanted s.nearest ≤ off corrected wanted s.tries
      → try_next corrected wanted s ≡ record { nearest = s.nearest; tries = suc s.tries }
  unfolding try_next
  next-no-nearer s h = rw (le-ltb _ _ h)
