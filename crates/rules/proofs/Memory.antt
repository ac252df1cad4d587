-- The laws of lent memory with some places replaced: what stands before, in and after them, and that replacing piece by piece, or store by
-- store, is replacing all at once.
use Prim.Native.Nat.{ℕ, suc, ◌+◌, ◌≤◌, ◌<◌}
use mathlib.Core.Path.{◌≡◌, sym, ap, ap₂, ◌∙◌}
use mathlib.Core.List.{List, [], ◌∷◌, ◌++◌, append_assoc}
use native.Mathlib.Nat.{add-zero}
use native.Mathlib.Numerals.{add-one}
use native.Mathlib.Omega.{arith}
use lib.ListN.{length, take, drop, get_or, set, length-append, length-drop, take-append-drop}
use lib.Seq.{take_at, drop_at, drop-drop, take-append_seam, take-suc, take-take, length-take-le, set_split, sets, sets-eq}
use Rattle.rules.specs.Memory.{spliced}

module _ {A : Type 0} where
  -- nothing replaced leaves all as it was
  pub splice-none : (old : List A) (at : ℕ) → spliced old at [] ≡ old
  splice-none old at = rw add-zero (take-append-drop at old)

  -- from the first place on
  pub splice_front : (old new : List A) → spliced old 0 new ≡ new ++ drop (length new) old
  splice_front old new = let n : 0 + length new ≡ length new = omega arith in rw n

  module _ (old : List A) (at : ℕ) (new : List A) (fits : at + length new ≤ length old) where
    kept-length : length (take at old) ≡ at
    kept-length = length-take-le at old (omega arith)

    until-length : length (take at old ++ new) ≡ at + length new
    until-length = length-append (take at old) new ∙ omega (arith, kept-length)

    -- as many places as before
    pub splice-length : length (spliced old at new) ≡ length old
    splice-length = simp (length-append, length-drop) (omega (arith, kept-length))

    -- what stood before stays
    pub splice-before : take at (spliced old at new) ≡ take at old
    splice-before = take_at (take at old) _ at kept-length

    -- the places have the new values
    pub splice-in : take (length new) (drop at (spliced old at new)) ≡ new
    splice-in = ap (take (length new)) (drop_at (take at old) _ at kept-length) ∙ take-append_seam new _

    -- all up to the last of them
    pub splice-until : take (at + length new) (spliced old at new) ≡ take at old ++ new
    splice-until = ap (take (at + length new)) (sym (append_assoc (take at old) new _)) ∙ take_at (take at old ++ new) _ _ until-length

    -- what stood after stays
    pub splice-after : drop (at + length new) (spliced old at new) ≡ drop (at + length new) old
    splice-after = ap (drop (at + length new)) (sym (append_assoc (take at old) new _)) ∙ drop_at (take at old ++ new) _ _ until-length

  -- one after the other is one
  pub splice-both : (old : List A) (at : ℕ) (a b : List A) → at + length a ≤ length old → spliced (spliced old at a) (at + length a) b ≡ spliced old at (a ++ b)
  splice-both old at a b fits =
      let both : at + length a + length b ≡ at + length (a ++ b) = omega (arith, length-append a b) in
      ap₂ (λ x y. x ++ (b ++ y)) (splice-until old at a fits)
      (sym (drop-drop (length b) (at + length a) (spliced old at a))
      ∙ ap (drop (length b)) (splice-after old at a fits)
      ∙ drop-drop (length b) (at + length a) old
      ∙ ap (λ n. drop n old) both)
      ∙ append_assoc (take at old) a _
      ∙ ap (λ x. take at old ++ x) (sym (append_assoc a b _))

  -- a store is a splice of one
  pub store-splice : (old : List A) (at : ℕ) (x : A) → at < length old → set old at x ≡ spliced old at (x ∷ [])
  store-splice old at x h = set_split old at x h ∙ rw add-one

  -- a store after what was replaced is one value more
  pub splice-store : (old : List A) (at : ℕ) (new : List A) (x : A) → at + length new < length old → set (spliced old at new) (at + length new) x ≡ spliced old at (new ++ (x ∷ []))
  splice-store old at new x h =
      let fits : at + length new ≤ length old = omega arith in
      store-splice (spliced old at new) (at + length new) x (omega (arith, splice-length old at new fits))
      ∙ splice-both old at new (x ∷ []) fits

  -- some stores in a row
  pub stores-splice : (old : List A) (at : ℕ) (new : List A) → at + length new ≤ length old → sets old at new ≡ spliced old at new
  stores-splice old at new fits = sets-eq new old at fits ∙ append_assoc (take at old) new _

  -- three stores one after the other
  pub three-written : (old : List A) (at : ℕ) (x y z : A) → at + 3 ≤ length old → set (set (set old at x) (at + 1) y) (at + 2) z ≡ spliced old at (x ∷ y ∷ z ∷ [])
  three-written old at x y z h =
      let one : at + 1 ≡ suc at = omega arith in
      let two : at + 2 ≡ suc (suc at) = omega arith in
      rw (one, two) (stores-splice old at (x ∷ y ∷ z ∷ []) h)

  -- a turn of a loop that copies: one more of the values that are to stand there
  pub splice-more : (old : List A) (at : ℕ) (new : List A) (i : ℕ) (d : A) → at + i < length old → i < length new
      → set (spliced old at (take i new)) (at + i) (get_or new i d) ≡ spliced old at (take (i + 1) new)
  splice-more old at new i d room h =
      let i-long : length (take i new) ≡ i = length-take-le i new (omega arith) in
      ap (λ n. set (spliced old at (take i new)) (at + n) (get_or new i d)) (sym i-long)
      ∙ splice-store old at (take i new) (get_or new i d) (omega (arith, i-long))
      ∙ ap (spliced old at) (sym (take-suc new i d h) ∙ ap (λ n. take n new) (sym (add-one i)))

  -- a store just before what was replaced is one value more in front
  pub store-before : (old : List A) (at : ℕ) (new : List A) (x : A) → at + 1 + length new ≤ length old → set (spliced old (at + 1) new) at x ≡ spliced old at (x ∷ new)
  store-before old at new x fits =
      let now : List A = spliced old (at + 1) new in
      let kept : take at now ≡ take at old =
      sym (take-take at (at + 1) now (omega arith)) ∙ ap (take at) (splice-before old (at + 1) new fits) ∙ take-take at (at + 1) old (omega arith) in
      let past : at + 1 + length new ≡ at + length (x ∷ new) = omega arith in
      let rest : drop (at + 1) now ≡ new ++ drop (at + length (x ∷ new)) old =
      drop_at (take (at + 1) old) _ (at + 1) (length-take-le (at + 1) old (omega arith)) ∙ ap (λ n. new ++ drop n old) past in
      store-splice now at x (omega (arith, splice-length old (at + 1) new fits)) ∙ ap₂ (λ a b. a ++ (x ∷ b)) kept rest
