-- A schedule filled word by word: the words so far are the definition's.
use Rattle.std.proofs.Common.{◌≡◌, ℕ, suc, ◌+◌, ◌-◌, ◌*◌, ◌<◌, ◌≤◌, List, [], ◌∷◌, ◌++◌, length, get_or, take, set, sym, ap, ◌∙◌, ap₂, add-one, arith, length-set, take_all, get_or-take, take-suc-set}
use Rattle.digest.specs.Sha256.{word_at, words_at, scheduled, with_next, extended, schedule}

-- one more
one_more : (w : List ℕ) (t x : ℕ) → t < length w → take (t + 1) (set w t x) ≡ take t w ++ (x ∷ [])
one_more w t x h = rw add-one (take-suc-set w t x h)

-- ---- a block's own words

pub record Reading (m : List ℕ) (at : ℕ) (w : List ℕ) (t : ℕ) : Type 0 where
  pub some : t ≤ 16
  pub size : length w ≡ 64
  pub words : take t w ≡ words_at t m at

pub reading-turn : {m : List ℕ} {at : ℕ} {w : List ℕ} {t x : ℕ}
    → t < 16 → Reading m at w t → x ≡ word_at m (at + 4 * t) → Reading m at (set w t x) (t + 1)
unfolding words_at
reading-turn {m} {at} {w} {t} {x} h r e = record {
  some = omega arith;
  size = length-set w t x ∙ r.size;
  words =
      one_more w t x (omega (arith, r.size))
      ∙ ap₂ (λ ws y. ws ++ (y ∷ [])) r.words e
      ∙ ap (λ n. words_at n m at) (sym (add-one t));
}

-- ---- the words after them

pub record Extending (block : List ℕ) (w : List ℕ) (t : ℕ) : Type 0 where
  pub from : 16 ≤ t
  pub until : t ≤ 64
  pub size : length w ≡ 64
  pub words : take t w ≡ extended (t - 16) block

pub extending-turn : {block w : List ℕ} {t x : ℕ} → t < 64 → Extending block w t
    → x ≡ scheduled (get_or w (t - 2) 0) (get_or w (t - 7) 0) (get_or w (t - 15) 0) (get_or w (t - 16) 0) → Extending block (set w t x) (t + 1)
unfolding with_next extended
extending-turn {block} {w} {t} {x} h r e =
    let before : (k : ℕ) → 0 < k → get_or w (t - k) 0 ≡ get_or (take t w) (t - k) 0 = λ k some. sym (get_or-take t w (t - k) 0 (omega (arith, r.from))) in
    let next : t ≡ 16 + (t - 16) = omega (arith, r.from) in
    let count : t + 1 - 16 ≡ suc (t - 16) = omega (arith, r.from) in
    let same : x ≡ scheduled (get_or (take t w) (t - 2) 0) (get_or (take t w) (t - 7) 0) (get_or (take t w) (t - 15) 0) (get_or (take t w) (t - 16) 0) =
    e ∙ rw (before 2 (omega arith), before 7 (omega arith), before 15 (omega arith), before 16 (omega arith)) in
    record {
      from = omega (arith, r.from);
      until = omega arith;
      size = length-set w t x ∙ r.size;
      words =
          one_more w t x (omega (arith, r.size))
          ∙ ap (λ y. take t w ++ (y ∷ [])) same
          ∙ ap₂ with_next next r.words
          ∙ ap (λ n. extended n block) (sym count);
    }

pub extending-end : {block w : List ℕ} {t : ℕ} → 64 ≤ t → Extending block w t → w ≡ schedule block
extending-end {block} {w} {t} h r =
    let end : t ≡ 64 = omega (arith, r.until) in
    sym (take_all 64 w (omega (arith, r.size))) ∙ ap (λ n. take n w) (sym end) ∙ r.words ∙ ap (λ n. extended (n - 16) block) end
