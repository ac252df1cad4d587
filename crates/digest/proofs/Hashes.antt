-- A hash, turn by turn and block by block; and that of a message whose end stands elsewhere.
use Rattle.std.proofs.Common.{◌≡◌, ℕ, zero, suc, ◌+◌, ◌-◌, ◌*◌, ◌/◌, ◌%◌, ◌^◌, ◌<◌, List, [], ◌∷◌, ◌++◌, length, get_or, take, drop, sym, refl, ap, ◌∙◌, subst, ap₂, add-zero, add_assoc, add-suc, add-one, arith, length-append, length-drop, get_or-drop, take_all}
use lib.ListN.{get_or-append}
use lib.Seq.{drop-append-le}
use Rattle.digest.specs.declared.Digest.{Digest}
use Rattle.digest.specs.Sha256.{constants, ending, padded, word_at, words_at, block_of, first_hash, schedule, worked, worked_in, added, compressed, hashed, sha256}
use Rattle.digest.specs.Parts.{ended, Alike}
use Rattle.digest.proofs.Paddings.{blocks-fit}

-- ---- a turn in a block, and a block

pub work-turn : (w : List ℕ) (s : Digest) (t : ℕ) {prev r : Digest} {k : ℕ}
    → prev ≡ worked_in t w s → k ≡ get_or constants t 0 → r ≡ worked prev k (get_or w t 0) → r ≡ worked_in (t + 1) w s
unfolding worked_in
work-turn w s t {prev} {r} {k} before constant turn =
    turn ∙ ap₂ (λ x y. worked x y (get_or w t 0)) before constant ∙ ap (λ n. worked_in n w s) (sym (add-one t))

pub hash-turn : (m : List ℕ) (h : Digest) (i : ℕ) {w : List ℕ} {prev x r : Digest}
    → prev ≡ hashed i m h → w ≡ schedule (words_at 16 m (i * 64)) → x ≡ worked_in 64 w prev → r ≡ added x prev → r ≡ hashed (i + 1) m h
unfolding hashed compressed
hash-turn m h i {w} {prev} {x} {r} before scheduled worked sum =
    sum ∙ ap (λ y. added y prev) (worked ∙ ap (λ l. worked_in 64 l prev) scheduled)
    ∙ ap (compressed (block_of m i)) before
    ∙ ap (λ n. hashed n m h) (sym (add-one i))

-- ---- bytes that are alike have one hash

words_same : (a b : List ℕ) (p q count : ℕ) → ((x : ℕ) → x < 4 * count → get_or a (p + x) 0 ≡ get_or b (q + x) 0) → words_at count a p ≡ words_at count b q
unfolding words_at word_at
words_same a b p q zero same = refl
words_same a b p q (suc count) same =
    let byte : (k : ℕ) → k < 4 → get_or a (p + 4 * count + k) 0 ≡ get_or b (q + 4 * count + k) 0 =
    λ k h. ap (λ n. get_or a n 0) (add_assoc p (4 * count) k) ∙ same (4 * count + k) (omega arith) ∙ ap (λ n. get_or b n 0) (sym (add_assoc q (4 * count) k)) in
    let word : word_at a (p + 4 * count) ≡ word_at b (q + 4 * count) =
    rw (same (4 * count) (omega arith), byte 1 (omega arith), byte 2 (omega arith), byte 3 (omega arith)) in
    ap₂ (λ ws y. ws ++ (y ∷ [])) (words_same a b p q count (λ x h. same x (omega arith))) word

hashed-alike : (a b : List ℕ) (n : ℕ) (h : Digest) → Alike (n * 64) a b → hashed n a h ≡ hashed n b h
unfolding hashed
hashed-alike a b zero h same = refl
hashed-alike a b (suc i) h same =
    ap₂ compressed
    (words_same a b (i * 64) (i * 64) 16 (λ x below. same.at (i * 64 + x) (omega arith)))
    (hashed-alike a b i h (record { at = λ x below. same.at x (omega arith) }))

-- ---- after some blocks, the others

hashed-after : (m : List ℕ) (q k : ℕ) (h : Digest) → hashed (q + k) m h ≡ hashed k (drop (q * 64) m) (hashed q m h)
unfolding hashed
hashed-after m q zero h = ap (λ n. hashed n m h) (add-zero q)
hashed-after m q (suc k) h =
    let place : (x : ℕ) → (q + k) * 64 + x ≡ q * 64 + (k * 64 + x) = λ x. omega arith in
    ap (λ n. hashed n m h) (add-suc q k)
    ∙ ap₂ compressed
    (words_same m (drop (q * 64) m) ((q + k) * 64) (k * 64) 16
    (λ x below. ap (λ n. get_or m n 0) (place x) ∙ sym (get_or-drop (q * 64) m (k * 64 + x) 0)))
    (hashed-after m q k h)

-- ---- the whole blocks of a message, and its end

module _ (m : List ℕ) where
  abbrev pub whole : ℕ
  whole = length m / 64

  abbrev pub rest : List ℕ
  rest = drop (whole * 64) m

  abbrev pub bits : ℕ
  bits = length m * 8 % 2 ^ 64

  used : length rest ≡ length m % 64
  used = omega (arith, length-drop (length m / 64 * 64) m)

  -- as code takes it
  abbrev pub taken : List ℕ
  taken = take (length m - whole * 64) (drop (whole * 64) m)

  rest-taken : taken ≡ rest
  rest-taken = take_all (length m - whole * 64) rest (omega (arith, length-drop (whole * 64) m))

  pub rest-short : length taken < 64
  rest-short = omega (arith, ap length rest-taken, used)

  end-of-padded : drop (whole * 64) (padded m) ≡ ended rest bits
  unfolding padded
  end-of-padded =
      drop-append-le (whole * 64) m (ending (length m % 64) bits) (omega arith)
      ∙ ap (λ n. rest ++ ending n bits) (sym used)

  start-alike : Alike (whole * 64) (padded m) m
  unfolding padded
  start-alike = record { at = λ i below. get_or-append m _ 0 i (omega arith) }

  -- so many last blocks
  module _ (k : ℕ) (fills : k * 64 ≡ length m % 64 + length (ending (length m % 64) bits)) where
    blocks : whole + k ≡ length (padded m) / 64
    unfolding padded
    blocks = omega (arith, fills, length-append m (ending (length m % 64) bits))

    pub sha256-parts : (last : List ℕ) → Alike 128 last (ended taken bits) → hashed k last (hashed whole m first_hash) ≡ sha256 m
    unfolding sha256
    sha256-parts last alike =
        let fits = blocks-fit (length m % 64) bits k (omega arith) fills in
        let same : Alike (k * 64) last (ended rest bits) =
        record { at = λ i below. subst (λ r. get_or last i 0 ≡ get_or (ended r bits) i 0) rest-taken (alike.at i (omega arith)) } in
        hashed-alike last (ended rest bits) k (hashed whole m first_hash) same
        ∙ ap₂ (hashed k) (sym end-of-padded) (sym (hashed-alike (padded m) m whole first_hash start-alike))
        ∙ sym (hashed-after (padded m) whole k first_hash)
        ∙ ap (λ n. hashed n (padded m) first_hash) blocks
