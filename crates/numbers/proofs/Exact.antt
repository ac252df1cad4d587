-- The digits before the unit's point are the quotient of the exact value, those behind it the rest, and both may be kept at limit + 1.
use Prim.Native.Nat.{ℕ, zero, suc, ◌+◌, ◌-◌, ◌*◌, ◌/◌, ◌%◌, ◌^◌, ◌≤◌, ◌<◌, min}
use mathlib.Core.Path.{◌≡◌, sym, ap, ◌∙◌}
use mathlib.Core.Bool.{Bool, true, false, cond}
use mathlib.Core.List.{List, [], ◌∷◌, ◌++◌}
use native.Mathlib.Nat.{add-mul, add-zero, div-eq_of_lt, mod-eq_of_lt, mul-add-div_right, mul-add-mod_self_right, mul_assoc, mul-le-mul_right, mul-lt-mul_of_pos_right, mul-one, mul-pos, one-mul, pow-le-pow_right, zero-mul}
use native.Mathlib.Decide.{dec_le}
use native.Mathlib.Omega.{arith}
use borrow.Author.Tests.{lt-ltb, le-ltb, eq-eqb, ne_eqb}
use lib.ListN.{length, take, drop, length-append, length-drop, take-append-drop, drop_of_length-le}
use lib.Pow.{pow-add}
use lib.Seq.{take_all}
use Rattle.rules.specs.Reading.Lines.{digit, every}
use Rattle.rules.specs.Reading.Numerals.{over, spell, under}
use Rattle.rules.specs.Reading.Numbers.{settle}
use Rattle.rules.proofs.Tests.{and_both}
use Rattle.numbers.specs.Cuts.{Served, answer, cut_of, exponent_cap, kept, most_limit}
use Rattle.numbers.specs.Parts.{numeral}
use Rattle.numbers.proofs.Digits.{spell-after, spell-less, ten-pos}
use Rattle.rules.proofs.Reading.Numbers.{spell-append}
use Rattle.numbers.proofs.Joined.{Cut, cut}
use Rattle.numbers.proofs.Kept.{kept-zeros}
use Rattle.rules.proofs.Reading.Runs.{every_append}
use Rattle.rules.specs.Results.{Number}

-- ---- a quotient and a rest

module _ (limit : ℕ) (negative : Bool) where
  -- p / q is n and a rest
  settled : (p q n r : ℕ) → p ≡ n * q + r → r < q → settle limit negative p q ≡ answer limit negative n r
  unfolding settle answer
  settled p q n r e h = by (dec_le n limit) (dec_le limit n) (dec_le r 0)
    where
      quotient : p / q ≡ n
      quotient = ap (λ x. x / q) e ∙ mul-add-div_right (omega arith) n r ∙ ap (λ x. n + x) (div-eq_of_lt h) ∙ add-zero n

      rest : p % q ≡ r
      rest = ap (λ x. x % q) e ∙ mul-add-mod_self_right n q r ∙ mod-eq_of_lt h

      times : (a b : ℕ) → a ≤ b → a * q ≤ b * q
      times a b l = mul-le-mul_right q l

      by : Dec (n ≤ limit) → Dec (limit ≤ n) → Dec (r ≤ 0) → settle limit negative p q ≡ answer limit negative n r
      by (no l) m z = rw (lt-ltb (limit * q) p (omega (arith, times (limit + 1) n (omega arith), add-mul limit 1 q, one-mul q)), lt-ltb limit n (omega arith))
      by (yes l) m (yes z) = rw (le-ltb (limit * q) p (omega (arith, times n limit l)), le-ltb limit n l, rest, quotient, eq-eqb r 0 (omega arith))
      by (yes l) (yes m) (no z) =
          rw (lt-ltb (limit * q) p (omega (arith, times limit n m)), le-ltb limit n l, ne_eqb r 0 (omega arith), eq-eqb n limit (omega arith))
      by (yes l) (no m) (no z) =
          rw (le-ltb (limit * q) p (omega (arith, times (n + 1) limit (omega arith), add-mul n 1 q, one-mul q)), le-ltb limit n l, rest, ne_eqb r 0 (omega arith), ne_eqb n limit (omega arith))

  -- both may be kept, and of a multiple of the rest only matters whether there is one
  answer-kept : (n r k : ℕ) → 1 ≤ k → answer limit negative n (r * k) ≡ answer limit negative (kept limit n) (kept limit r)
  unfolding answer
  answer-kept n r k h = by (dec_le n limit) (dec_le r 0)
    where
      by : Dec (n ≤ limit) → Dec (r ≤ 0) → answer limit negative n (r * k) ≡ answer limit negative (kept limit n) (kept limit r)
      by (no l) z = rw (lt-ltb limit n (omega arith), lt-ltb limit (kept limit n) (omega arith))
      by (yes l) (yes z) =
          let e : kept limit n ≡ n = omega arith in
          let y : r ≡ 0 = omega arith in
          rw (e, eq-eqb (r * k) 0 (ap (λ x. x * k) y ∙ zero-mul k), eq-eqb (kept limit r) 0 (omega arith))
      by (yes l) (no z) =
          let e : kept limit n ≡ n = omega arith in
          let y : 1 ≤ r * k = mul-pos (omega arith) h in
          rw (e, ne_eqb (r * k) 0 (omega arith), ne_eqb (kept limit r) 0 (omega arith))

-- ---- the value by a cut of all digits

every_drop : (n : ℕ) (l : List ℕ) → every digit l ≡ true → every digit (drop n l) ≡ true
unfolding every
every_drop zero l h = h
every_drop (suc n) [] h = h
every_drop (suc n) (d ∷ l) h = every_drop n l (and_both (digit d) (every digit l) h).1

module _ (limit : ℕ) (negative : Bool) (ds : List ℕ) where
  -- what the digits before a cut and behind it say
  abbrev by_cut : ℕ → Number
  by_cut c = answer limit negative (kept limit (spell 0 (take c ds) * 10 ^ (c - length ds))) (kept limit (spell 0 (drop c ds)))

  cut-spell : (c : ℕ) → spell 0 ds ≡ spell 0 (take c ds) * 10 ^ (length ds - c) + spell 0 (drop c ds)
  cut-spell c =
      ap (spell 0) (sym (take-append-drop c ds)) ∙ spell-append 0 (take c ds) (drop c ds) ∙ spell-after (spell 0 (take c ds)) (drop c ds)
      ∙ ap (λ n. spell 0 (take c ds) * 10 ^ n + spell 0 (drop c ds)) (length-drop c ds)

  -- past the digits: zeros more, and no rest
  past : (j i c : ℕ) → length ds ≤ c → j ≡ c - length ds + i → settle limit negative (spell 0 ds * 10 ^ j) (10 ^ i) ≡ by_cut c
  unfolding spell
  past j i c h e =
      let n : ℕ = spell 0 ds * 10 ^ (c - length ds) in
      rw (e, pow-add 10 (c - length ds) i, take_all c ds h, drop_of_length-le ds h)
      (settled limit negative _ (10 ^ i) n 0 (sym (mul_assoc (spell 0 ds) _ _) ∙ sym (add-zero _)) (ten-pos i) ∙ answer-kept limit negative n 0 1 (omega arith))

  module _ (all : every digit ds ≡ true) where
    rest-less : (c j i : ℕ) → length ds - c + j ≤ i → spell 0 (drop c ds) * 10 ^ j < 10 ^ i
    rest-less c j i h =
        let r : spell 0 (drop c ds) < 10 ^ (length ds - c) = rw (← length-drop c ds) (spell-less (drop c ds) (every_drop c ds all)) in
        let p : 10 ^ (length ds - c + j) ≤ 10 ^ i = pow-le-pow_right (omega arith) h in
        omega (arith, mul-lt-mul_of_pos_right r (ten-pos j), pow-add 10 (length ds - c) j)

    -- where the digits before the cut and behind it make up the value, both times ten to the j
    made_up : (j i c : ℕ) → length ds - c + j ≤ i → c ≤ length ds → spell 0 ds * 10 ^ j ≡ spell 0 (take c ds) * 10 ^ i + spell 0 (drop c ds) * 10 ^ j
        → settle limit negative (spell 0 ds * 10 ^ j) (10 ^ i) ≡ by_cut c
    made_up j i c h k e =
        let z : c - length ds ≡ 0 = omega arith in
        rw (z, mul-one)
        (settled limit negative _ (10 ^ i) (spell 0 (take c ds)) (spell 0 (drop c ds) * 10 ^ j) e (rest-less c j i h)
        ∙ answer-kept limit negative (spell 0 (take c ds)) (spell 0 (drop c ds)) (10 ^ j) (ten-pos j))

    exact-cut : (j i c : ℕ) → c ≡ length ds + j - i → settle limit negative (spell 0 ds * 10 ^ j) (10 ^ i) ≡ by_cut c
    unfolding spell
    exact-cut j i c e = by (dec_le i j) (dec_le i (length ds + j))
      where
        by : Dec (i ≤ j) → Dec (i ≤ length ds + j) → settle limit negative (spell 0 ds * 10 ^ j) (10 ^ i) ≡ by_cut c
        by (yes a) b = past j i c (omega arith) (omega arith)
        by (no a) (yes b) =
            let q : ℕ = spell 0 (take c ds) in
            let x : length ds - c + j ≡ i = omega arith in
            made_up j i c (omega arith) (omega arith)
            (ap (λ m. m * 10 ^ j) (cut-spell c) ∙ add-mul (q * 10 ^ (length ds - c)) (spell 0 (drop c ds)) (10 ^ j)
            ∙ ap (λ m. m + spell 0 (drop c ds) * 10 ^ j) (mul_assoc q _ _ ∙ ap (λ m. q * m) (sym (pow-add 10 (length ds - c) j) ∙ ap (λ k. 10 ^ k) x)))
        by (no a) (no b) =
            let z : c ≡ 0 = omega arith in
            rw z (made_up j i 0 (omega arith) (omega arith) (omega (arith, zero-mul (10 ^ i))))

-- ---- past the cap a greater exponent changes nothing

-- a number that is not 0 is past every limit with eighteen zeros after it
kept-far : (limit m a b : ℕ) → limit ≤ most_limit → 18 ≤ a → 18 ≤ b → kept limit (m * 10 ^ a) ≡ kept limit (m * 10 ^ b)
kept-far limit zero a b l h k = rw (zero-mul (10 ^ a), zero-mul (10 ^ b))
kept-far limit (suc m) a b l h k = omega (arith, large a h, large b k)
  where
    large : (c : ℕ) → 18 ≤ c → limit < suc m * 10 ^ c
    large c h =
        let x : 1 * 10 ^ c ≤ suc m * 10 ^ c = mul-le-mul_right (10 ^ c) (omega arith) in
        let y : 10 ^ 18 ≤ 10 ^ c = pow-le-pow_right (omega arith) h in
        omega (arith, one-mul (10 ^ c))

far : (limit : ℕ) (negative : Bool) (ds : List ℕ) (b c : ℕ) → limit ≤ most_limit → length ds + 18 ≤ b → length ds + 18 ≤ c → by_cut limit negative ds b ≡ by_cut limit negative ds c
far limit negative ds b c l h k =
    let hb : length ds ≤ b = omega arith in
    let hc : length ds ≤ c = omega arith in
    rw (take_all b ds hb, take_all c ds hc, drop_of_length-le ds hb, drop_of_length-le ds hc, kept-far limit (spell 0 ds) (b - length ds) (c - length ds) l (omega arith) (omega arith))

module _ (places limit : ℕ) (negative : Bool) (w f power : List ℕ) (served : Served w f places limit) where
  all : every digit (w ++ f) ≡ true
  all = every_append digit w f served.whole_digits served.fraction_digits

  capped : (down : Bool) (x : ℕ)
      → settle limit negative (spell 0 (w ++ f) * 10 ^ (places + cond down 0 x)) (10 ^ (length f + cond down x 0)) ≡ by_cut limit negative (w ++ f) (cut_of (length w) places down (kept exponent_cap x))
  capped true x = exact-cut limit negative (w ++ f) all (places + 0) (length f + x) (length w + places - kept exponent_cap x) (omega (arith, length-append w f))
  capped false x = by (dec_le x (exponent_cap + 1))
    where
      exactly : settle limit negative (spell 0 (w ++ f) * 10 ^ (places + x)) (10 ^ (length f + 0)) ≡ by_cut limit negative (w ++ f) (length w + places + x)
      exactly = exact-cut limit negative (w ++ f) all (places + x) (length f + 0) (length w + places + x) (omega (arith, length-append w f))

      by : Dec (x ≤ exponent_cap + 1) → settle limit negative (spell 0 (w ++ f) * 10 ^ (places + x)) (10 ^ (length f + 0)) ≡ by_cut limit negative (w ++ f) (length w + places + kept exponent_cap x)
      by (yes h) = let e : kept exponent_cap x ≡ x = omega arith in rw e exactly
      by (no h) =
          let e : kept exponent_cap x ≡ exponent_cap + 1 = omega arith in
          rw e (exactly ∙ far limit negative (w ++ f) (length w + places + x) (length w + places + (exponent_cap + 1)) served.low-limit (omega (arith, length-append w f)) (omega (arith, length-append w f)))

  -- ---- what the code computes

  pub exact : (down : Bool) (c a b : ℕ) → c ≡ cut_of (length w) places down (kept exponent_cap (spell 0 power)) → a ≡ min c (length w) → b ≡ min (c - a) (length f)
      → answer limit negative (kept limit (kept limit (spell 0 (take a w ++ take b f)) * 10 ^ (c - a - b))) (kept limit (spell 0 (drop a w ++ drop b f)))
      ≡ settle limit negative (over places (numeral negative w f down power)) (under (numeral negative w f down power))
  exact down c a b e x y =
      let k : Cut w f c a b = cut w f c a b x y in
      rw (kept-zeros limit (spell 0 (take a w ++ take b f)) (c - a - b), k.front, k.back, k.zeros, e) (sym (capped down (spell 0 power)))
