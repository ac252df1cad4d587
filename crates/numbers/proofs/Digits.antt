-- The number that digits spell: a list in two parts, the digits after a number, one digit of a list, and less than ten to the count of digits.
use Prim.Native.Nat.{ℕ, suc, ◌+◌, ◌-◌, ◌*◌, ◌^◌, ◌≤◌, ◌<◌}
use mathlib.Core.Path.{◌≡◌, sym, ap, ◌∙◌}
use mathlib.Core.Bool.{true}
use mathlib.Core.List.{List, [], ◌∷◌}
use native.Mathlib.Nat.{mul_assoc, add-mul, mul_comm, zero-add, mul-le-mul_right, one-le-pow, pow-suc}
use native.Mathlib.Numerals.{add-one}
use native.Mathlib.Omega.{arith}
use borrow.Author.Tests.{leb-true}
use lib.Dec.{leb}
use lib.ListN.{length, get_or, drop, drop_of_length-le}
use lib.Seq.{drop-cons}
use Rattle.rules.specs.Reading.Lines.{digit, every}
use Rattle.rules.specs.Reading.Numerals.{spell}
use Rattle.rules.proofs.Tests.{and_both}

pub ten-pos : (k : ℕ) → 1 ≤ 10 ^ k
ten-pos k = one-le-pow k 10 (omega arith)

-- ---- from the place that a scan has come to

pub spell-step : (m : ℕ) (s : List ℕ) (i : ℕ) → i < length s → spell m (drop i s) ≡ spell (m * 10 + (get_or s i 0 - 48)) (drop (i + 1) s)
unfolding spell
spell-step m s i h = rw (drop-cons s i 0, add-one)

pub spell-end : (m : ℕ) (s : List ℕ) (i : ℕ) → length s ≤ i → spell m (drop i s) ≡ m
unfolding spell
spell-end m s i h = rw (drop_of_length-le s h)

-- ---- places

pub spell-after : (m : ℕ) (ds : List ℕ) → spell m ds ≡ m * 10 ^ length ds + spell 0 ds
unfolding spell
spell-after m [] = omega arith
spell-after m (d ∷ ds) =
    let t : ℕ = 10 ^ length ds in
    let a = spell-after (m * 10 + (d - 48)) ds in
    let b = spell-after (0 * 10 + (d - 48)) ds in
    let e : (m * 10 + (d - 48)) * t ≡ m * 10 * t + (d - 48) * t = add-mul (m * 10) (d - 48) t in
    let f : (0 * 10 + (d - 48)) * t ≡ (d - 48) * t = ap (λ (x : ℕ). x * t) (zero-add (d - 48)) in
    let g : m * 10 * t ≡ m * 10 ^ suc (length ds) = mul_assoc m 10 t ∙ ap (λ (x : ℕ). m * x) (mul_comm 10 t ∙ sym (pow-suc 10 (length ds))) in
    omega arith

pub spell-less : (ds : List ℕ) → every digit ds ≡ true → spell 0 ds < 10 ^ length ds
unfolding spell every
spell-less [] h = omega arith
spell-less (d ∷ ds) h =
    let t : ℕ = 10 ^ length ds in
    let e = and_both (digit d) (every digit ds) h in
    let k : d - 48 ≤ 9 = omega (arith, leb-true d 57 (and_both (leb 48 d) (leb d 57) e.0).1) in
    let a = spell-after (0 * 10 + (d - 48)) ds in
    let f : (0 * 10 + (d - 48)) * t ≡ (d - 48) * t = ap (λ (x : ℕ). x * t) (zero-add (d - 48)) in
    let g : (d - 48) * t ≤ 9 * t = mul-le-mul_right t k in
    omega (arith, spell-less ds e.1, pow-suc 10 (length ds))
