-- Document 01, "Checked by hand": 1e and thirty nines is beyond, with a minus sign finer than the unit. No power of ten is written out:
-- the exponent stays a variable.
use Prim.Native.Nat.{ℕ, ◌+◌, ◌*◌, ◌%◌, ◌^◌, ◌≤◌, ◌<◌}
use Prim.Native.String.{String}
use mathlib.Core.Path.{◌≡◌, refl}
use mathlib.Core.Bool.{Bool, true, false}
use mathlib.Core.List.{[], ◌∷◌}
use native.Mathlib.Nat.{pow-le-pow_right, mod-eq_of_lt, one-mul}
use native.Mathlib.Omega.{arith}
use borrow.Author.Tests.{lt-ltb, le-ltb}
use lib.Dec.{lit≤}
use Rattle.rules.specs.Units.{sample_limit, sample_places}
use Rattle.rules.specs.Reading.Lines.{after, bytes, every, run, starts}
use Rattle.rules.specs.Reading.Numerals.{Numeral, digits, spell}
use Rattle.rules.specs.Reading.Numbers.{exponent_of, numeral_with, number_of, numeral_of, settle, unsigned}
use Rattle.std.specs.Prelude.{Err, Some}
use Rattle.rules.specs.declared.NumberFault.TheVariants.{Beyond, Finer}

huge : (x : ℕ) → 4 ≤ x → settle sample_limit false (1 * 10 ^ (7 + x)) (10 ^ (0 + 0)) ≡ (Err Beyond)
unfolding settle
huge x h =
    let a : 10 ^ 11 ≤ 10 ^ (7 + x) = pow-le-pow_right {n = 10} (omega arith) {i = 11} {j = 7 + x} (omega arith) in
    rw (lt-ltb (sample_limit * 10 ^ (0 + 0)) (1 * 10 ^ (7 + x)) (omega (arith, one-mul (10 ^ (7 + x)))))

tiny : (x : ℕ) → 8 ≤ x → settle sample_limit false (1 * 10 ^ (7 + 0)) (10 ^ (0 + x)) ≡ (Err Finer)
unfolding settle
tiny x h =
    let a : 10 ^ 8 ≤ 10 ^ (0 + x) = pow-le-pow_right {n = 10} (omega arith) {i = 8} {j = 0 + x} (omega arith) in
    let b : 1 * 10 ^ (7 + 0) < 10 ^ (0 + x) = omega arith in
    let c : 1 * 10 ^ (7 + 0) % 10 ^ (0 + x) ≡ 1 * 10 ^ (7 + 0) = mod-eq_of_lt b in
    rw (le-ltb (sample_limit * 10 ^ (0 + x)) (1 * 10 ^ (7 + 0)) (omega arith), c)

abbrev pub nines : String
nines = "999999999999999999999999999999"

many : 8 ≤ spell 0 (bytes nines)
unfolding spell bytes
many = lit≤ tt

one : spell 0 (49 ∷ []) ≡ 1
unfolding spell
one = refl

abbrev spelt : Bool → Numeral
spelt down = record { negative = false; whole = 49 ∷ []; fraction = []; exponent = record { down = down; power = bytes nines } }

up-spelt : numeral_of (49 ∷ 101 ∷ bytes nines) ≡ Some (spelt false)
unfolding bytes every run after starts unsigned digits exponent_of numeral_with numeral_of
up-spelt = refl

down-spelt : numeral_of (49 ∷ 101 ∷ 45 ∷ bytes nines) ≡ Some (spelt true)
unfolding bytes every run after starts unsigned digits exponent_of numeral_with numeral_of
down-spelt = refl

-- 1e and thirty nines; 1e- and thirty nines
pub thirty-nines : (number_of sample_places sample_limit (49 ∷ 101 ∷ bytes nines) ≡ (Err Beyond)) × (number_of sample_places sample_limit (49 ∷ 101 ∷ 45 ∷ bytes nines) ≡ (Err Finer))
unfolding number_of
thirty-nines = (rw (up-spelt, one) (huge (spell 0 (bytes nines)) (omega (arith, many))), rw (down-spelt, one) (tiny (spell 0 (bytes nines)) many))
