-- The largest numbers that a description and a table lead to, if they could have been read.
use Rattle.std.specs.Prelude.{ℕ}

-- the largest D: 65,535·10,000
abbrev pub den_limit : ℕ
den_limit = 655_350_000

-- the most that `each` and `low` of an axis can come to by their formulas, whatever the span; that they come to less for what can be read is not needed:
-- 1000·10,000 parts a unit, and ten units of them times 65,535
abbrev pub each_limit : ℕ
each_limit = 10_000_000

abbrev pub low_limit : ℕ
low_limit = 6_553_500_000_000

-- of the two M in lowest terms, p / q for corrected over raw: the largest q, and the largest p times the M of raw codes; both are those of 10 and 16 bits
abbrev pub bottom_limit : ℕ
bottom_limit = 21_845

abbrev pub product_limit : ℕ
product_limit = 22_347_435

-- the largest S: that times the limit of a sample
abbrev pub sum_limit : ℕ
sum_limit = 6_553_500_000_000_000_000
