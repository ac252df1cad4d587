-- An integer by its two halves, z = up z − dn z, one of which is 0.
use Rattle.std.specs.Prelude.{ℕ, suc, ℤ, pos, negsuc}

-- how far it is above 0
abbrev pub up : ℤ → ℕ
up (pos n) = n
up (negsuc n) = 0

-- how far it is below 0
abbrev pub dn : ℤ → ℕ
dn (pos n) = 0
dn (negsuc n) = suc n
