-- A word that looks like an option.
use Rattle.std.specs.Prelude.{ℕ, Bool, false, cond, ◌&&◌, List, eqb, ltb, length, get_or}

-- two hyphens first
unfoldable pub begins_as_option : List ℕ → Bool
begins_as_option word = cond (ltb (length word) 2) false (eqb (get_or word 0 0) 45 && eqb (get_or word 1 0) 45)
