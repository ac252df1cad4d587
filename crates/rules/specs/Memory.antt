-- Lent memory, some places of which are replaced while all others are kept.
use Rattle.std.specs.Prelude.{ℕ, ◌+◌, List, ◌++◌, length, take, drop}

-- the places with others from a place on
abbrev pub spliced : {A : Type 0} → List A → ℕ → List A → List A
spliced old at new = take at old ++ (new ++ drop (at + length new) old)
