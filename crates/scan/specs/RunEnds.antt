-- A run of bytes of one kind, by the place where it ends.
use Rattle.std.specs.Prelude.{ℕ, ◌+◌, Bool, List, length, drop}
use Rattle.rules.specs.Reading.Lines.{run}

-- where the run from place p on ends
abbrev pub run_end : (ℕ → Bool) → List ℕ → ℕ → ℕ
run_end kind s p = p + length (run kind (drop p s))
