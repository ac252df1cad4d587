-- Bytes with a text put into them: every byte before and after it stays.
use Rattle.std.specs.Prelude.{ℕ, ◌+◌, ◌≤◌, ◌≡◌, List, length}
use Rattle.rules.specs.Memory.{spliced}

-- there is room for the text from place `at` on
pub record Room (out : List ℕ) (at : ℕ) (text : List ℕ) : Type 0 where
  pub fits : at + length text ≤ length out

-- the text, which has room, stands in out' from place `at` on, all else is as in out, and r is the place after the text
pub record Puts (out : List ℕ) (at : ℕ) (text : List ℕ) (r : ℕ) (out' : List ℕ) : Type 0 where
  pub fits : at + length text ≤ length out
  pub after : r ≡ at + length text
  pub memory : out' ≡ spliced out at text
