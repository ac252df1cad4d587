-- What the answers say in the rules' terms.
use Rattle.std.specs.Prelude.{ℕ, ◌≤◌, ◌≡◌, List, [], ◌∷◌, length, drop, Option, None, Some}
use Rattle.rules.specs.Reading.Lines.{words_of}
use Rattle.rules.specs.Reading.Numbers.{number_of}
use Rattle.rules.specs.Results.{Number}

-- the first word from a place on is a number, and the other words are those from its end on
pub record NumberFrom (places limit : ℕ) (l : List ℕ) (from : ℕ) (number : Number) (end : ℕ) : Type 0 where
  pub word : List ℕ
  pub words : words_of (drop from l) ≡ word ∷ words_of (drop end l)
  pub says : number ≡ number_of places limit word
  pub inside : end ≤ length l

-- such a number, or no word is left
abbrev pub NextFrom : ℕ → ℕ → List ℕ → ℕ → Option (Number × ℕ) → Type 0
NextFrom places limit l from None = words_of (drop from l) ≡ []
NextFrom places limit l from (Some found) = NumberFrom places limit l from found.0 found.1
