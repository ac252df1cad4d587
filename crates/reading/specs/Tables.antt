-- What the pass that writes may rely on.
use Rattle.std.specs.Prelude.{ℕ, ◌≡◌, List, Ok}
use Rattle.rules.specs.Reading.Grammar.{Line}
use Rattle.rules.specs.Reading.{read}
use Rattle.rules.specs.declared.Description.{Description}
use Rattle.rules.specs.declared.Item.{Item}

-- a line that keeps the rules by itself, whatever it gives
pub record LineKeeps (l : List ℕ) : Type 0 where
  pub place : ℕ
  pub item : Item
  pub line : Line place l item

-- reading the file into a table of so many places is accepted
pub record Accepts (file : List ℕ) (places : ℕ) : Type 0 where
  pub description : Description
  pub accepted : read file places ≡ Ok description
