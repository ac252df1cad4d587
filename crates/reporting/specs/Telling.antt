-- What reading has shown of a description, as far as its text needs it.
use Rattle.std.specs.Prelude.{ℕ, ◌+◌, ◌≤◌, ◌≡◌, true, List, length}
use Rattle.rules.specs.Units.{in_range}
use Rattle.rules.specs.declared.Description.{Description}
use Rattle.rules.specs.declared.Title.{Title}

-- a title that is there lies within the input
pub record TitleInside (input : List ℕ) (t : Title) : Type 0 where
  pub within : t.there ≡ true → t.place + t.length ≤ length input

pub record Tellable (input : List ℕ) (d : Description) : Type 0 where
  pub range : in_range d.kind d.n ≡ true
  pub title : TitleInside input d.title
