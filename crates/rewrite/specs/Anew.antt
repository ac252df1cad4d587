-- A table written anew: what is left in the lent bytes, and what has been shown before they are printed.
use Rattle.std.specs.Prelude.{ℕ, ◌+◌, ◌≤◌, Bool, List, ℤ, length, Err, Ok}
use Rattle.rules.specs.Promises.{Writes}
use Rattle.rules.specs.declared.Description.{Description}
use Rattle.rules.specs.Results.{Write}

-- the text is what writing leaves, whatever it answers
pub record Rewrites (d : Description) (table : List ℤ) (title text text' : List ℕ) : Type 0 where
  pub answer : Write
  pub writes : Writes d table title text answer text'

-- a description with the mark of a title, or without it
abbrev pub marked : Description → Bool → Description
marked d there = record {
  kind = d.kind;
  n = d.n;
  red = d.red;
  green = d.green;
  blue = d.blue;
  title = record { there = there; place = 0; length = 0 };
}

-- the title's bytes lie within the file
pub record TitleWithin (d : Description) (file : List ℕ) : Type 0 where
  pub within : d.title.place + d.title.length ≤ length file

-- the text is no longer than the bytes that it stands in
abbrev pub Printable : Write → List ℕ → Type 0
Printable (Ok n) text = n ≤ length text
Printable (Err r) text = Unit {0}
