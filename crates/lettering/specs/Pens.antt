-- A pen has room for a text from its place on; and it has put a text there, so that its place is the one after the text.
use Rattle.std.specs.Prelude.{ℕ, ◌≡◌, List}
use Rattle.lettering.specs.Putting.{Room, Puts}
use Rattle.lettering.specs.declared.Pen.{Pen}

abbrev pub HasRoom : Pen → List ℕ → Type 0
HasRoom pen text = Room pen.bytes.now pen.at text

-- its bytes are the ones that were lent to it
pub record Adds (old : Pen) (text : List ℕ) (new : Pen) : Type 0 where
  pub puts : Puts old.bytes.now old.at text new.at new.bytes.now
  pub same_bytes : new.bytes.ghost_name ≡ old.bytes.ghost_name
