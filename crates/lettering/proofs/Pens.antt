-- Texts that a pen puts one after another, which are one text.
use Prim.Native.Nat.{ℕ, ◌≤◌}
use mathlib.Core.Path.{refl, ◌∙◌}
use mathlib.Core.List.{List, [], ◌∷◌, ◌++◌, append_assoc}
use lib.ListN.{length}
use Rattle.lettering.specs.Pens.{HasRoom, Adds}
use Rattle.lettering.specs.declared.Pen.{Pen}
use Rattle.lettering.proofs.Texts.{first-room, next-room, first_field, puts-both, nothing_put}

-- no byte
pub adds-nothing : (p : Pen) → p.at ≤ length p.bytes.now → Adds p [] p
adds-nothing p h = record { puts = nothing_put _ _ h; same_bytes = refl }

module _ {p q : Pen} {a : List ℕ} where
  -- after the first text there is room for the second
  pub room-after : (b : List ℕ) → Adds p a q → HasRoom p (a ++ b) → HasRoom q b
  room-after b s room = next-room s.puts b room

  -- two texts are one
  pub adds-both : {r : Pen} {b : List ℕ} → Adds p a q → Adds q b r → Adds p (a ++ b) r
  adds-both s t = record { puts = puts-both s.puts t.puts; same_bytes = t.same_bytes ∙ s.same_bytes }

-- ---- three texts: the one put last stands first in a law, so that a search goes back from it

module _ {p q : Pen} {a : List ℕ} (b more : List ℕ) where
  -- after the first there is room for the second
  pub room-between : Adds p a q → HasRoom p (a ++ (b ++ more)) → HasRoom q b
  room-between s room = first-room b more (room-after (b ++ more) s room)

  -- and after the second for the third
  pub room-last : {r : Pen} → Adds q b r → Adds p a q → HasRoom p (a ++ (b ++ more)) → HasRoom r more
  room-last t s room = room-after more t (room-after (b ++ more) s room)

-- ---- fields: a text with the byte that ends it, and what follows

module _ {p q : Pen} (f : List ℕ) (end : ℕ) (more : List ℕ) where
  -- and after it for what follows
  pub room-after-field : Adds p (f ++ (end ∷ [])) q → HasRoom p (f ++ (end ∷ more)) → HasRoom q more
  room-after-field s room = room-after more s (rw (append_assoc f (end ∷ []) more) room)

  -- the field and what follows are one text
  pub adds-field : {r : Pen} → Adds p (f ++ (end ∷ [])) q → Adds q more r → Adds p (f ++ (end ∷ more)) r
  adds-field s t = rw (append_assoc f (end ∷ []) more) at (adds-both s t)

module _ {p q : Pen} {a : List ℕ} (f : List ℕ) (end : ℕ) (more : List ℕ) where
  -- after a text there is room for the field
  pub room-next-field : Adds p a q → HasRoom p (a ++ (f ++ (end ∷ more))) → HasRoom q (f ++ (end ∷ []))
  room-next-field s room = first_field f end more (room-after (f ++ (end ∷ more)) s room)

  -- and after the field for what follows
  pub room-last-field : {r : Pen} → Adds q (f ++ (end ∷ [])) r → Adds p a q → HasRoom p (a ++ (f ++ (end ∷ more))) → HasRoom r more
  room-last-field t s room = room-after-field f end more t (room-after (f ++ (end ∷ more)) s room)
