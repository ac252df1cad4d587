-- The checks in their order, each with the answer and the memory that it gives: 24, 27, 13, and the text.
use Prim.Native.Nat.{ℕ, ◌≤◌, ◌<◌}
use mathlib.Core.Path.{◌≡◌, sym, ◌∙◌}
use mathlib.Core.Bool.{true, false}
use mathlib.Core.List.{List}
use borrow.Author.Tests.{le-leb, lt-leb}
use lib.IntN.{ℤ}
use lib.ListN.{length}
use Rattle.rules.specs.Descriptions.{could_be_read}
use Rattle.rules.specs.Writing.{bytes_after, file_text, title_fits, write}
use Rattle.rules.specs.Promises.{Writes}
use Rattle.rules.specs.declared.Description.{Description}
use Rattle.rules.specs.declared.Refusal.{Refusal}
use Rattle.rules.specs.declared.Refusal.TheVariants.{TooLittleRoom, CouldNotBeRead, TitleNotPlain}
use Rattle.rules.proofs.Answers.{is-writes}
use Rattle.rules.proofs.Memory.{splice_front}
use Rattle.lettering.specs.Putting.{Puts}
use Rattle.std.specs.Prelude.{Err, Ok}

module _ (d : Description) (table : List ℤ) (title out : List ℕ) where
  abbrev text : List ℕ
  text = file_text d table title

  -- a refusal leaves the bytes as they were
  refused : (r : Refusal) → write d table title (length out) ≡ Err r → Writes d table title out (Err r) out
  unfolding bytes_after
  refused r e = is-writes (sym e) (rw e)

  pub unreadable : could_be_read d table ≡ false → Writes d table title out (Err CouldNotBeRead) out
  unfolding write
  unreadable e = refused CouldNotBeRead (rw e)

  module _ (readable : could_be_read d table ≡ true) where
    pub unfit : title_fits d.title.there title ≡ false → Writes d table title out (Err TitleNotPlain) out
    unfolding write
    unfit e = refused TitleNotPlain (rw (readable, e))

    module _ (fits : title_fits d.title.there title ≡ true) where
      pub no_room : length out < length text → Writes d table title out (Err TooLittleRoom) out
      unfolding write
      no_room h = refused TooLittleRoom (rw (readable, fits, lt-leb (length text) (length out) h))

      pub written : {r : ℕ} {out' : List ℕ} → length text ≤ length out → Puts out 0 text r out' → Writes d table title out (Ok (length text)) out'
      unfolding write bytes_after
      written h p =
          let e : write d table title (length out) ≡ Ok (length text) = rw (readable, fits, le-leb (length text) (length out) h) in
          is-writes (sym e) (rw e (p.memory ∙ splice_front out text))
