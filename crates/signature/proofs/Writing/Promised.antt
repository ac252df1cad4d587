-- What the promise of write decides of the lent bytes: a refusal leaves all of them, an accepted write has the text first and leaves those after it.
use Prim.Native.Nat.{ℕ}
use mathlib.Core.Path.{◌≡◌, refl, sym, ap, ap₂, ◌∙◌}
use mathlib.Core.List.{List, ◌++◌}
use native.Mathlib.Omega.{arith}
use lib.IntN.{ℤ}
use lib.ListN.{length, take, drop, length-append, length-drop}
use lib.Seq.{drop_at, take_at}
use Rattle.rules.specs.Writing.{bytes_after, file_text}
use Rattle.rules.specs.Answers.{write_number, written_length}
use Rattle.rules.specs.Promises.{Writes}
use Rattle.rules.specs.declared.Description.{Description}
use Rattle.rules.proofs.Answers.{writes-is}
use Rattle.signature.proofs.Writing.Numbers.{Wrote, exactly-0, write-0}
use Rattle.std.specs.Prelude.{Err, Ok}
use Rattle.rules.specs.Results.{Write}

module _ {d : Description} {table : List ℤ} {title out : List ℕ} {r : Write} {out' : List ℕ} (writes : Writes d table title out r out') where
  memory-by : out' ≡ bytes_after d table title out r
  memory-by = writes.memory ∙ ap (bytes_after d table title out) (sym (writes-is writes).0)

  -- a refusal gives length 0 and leaves the bytes as they were
  pub write-refused : (write_number r ≡ 0 → ⊥) → (written_length r ≡ 0) × (out' ≡ out)
  unfolding bytes_after
  write-refused not-0 = by r refl
    where
      by : (s : Write) → r ≡ s → (written_length r ≡ 0) × (out' ≡ out)
      by (Ok n) e = absurd (not-0 (ap write_number e))
      by (Err reason) e = (ap written_length e, memory-by ∙ ap (bytes_after d table title out) e)

  module _ (accepts : write_number r ≡ 0) where
    -- an answer of 0 says that all checks passed
    pub all-passed : Wrote d table title (length out)
    all-passed = (exactly-0 d table title (length out)).0 (sym writes.number ∙ accepts)

    -- it comes with the text's length
    pub length-written : r ≡ Ok (length (file_text d table title))
    length-written = (writes-is writes).0 ∙ write-0 d table title (length out) all-passed.readable all-passed.fits all-passed.room

    -- the text, and what stood after so many bytes
    bytes-written : out' ≡ file_text d table title ++ drop (length (file_text d table title)) out
    unfolding bytes_after
    bytes-written = memory-by ∙ ap (bytes_after d table title out) length-written

    -- the first bytes are the text
    pub text-written : take (written_length r) out' ≡ file_text d table title
    text-written = ap₂ take (ap written_length length-written) bytes-written ∙ take_at (file_text d table title) _ _ refl

    -- every later byte is as it was
    pub later-kept : drop (written_length r) out' ≡ drop (written_length r) out
    later-kept =
        ap₂ drop (ap written_length length-written) bytes-written ∙ drop_at (file_text d table title) _ _ refl ∙ ap (λ n. drop n out) (sym (ap written_length length-written))

    -- and they are as many as before
    pub as_long : length out' ≡ length out
    as_long =
        let text = file_text d table title in
        ap length bytes-written ∙ omega (arith, length-append text (drop (length text) out), length-drop (length text) out, all-passed.room)
