-- What the promises decide, in the properties' words: an accepted file keeps the specification, a refused one leaves the table as it was;
-- every code of an accepted picture is right, a refused one leaves the output as it was.
use Prim.Native.Nat.{ℕ, ◌*◌}
use mathlib.Core.Path.{◌≡◌, sym, ap, ◌∙◌}
use mathlib.Core.Logic.{◌↔◌}
use mathlib.Core.List.{List, ◌++◌}
use native.Mathlib.Omega.{arith}
use lib.ListN.{length, drop, length-append, length-drop}
use lib.IntN.{ℤ}
use Rattle.rules.specs.Descriptions.{rows}
use Rattle.rules.specs.Reading.Lines.{lines_of}
use Rattle.rules.specs.Reading.{samples_of, table_after}
use Rattle.rules.specs.Demands.{Kept}
use Rattle.rules.specs.Promises.{Reads}
use Rattle.rules.specs.declared.Description.{Description}
use Rattle.rules.proofs.Reading.Acceptance.{accepted-keeps, keeps-accepted, keeps-length}
use Rattle.rules.proofs.Reading.Bridge.{after-answer, refused-unchanged}
use Rattle.rules.proofs.Answers.{reads-is, is-reads}
use Rattle.std.specs.Prelude.{Err, Ok}
use Rattle.rules.specs.Results.{Read}

module _ {file : List ℕ} {table : List ℤ} {d : Description} {t : List ℤ} where
  -- a reader accepts exactly the files that keep the specification, with their description and samples
  pub reads-accepted : Reads file table (Ok d) t ↔ Kept file table d t
  unfolding table_after
  reads-accepted = (
    λ h. record { samples = samples_of (lines_of file); keeps = accepted-keeps file (length table) d (sym (reads-is h).0); memory = after-answer h },
    λ k. let a = keeps-accepted file (length table) d k.samples k.keeps in
        is-reads (sym a.0) (k.memory ∙ ap (λ s. s ++ drop (3 * rows d) table) (sym a.1) ∙ ap (table_after file table) (sym a.0)),
  )

-- the table keeps its length
pub reads-length : {file : List ℕ} {table : List ℤ} (r : Read) {t : List ℤ} → Reads file table r t → length t ≡ length table
reads-length (Err x) h = ap length (refused-unchanged h)
reads-length {file} {table} (Ok d) h =
    let k = reads-accepted.0 h in
    ap length k.memory ∙ length-append k.samples (drop (3 * rows d) table)
    ∙ omega (arith, length-drop (3 * rows d) table, keeps-length file (length table) d k.samples k.keeps, k.keeps.room)
