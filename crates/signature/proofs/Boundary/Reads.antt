-- The demands, of `erythmoda_read` itself: what its number says of the memory that it was lent.
use Prim.Native.Nat.{ℕ}
use mathlib.Core.Path.{◌≡◌, refl, sym, ap, ◌∙◌}
use mathlib.Core.Bool.{true, false}
use mathlib.Core.Logic.{◌↔◌}
use mathlib.Core.List.{List, ◌∷◌}
use lib.IntN.{ℤ, pos}
use lib.ListN.{length, replicate}
use Rattle.rules.specs.Descriptions.{could_be_read}
use Rattle.rules.specs.Reading.Grammar.{Keeps}
use Rattle.rules.specs.Reading.{read}
use Rattle.rules.specs.Answers.{refusal_number, read_number, read_line, read_description}
use Rattle.rules.specs.Promises.{Reads}
use Rattle.rules.specs.Boundary.{eleven_of, described_in, ReadsC}
use Rattle.rules.specs.Demands.{Kept}
use Rattle.rules.specs.declared.Description.{Description}
use Rattle.rules.specs.declared.Refusal.{Refusal}
use Rattle.rules.proofs.Reading.Acceptance.{keeps-accepted}
use Rattle.rules.proofs.Answers.{refused-not-0, reads-is, is-reads}
use Rattle.rules.proofs.Reading.Bridge.{refused-unchanged, reads-bridge}
use Rattle.signature.proofs.Reading.Promised.{reads-accepted}
use Rattle.signature.proofs.Reading.HalfDomains.{numbers-half}
use Rattle.signature.proofs.Reading.MixedDomains.{numbers-differ}
use Rattle.signature.proofs.Reading.Order.{numbers-order}
use Rattle.signature.proofs.Boundary.Crossing.{crosses}
use Rattle.signature.specs.HalfDomains.{HalfAt}
use Rattle.signature.specs.MixedDomains.{DifferAt}
use Rattle.signature.specs.Order.{FailsFirst}
use Rattle.std.specs.Prelude.{Err, Ok, Some}
use Rattle.rules.specs.Results.{Read}

-- a reading with its answer laid out as numbers
pub record ReadLaid (file : List ℕ) (table : List ℤ) (number : ℕ) (table' eleven' : List ℤ) (line' : ℕ) : Type 0 where
  pub answer : Read
  pub reads : Reads file table answer table'
  pub number_so : number ≡ read_number answer
  pub eleven-so : eleven' ≡ eleven_of (read_description answer)
  pub line_so : line' ≡ read_line answer

-- what acceptance says: the file keeps the specification, with this description and the samples now in the table
pub record ReadAccepted (file : List ℕ) (table table' eleven' : List ℤ) (line' : ℕ) : Type 0 where
  pub d : Description
  pub kept : Kept file table d table'
  pub eleven-so : eleven' ≡ eleven_of d
  pub line_so : line' ≡ 0

module _ {file : List ℕ} {table table' eleven' : List ℤ} {number line' : ℕ} where
  pub read-laid : ReadsC file table number table' eleven' line' ↔ ReadLaid file table number table' eleven' line'
  read-laid = (
    λ h. record {
      answer = read file (length table);
      reads = is-reads refl h.memory;
      number_so = h.number_so;
      eleven-so = h.description_so;
      line_so = h.line_so;
    },
    λ l. let e = (reads-is l.reads).0 in
        record {
          number_so = l.number_so ∙ ap read_number e;
          line_so = l.line_so ∙ ap read_line e;
          description_so = l.eleven-so ∙ ap (λ a. eleven_of (read_description a)) e;
          memory = l.reads.memory;
        },
  )

module _ {file : List ℕ} {table table' eleven' : List ℤ} {number line' : ℕ} (h : ReadsC file table number table' eleven' line') where
  laid : ReadLaid file table number table' eleven' line'
  laid = read-laid.0 h

  -- a refusal leaves the table as it was, and writes the empty description: 1, and ten zeros
  pub read-refused : (number ≡ 0 → ⊥) → (table' ≡ table) × (eleven' ≡ pos 1 ∷ replicate 10 (pos 0))
  read-refused not-0 = by laid.answer laid.reads laid.number_so laid.eleven-so
    where
      by : (r : Read) → Reads file table r table' → number ≡ read_number r → eleven' ≡ eleven_of (read_description r) → (table' ≡ table) × (eleven' ≡ pos 1 ∷ replicate 10 (pos 0))
      by (Ok d) reads e v = absurd (not-0 e)
      by (Err x) reads e v = (refused-unchanged reads, v)

  pub read-accepted : number ≡ 0 → ReadAccepted file table table' eleven' line'
  read-accepted z = by laid.answer laid.reads laid.number_so laid.eleven-so laid.line_so
    where
      by : (r : Read) → Reads file table r table' → number ≡ read_number r → eleven' ≡ eleven_of (read_description r) → line' ≡ read_line r
          → ReadAccepted file table table' eleven' line'
      by (Ok d) reads e v n = record { d = d; kept = reads-accepted.0 reads; eleven-so = v; line_so = n }
      by (Err x) reads e v m = absurd (refused-not-0 x.reason (sym e ∙ z))

  -- every file that keeps the specification is accepted
  pub read_keeps : (d : Description) (samples : List ℤ) → Keeps file (length table) d samples → number ≡ 0
  read_keeps d samples k = h.number_so ∙ ap read_number (keeps-accepted file (length table) d samples k).0

-- the number and the line of a refusal are those of the first check that fails, on the first line that does not pass
pub reads-c-order : {file : List ℕ} {table table' eleven' : List ℤ} {number line' : ℕ} → ReadsC file table number table' eleven' line' → (r : Refusal) (n : ℕ)
    → ((number ≡ refusal_number r) × (line' ≡ n)) ↔ FailsFirst file (length table) r n
reads-c-order {file} {table} h r n = numbers-order file (length table) r n h.number_so h.line_so

-- 19 exactly where the head is checked with a size and one line of the domain alone
pub reads-c-half : {file : List ℕ} {table table' eleven' : List ℤ} {number line' : ℕ} → ReadsC file table number table' eleven' line' → (n : ℕ)
    → ((number ≡ 19) × (line' ≡ n)) ↔ HalfAt file (length table) n
reads-c-half {file} {table} h n = numbers-half (length table) file n h.number_so h.line_so

-- 12 exactly where it is checked with domains that differ, in 3D, and a bound that is not whole
pub reads-c-differ : {file : List ℕ} {table table' eleven' : List ℤ} {number line' : ℕ} → ReadsC file table number table' eleven' line' → (n : ℕ)
    → ((number ≡ 12) × (line' ≡ n)) ↔ DifferAt false file (length table) n
reads-c-differ {file} {table} h n = numbers-differ (length table) file n h.number_so h.line_so

-- what acceptance wrote gives the description back, and is not 24
pub read-bridge : {file : List ℕ} {table table' eleven' : List ℤ} {line' : ℕ} (a : ReadAccepted file table table' eleven' line')
    → (described_in eleven' ≡ Some a.d) × (could_be_read a.d table' ≡ true)
read-bridge a = (ap described_in a.eleven-so ∙ crosses a.d, reads-bridge (reads-accepted.1 a.kept))
