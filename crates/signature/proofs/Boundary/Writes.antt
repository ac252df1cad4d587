-- The promise of `erythmoda_write`: what its number says of the memory that it was lent, when each number is given, and that reading what it wrote, and writing
-- that again, gives the same.
use Prim.Native.Nat.{ℕ, ◌*◌, ◌≤◌}
use mathlib.Core.Path.{◌≡◌, refl, sym, ap, ap₂, subst, ◌∙◌}
use mathlib.Core.Logic.{◌↔◌}
use mathlib.Core.List.{List, ◌++◌}
use native.Mathlib.Omega.{arith}
use lib.IntN.{ℤ}
use lib.ListN.{length, take, drop}
use Rattle.rules.specs.Descriptions.{rows}
use Rattle.rules.specs.Writing.{bytes_after, file_text, fitted, title_bytes, write}
use Rattle.rules.specs.Answers.{read_description, read_line, read_number, refusal_number, write_number, written_length}
use Rattle.rules.specs.Promises.{Reads, Writes}
use Rattle.rules.specs.Boundary.{described_in, eleven_of, title_at, ReadsC, WritesC}
use Rattle.rules.specs.declared.Description.{Description}
use Rattle.rules.proofs.Answers.{is-writes}
use Rattle.rules.proofs.Boundary.Described.{called-described, called-none}
use Rattle.signature.proofs.Writing.Numbers.{WriteGiven, Wrote, writes-exactly}
use Rattle.signature.proofs.Writing.Promised.{all-passed, as_long, later-kept, length-written, text-written, write-refused}
use Rattle.signature.proofs.Writing.RoundTrip.{reads-written, writes_again}
use Rattle.signature.proofs.Boundary.Crossing.{crosses, title-crosses}
use Rattle.signature.proofs.Boundary.Reads.{ReadLaid, read-laid}
use Rattle.std.specs.Prelude.{None, Ok, Option, Some}
use Rattle.rules.specs.Results.{Write}

-- ---- the call of eleven numbers by the description that they give

-- they give one, or none
pub by-description : (eleven : List ℤ) {A : Type 0} → (described_in eleven ≡ None → A) → ((d : Description) → described_in eleven ≡ Some d → A) → A
by-description eleven {A} f g = by (described_in eleven) refl
  where
    by : (o : Option Description) → described_in eleven ≡ o → A
    by None e = f e
    by (Some d) e = g d e

-- a write with its answer laid out as numbers
pub record WriteLaid (d : Description) (table : List ℤ) (title out : List ℕ) (number : ℕ) (out' : List ℕ) (length' : ℕ) : Type 0 where
  pub answer : Write
  pub writes : Writes d table title out answer out'
  pub number_so : number ≡ write_number answer
  pub length_so : length' ≡ written_length answer

module _ {eleven table : List ℤ} {title out : List ℕ} {number : ℕ} {out' : List ℕ} {length' : ℕ} (h : WritesC eleven table title out number out' length') where
  -- the call is a write of that description
  pub write-laid : {d : Description} → described_in eleven ≡ Some d → WriteLaid d table title out number out' length'
  write-laid {d} e =
      let so = called-described _ (λ d. write d table title (length out)) eleven e in
      record {
        answer = write d table title (length out);
        writes = is-writes refl (h.memory ∙ called-described out (λ d. bytes_after d table title out (write d table title (length out))) eleven e);
        number_so = h.number_so ∙ ap write_number so;
        length_so = h.length_so ∙ ap written_length so;
      }

  -- eleven numbers that give no description: 24, length 0, and the bytes as they were
  pub write-undescribed : described_in eleven ≡ None → (number ≡ 24) × (length' ≡ 0) × (out' ≡ out)
  unfolding refusal_number
  write-undescribed e =
      let so = called-none _ (λ d. write d table title (length out)) eleven e in (
        h.number_so ∙ ap write_number so,
        h.length_so ∙ ap written_length so,
        h.memory ∙ called-none out (λ d. bytes_after d table title out (write d table title (length out))) eleven e,
      )

  -- a refusal gives length 0 and leaves the bytes as they were
  pub write-c-refused : (number ≡ 0 → ⊥) → (length' ≡ 0) × (out' ≡ out)
  write-c-refused not-0 = by-description eleven (λ e. let (n, l, m) = write-undescribed e in (l, m)) by
    where
      by : (d : Description) → described_in eleven ≡ Some d → (length' ≡ 0) × (out' ≡ out)
      by d e =
          let l = write-laid e in
          let (zero-long, kept) = write-refused l.writes (λ z. not-0 (l.number_so ∙ z)) in
          (l.length_so ∙ zero-long, kept)

-- what acceptance says: the eleven numbers describe a table whose text fits; it stands first, and every later byte is as it was
pub record WriteAccepted (eleven table : List ℤ) (title out out' : List ℕ) (length' : ℕ) : Type 0 where
  pub d : Description
  pub described : described_in eleven ≡ Some d
  pub wrote : Wrote d table title (length out)
  pub length_so : length' ≡ length (file_text d table title)
  pub text : take length' out' ≡ file_text d table title
  pub later : drop length' out' ≡ drop length' out
  pub long : length out' ≡ length out

-- an answer of 0 says so
pub write-c-accepted : {eleven table : List ℤ} {title out out' : List ℕ} {length' : ℕ} → WritesC eleven table title out 0 out' length'
    → WriteAccepted eleven table title out out' length'
write-c-accepted {eleven} {table} {title} {out} {out'} {length'} h = by-description eleven (λ e. absurd (omega (arith, (write-undescribed h e).0))) by
  where
    by : (d : Description) → described_in eleven ≡ Some d → WriteAccepted eleven table title out out' length'
    by d e =
        let l = write-laid h e in
        let z = sym l.number_so in
        record {
          d = d;
          described = e;
          wrote = all-passed l.writes z;
          length_so = l.length_so ∙ ap written_length (length-written l.writes z);
          text = ap (λ n. take n out') l.length_so ∙ text-written l.writes z;
          later = subst (λ n. drop n out' ≡ drop n out) (sym l.length_so) (later-kept l.writes z);
          long = as_long l.writes z;
        }

-- ---- when each number is given

pub data WriteGivenC (eleven table : List ℤ) (title : List ℕ) (places : ℕ) : ℕ → Type 0 where
  -- eleven numbers that give no description
  undescribed : described_in eleven ≡ None → WriteGivenC eleven table title places 24
  -- as write gives it, of the description that they give
  described : (d : Description) → described_in eleven ≡ Some d → (n : ℕ) → WriteGiven d table title places n → WriteGivenC eleven table title places n

-- a number is answered exactly where it is given
pub writes-c-exactly : {eleven table : List ℤ} {title out out' : List ℕ} {number length' : ℕ} → WritesC eleven table title out number out' length' → (n : ℕ)
    → (number ≡ n) ↔ WriteGivenC eleven table title (length out) n
writes-c-exactly {eleven} {table} {title} {out} {out'} {number} h n = (λ e. subst Given e (by-description eleven none_so some-so), of n)
  where
    Given : ℕ → Type 0
    Given = WriteGivenC eleven table title (length out)

    none_so : described_in eleven ≡ None → Given number
    none_so e = subst Given (sym (write-undescribed h e).0) (undescribed e)

    some-so : (d : Description) → described_in eleven ≡ Some d → Given number
    some-so d e = let l = write-laid h e in described d e number ((writes-exactly l.writes number).0 (sym l.number_so))

    of : (n : ℕ) → Given n → number ≡ n
    of n (undescribed e) = (write-undescribed h e).0
    of n (described d e m g) = let l = write-laid h e in l.number_so ∙ (writes-exactly l.writes m).1 g

-- ---- reading what was written, and writing it again

module _
    {eleven table : List ℤ} {title out out' : List ℕ} {length' : ℕ} (h : WritesC eleven table title out 0 out' length')
    {d : Description} (described : described_in eleven ≡ Some d) {table' : List ℤ} (room : 3 * rows d ≤ length table')
    {number : ℕ} {table'' eleven'' : List ℤ} {line' : ℕ} (reads : ReadsC (take length' out') table' number table'' eleven'' line')
  where
    l : WriteLaid d table title out 0 out' length'
    l = write-laid h described

    m : ReadLaid (take length' out') table' number table'' eleven'' line'
    m = read-laid.0 reads

    reads_so : Reads (take (written_length l.answer) out') table' m.answer table''
    reads_so = subst (λ n. Reads (take n out') table' m.answer table'') l.length_so m.reads

    read_so : (m.answer ≡ Ok (fitted d title)) × (table'' ≡ take (3 * rows d) table ++ drop (3 * rows d) table')
    read_so = reads-written l.writes (sym l.number_so) room reads_so

    fitted-so : eleven'' ≡ eleven_of (fitted d title)
    fitted-so = m.eleven-so ∙ ap (λ r. eleven_of (read_description r)) read_so.0

    -- the bytes that an accepted call wrote are read with 0, into the samples and the eleven numbers of the description fitted to the new file
    pub write-then-read : (number ≡ 0) × (line' ≡ 0) × (table'' ≡ take (3 * rows d) table ++ drop (3 * rows d) table') × (eleven'' ≡ eleven_of (fitted d title))
    write-then-read = (m.number_so ∙ ap read_number read_so.0, m.line_so ∙ ap read_line read_so.0, read_so.1, fitted-so)

    -- the title's bytes, from where those numbers say
    title_so : title_bytes (take length' out') (title_at eleven'') ≡ title_bytes (take (written_length l.answer) out') (fitted d title).title
    title_so = ap₂ (λ n t. title_bytes (take n out') t) l.length_so (ap title_at fitted-so ∙ title-crosses (fitted d title))

    -- written again, with the title's bytes from where those numbers say, they are the same bytes, wherever there is room
    pub write-read-write : {out₂ : List ℕ} {number₂ : ℕ} {out₂' : List ℕ} {length₂ : ℕ}
        → WritesC eleven'' table'' (title_bytes (take length' out') (title_at eleven'')) out₂ number₂ out₂' length₂ → length' ≤ length out₂
        → (number₂ ≡ 0) × (length₂ ≡ length') × (take length₂ out₂' ≡ take length' out')
    write-read-write {out₂} {number₂} {out₂'} {length₂} again long =
        let e = fitted d title in
        let k = write-laid again (ap described_in fitted-so ∙ crosses e) in
        let (answer, bytes) =
        writes_again l.writes (sym l.number_so) room reads_so
        (subst (λ t. Writes e table'' t out₂ k.answer out₂') title_so k.writes) (subst (λ n. n ≤ length out₂) l.length_so long) in (
          k.number_so ∙ ap write_number answer ∙ sym l.number_so,
          k.length_so ∙ ap written_length answer ∙ sym l.length_so,
          ap (λ n. take n out₂') k.length_so ∙ bytes ∙ ap (λ n. take n out') (sym l.length_so),
        )
