-- `erythmoda_check` itself, and `erythmoda_read` after it: what its number says of what it wrote, and what a caller who lends the places that it tells is answered.
use Prim.Native.Nat.{ℕ, ◌*◌, ◌≤◌, ◌<◌}
use mathlib.Core.Path.{◌≡◌, refl, sym, ap, ◌∙◌}
use mathlib.Core.Logic.{◌↔◌, ◌⊎◌, inl, inr}
use mathlib.Core.Bool.{false}
use mathlib.Core.List.{List, ◌∷◌}
use native.Mathlib.Omega.{arith}
use lib.IntN.{ℤ, pos}
use lib.ListN.{length, replicate}
use Rattle.rules.specs.Units.{place_limit}
use Rattle.rules.specs.Descriptions.{rows}
use Rattle.rules.specs.Reading.Grammar.{Keeps}
use Rattle.rules.specs.Reading.Lines.{lines_of}
use Rattle.rules.specs.Reading.{check, samples_of}
use Rattle.rules.specs.Answers.{places_needed, read_number, read_line, read_description}
use Rattle.rules.specs.Promises.{Checks}
use Rattle.rules.specs.Boundary.{eleven_of, ChecksC, ReadsC}
use Rattle.rules.specs.declared.Description.{Description}
use Rattle.rules.proofs.Answers.{checks-is, is-checks, refused-not-0}
use Rattle.signature.specs.HalfDomains.{HalfAt}
use Rattle.signature.specs.MixedDomains.{DifferAt}
use Rattle.signature.proofs.Reading.HalfDomains.{numbers-half}
use Rattle.signature.proofs.Reading.MixedDomains.{numbers-differ}
use Rattle.signature.proofs.Reading.Checking.{check-keeps, check-places, checked-then-read, lent-enough, lent-too-few, long-enough, read-accepts, refused-alike}
use Rattle.signature.proofs.Boundary.Reads.{ReadLaid, read-laid}
use Rattle.std.specs.Prelude.{Err, Ok}
use Rattle.rules.specs.Results.{Read}

-- a file's judgement with its answer laid out as numbers
pub record CheckLaid (file : List ℕ) (number : ℕ) (eleven' : List ℤ) (line' places' : ℕ) : Type 0 where
  pub answer : Read
  pub checks : Checks file answer
  pub number_so : number ≡ read_number answer
  pub eleven-so : eleven' ≡ eleven_of (read_description answer)
  pub line_so : line' ≡ read_line answer
  pub places_so : places' ≡ places_needed answer

-- what acceptance says: the file keeps the specification, with this description, in a table of the places that it tells: three for each row
pub record CheckAccepted (file : List ℕ) (eleven' : List ℤ) (line' places' : ℕ) : Type 0 where
  pub d : Description
  pub keeps : Keeps file places' d (samples_of (lines_of file))
  pub eleven-so : eleven' ≡ eleven_of d
  pub line_so : line' ≡ 0
  pub places_so : places' ≡ 3 * rows d
  pub places-range : (6 ≤ places') × (places' ≤ place_limit)

module _ {file : List ℕ} {eleven' : List ℤ} {number line' places' : ℕ} where
  pub check-laid : ChecksC file number eleven' line' places' ↔ CheckLaid file number eleven' line' places'
  check-laid = (
    λ h. record {
      answer = check file;
      checks = is-checks refl;
      number_so = h.number_so;
      eleven-so = h.description_so;
      line_so = h.line_so;
      places_so = h.places_so;
    },
    λ l. let e = checks-is l.checks in
        record {
          number_so = l.number_so ∙ ap read_number e;
          line_so = l.line_so ∙ ap read_line e;
          description_so = l.eleven-so ∙ ap (λ a. eleven_of (read_description a)) e;
          places_so = l.places_so ∙ ap places_needed e;
        },
  )

module _ {file : List ℕ} {eleven' : List ℤ} {number line' places' : ℕ} (h : ChecksC file number eleven' line' places') where
  laid : CheckLaid file number eleven' line' places'
  laid = check-laid.0 h

  -- a refusal writes the empty description, 1 and ten zeros, and tells 0 places
  pub check-refused : (number ≡ 0 → ⊥) → (eleven' ≡ pos 1 ∷ replicate 10 (pos 0)) × (places' ≡ 0)
  check-refused not-0 = by laid.answer laid.number_so laid.eleven-so laid.places_so
    where
      by : (r : Read) → number ≡ read_number r → eleven' ≡ eleven_of (read_description r) → places' ≡ places_needed r → (eleven' ≡ pos 1 ∷ replicate 10 (pos 0)) × (places' ≡ 0)
      by (Ok d) e v p = absurd (not-0 e)
      by (Err x) e v p = (v, p)

  pub check-accepted : number ≡ 0 → CheckAccepted file eleven' line' places'
  check-accepted z = by laid.answer laid.checks laid.number_so laid.eleven-so laid.line_so laid.places_so
    where
      by : (r : Read) → Checks file r → number ≡ read_number r → eleven' ≡ eleven_of (read_description r) → line' ≡ read_line r → places' ≡ places_needed r
          → CheckAccepted file eleven' line' places'
      by (Ok d) checks e v n p =
          let accepted = sym (checks-is checks) in
          record {
            d = d;
            keeps = rw p ((check-keeps file d).0 accepted);
            eleven-so = v;
            line_so = n;
            places_so = p;
            places-range = rw p (check-places file d accepted);
          }
      by (Err x) checks e v m p = absurd (refused-not-0 x.reason (sym e ∙ z))

-- ---- check, and then read

module _ {file : List ℕ} {eleven' : List ℤ} {number line' places' : ℕ} (h : ChecksC file number eleven' line' places')
    {table table' eleven'' : List ℤ} {number' line'' : ℕ} (k : ReadsC file table number' table' eleven'' line'')
  where
    checked : CheckLaid file number eleven' line' places'
    checked = check-laid.0 h

    read : ReadLaid file table number' table' eleven'' line''
    read = read-laid.0 k

    -- check's number, as its answer has it
    accepted : number ≡ 0 → read_number checked.answer ≡ 0
    accepted z = sym checked.number_so ∙ z

    room : places' ≤ length table → places_needed checked.answer ≤ length table
    room enough = omega (arith, enough, checked.places_so)

    alike : read.answer ≡ checked.answer → (number' ≡ number) × (line'' ≡ line') × (eleven'' ≡ eleven')
    alike e = (
      read.number_so ∙ ap read_number e ∙ sym checked.number_so,
      read.line_so ∙ ap read_line e ∙ sym checked.line_so,
      read.eleven-so ∙ ap (λ a. eleven_of (read_description a)) e ∙ sym checked.eleven-so,
    )

    -- where check accepts, reading into the places that it tells, or more, gives the same number, line and description
    pub check-then-read : number ≡ 0 → places' ≤ length table → (number' ≡ number) × (line'' ≡ line') × (eleven'' ≡ eleven')
    check-then-read z enough = alike (checked-then-read read.reads checked.checks (accepted z) (room enough))

    -- and never 13
    pub check-then-never-13 : number ≡ 0 → places' ≤ length table → number' ≡ 13 → ⊥
    check-then-never-13 z enough e = lent-enough read.reads checked.checks (accepted z) (room enough) (sym read.number_so ∙ e)

    -- into fewer it gives 13
    pub check-then-13 : number ≡ 0 → length table < places' → number' ≡ 13
    check-then-13 z few = read.number_so ∙ lent-too-few read.reads checked.checks (accepted z) (omega (arith, few, checked.places_so))

    -- so reading accepts exactly where check accepts and the table has the places that it tells
    pub check-then-accepts : (number' ≡ 0) ↔ ((number ≡ 0) × (places' ≤ length table))
    check-then-accepts =
        let (to, from) = read-accepts read.reads checked.checks in (
          λ z. let (a, b) = to (sym read.number_so ∙ z) in (checked.number_so ∙ a, omega (arith, b, checked.places_so)),
          λ a. read.number_so ∙ from (accepted a.0, room a.1),
        )

    -- where check refuses, reading into a table of any length refuses alike, or with 13 on that line or an earlier one
    pub check-then-refused : (number ≡ 0 → ⊥) → ((number' ≡ number) × (line'' ≡ line') × (eleven'' ≡ eleven')) ⊎ ((number' ≡ 13) × (line'' ≤ line'))
    check-then-refused not-0 = by (refused-alike read.reads checked.checks (λ z. not-0 (checked.number_so ∙ z)))
      where
        by : (read.answer ≡ checked.answer) ⊎ ((read_number read.answer ≡ 13) × (read_line read.answer ≤ read_line checked.answer))
            → ((number' ≡ number) × (line'' ≡ line') × (eleven'' ≡ eleven')) ⊎ ((number' ≡ 13) × (line'' ≤ line'))
        by (inl e) = inl (alike e)
        by (inr (e, earlier)) = inr (read.number_so ∙ e, omega (arith, earlier, read.line_so, checked.line_so))

    -- and into a table as long as the greatest it answers what check answers, whatever the file
    pub check-long-enough : place_limit ≤ length table → (number' ≡ number) × (line'' ≡ line') × (eleven'' ≡ eleven')
    check-long-enough long = alike (long-enough read.reads checked.checks long)

-- 19 exactly where the head is checked with a size and one line of the domain alone
pub checks-c-half : {file : List ℕ} {eleven' : List ℤ} {number line' places' : ℕ} → ChecksC file number eleven' line' places' → (n : ℕ)
    → ((number ≡ 19) × (line' ≡ n)) ↔ HalfAt file place_limit n
unfolding check
checks-c-half {file} h n = numbers-half place_limit file n h.number_so h.line_so

-- 12 exactly where it is checked with domains that differ, in 3D, and a bound that is not whole
pub checks-c-differ : {file : List ℕ} {eleven' : List ℤ} {number line' places' : ℕ} → ChecksC file number eleven' line' places' → (n : ℕ)
    → ((number ≡ 12) × (line' ≡ n)) ↔ DifferAt false file place_limit n
unfolding check
checks-c-differ {file} h n = numbers-differ place_limit file n h.number_so h.line_so
