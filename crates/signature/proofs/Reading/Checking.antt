-- A file judged with no table, and the same file read: reading answers what check answers wherever the table has room; where it has none it answers 13, on a line
-- that is not after check's.
use Prim.Native.Nat.{ℕ, ◌+◌, ◌*◌, ◌≤◌, ◌<◌}
use mathlib.Core.Path.{◌≡◌, refl, sym, ap, subst, ◌∙◌}
use mathlib.Core.Logic.{◌↔◌, ◌⊎◌, inl, inr}
use mathlib.Core.Bool.{Bool, true, false, cond}
use mathlib.Core.List.{List}
use native.Mathlib.Omega.{arith}
use lib.Dec.{eqb}
use lib.IntN.{ℤ}
use lib.ListN.{length}
use Rattle.rules.specs.Units.{place_limit}
use Rattle.rules.specs.Descriptions.{agree, every_colour, narrow, ordered, roomy, rows}
use Rattle.rules.specs.Reading.Lines.{lines_of}
use Rattle.rules.specs.Reading.Contents.{content_of, form_of}
use Rattle.rules.specs.Reading.Grammar.{Keeps}
use Rattle.rules.specs.Reading.Judge.{Fault, State, Verdict, byte_fault, describe, domain_fault, first, given, given_fault, head_fault, need, order_fault, refuse, start, take_in, together, unless}
use Rattle.rules.specs.Reading.{check, read, samples_of}
use Rattle.rules.specs.Answers.{places_needed, read_line, read_number, refusal_number}
use Rattle.rules.specs.Promises.{Checks, Reads}
use Rattle.rules.specs.declared.Description.{Description}
use Rattle.rules.specs.declared.Form.{Form}
use Rattle.rules.specs.declared.Form.TheVariants.{Idle, Keyed, Data, Neither}
use Rattle.rules.specs.declared.Refusal.{Refusal}
use Rattle.rules.specs.declared.Refusal.TheVariants.{DomainTooWide, DomainsDiffer, HalfADomain, LowerNotBelowUpper, NoSize, TooLittleRoom}
use Rattle.rules.proofs.Answers.{checks-is, reads-is, refused-not-0}
use Rattle.rules.proofs.Sound.{range-rows-most}
use Rattle.rules.proofs.Reading.Acceptance.{accepted-keeps, keeps-accepted}
use Rattle.rules.proofs.Reading.Bridge.{accepted-in-range}
use Rattle.signature.specs.Before.{end_by, judge_by, judges_by, line_after, order_by, read_by}
use Rattle.signature.proofs.Reading.Parts.{read_is}
use Rattle.signature.proofs.Reading.Beside.{SameOrStops, not_earlier, walk-beside}
use Rattle.signature.proofs.Reading.Numbers.{read-13}
use Rattle.signature.proofs.Reading.Room.{Bounded, line-bounded, range-rows-least, room-for-all, start-bounded}
use Rattle.std.specs.Prelude.{Err, None, Ok, Some}
use Rattle.rules.specs.Results.{Read, refused_on}

-- ---- acceptance: the room is all that the table's length decides

-- a file that keeps the specification in one table keeps it in every table with room
pub keeps-with-room : {file : List ℕ} {places : ℕ} {d : Description} {samples : List ℤ} (more : ℕ) → Keeps file places d samples → 3 * rows d ≤ more → Keeps file more d samples
keeps-with-room more k room = record {
  items = k.items;
  lines = k.lines;
  order = k.order;
  title = k.title;
  lower = k.lower;
  upper = k.upper;
  size = k.size;
  domain = k.domain;
  ordered_so = k.ordered_so;
  narrow_so = k.narrow_so;
  agree_so = k.agree_so;
  room = room;
  count = k.count;
  values = k.values;
}

module _ (file : List ℕ) (d : Description) where
  -- so what is accepted into one table is accepted, alike, into every table with room
  pub accepted-with-room : (places more : ℕ) → read file places ≡ Ok d → 3 * rows d ≤ more → read file more ≡ Ok d
  accepted-with-room places more e room = (keeps-accepted file more d _ (keeps-with-room more (accepted-keeps file places d e) room)).0

  accepted-room : (places : ℕ) → read file places ≡ Ok d → (3 * rows d ≤ places) × (3 * rows d ≤ place_limit)
  accepted-room places e =
      ((accepted-keeps file places d e).room, omega (arith, range-rows-most d.kind d.n (accepted-in-range file places d e)))

  -- reading accepts exactly what check accepts and the table has room for, with the same description
  pub read-check : (places : ℕ) → (read file places ≡ Ok d) ↔ ((check file ≡ Ok d) × (3 * rows d ≤ places))
  unfolding check
  read-check places = (
    λ e. let (room, limit) = accepted-room places e in (accepted-with-room places place_limit e limit, room),
    λ h. accepted-with-room place_limit places h.0 h.1,
  )

  -- check accepts exactly the files that keep the specification in a table of just the places that it needs
  pub check-keeps : (check file ≡ Ok d) ↔ Keeps file (3 * rows d) d (samples_of (lines_of file))
  unfolding check
  check-keeps = (
    λ e. keeps-with-room (3 * rows d) (accepted-keeps file place_limit d e) (omega arith),
    λ k. ((read-check (3 * rows d)).0 (keeps-accepted file (3 * rows d) d _ k).0).0,
  )

  -- no table needs fewer places than 6, and none more than the greatest
  pub check-places : check file ≡ Ok d → (6 ≤ 3 * rows d) × (3 * rows d ≤ place_limit)
  unfolding check
  check-places e = (omega (arith, range-rows-least d.kind d.n (accepted-in-range file place_limit d e)), (accepted-room place_limit e).1)

-- ---- a shorter table: the same answer, or 13 no later

abbrev SameOrShort : Fault → Fault → Type 0
SameOrShort f g = (f ≡ g) ⊎ (f ≡ Some TooLittleRoom)

-- what marks where the reading into the shorter table stops
abbrev Short : State → List (List ℕ) → Refusal → Type 0
Short st left r = r ≡ TooLittleRoom

-- an answer that is 13 on a line that is not after the other's
record Earlier (a b : Read) : Type 0 where
  line : ℕ
  short : a ≡ refused_on TooLittleRoom line
  not-later : (r : Refusal) (n : ℕ) → b ≡ refused_on r n → line ≤ n

module _ (places : ℕ) where
  need-beside : (t : Bool) (r : Refusal) (f g : Fault) → SameOrShort f g → SameOrShort (need t r f) (need t r g)
  unfolding need
  need-beside true r f g h = h
  need-beside false r f g h = inl refl

  first-beside : (f g h : Fault) → SameOrShort f g → SameOrShort (first f h) (first g h)
  unfolding first
  first-beside f g h (inl e) = inl (ap (λ (x : Fault). first x h) e)
  first-beside f g h (inr e) = inr (ap (λ (x : Fault). first x h) e)

  room-beside : (d : Description) → Bounded d → SameOrShort (need (roomy places d) TooLittleRoom None) (need (roomy place_limit d) TooLittleRoom None)
  unfolding need
  room-beside d b = by (roomy places d)
    where
      by : (t : Bool) → SameOrShort (need t TooLittleRoom None) (need (roomy place_limit d) TooLittleRoom None)
      by true = inl (sym (rw (room-for-all d b)))
      by false = inr refl

  head-beside : (st : State) → Bounded (describe st) → SameOrShort (head_fault places st) (head_fault place_limit st)
  unfolding head_fault given_fault domain_fault
  head-beside st b = by (eqb st.rows 0)
    where
      d : Description
      d = describe st

      by : (t : Bool) → SameOrShort (cond t (given_fault places st) None) (cond t (given_fault place_limit st) None)
      by true =
          need-beside (given st.size) NoSize _ _
          (need-beside (together st.lower st.upper) HalfADomain _ _
          (need-beside (every_colour ordered d) LowerNotBelowUpper _ _
          (need-beside (every_colour narrow d) DomainTooWide _ _
          (need-beside (agree d.kind d) DomainsDiffer _ _
          (room-beside d b)))))
      by false = inl refl

  order-beside : (st : State) → Bounded (describe st) → (f : Form) → SameOrShort (order_by head_fault places st f) (order_by head_fault place_limit st f)
  unfolding order_by order_fault
  order-beside st b Idle = inl refl
  order-beside st b (Keyed k) = inl refl
  order-beside st b Data = first-beside (head_fault places st) (head_fault place_limit st) _ (head-beside st b)
  order-beside st b Neither = inl refl

  end-beside : (st : State) → Bounded (describe st) → SameOrShort (end_by head_fault places st) (end_by head_fault place_limit st)
  unfolding end_by
  end-beside st b = first-beside (head_fault places st) (head_fault place_limit st) _ (head-beside st b)

  judge-beside : (st : State) → Bounded (describe st) → (p : ℕ) (l : List ℕ)
      → (judge_by head_fault content_of places st p l ≡ judge_by head_fault content_of place_limit st p l) ⊎ (judge_by head_fault content_of places st p l ≡ refuse TooLittleRoom)
  unfolding judge_by unless
  judge-beside st b p l = by (byte_fault l) (order-beside st b (form_of l))
    where
      j : Verdict
      j = take_in st (content_of p l)

      short : Fault
      short = order_by head_fault places st (form_of l)

      long : Fault
      long = order_by head_fault place_limit st (form_of l)

      by : (f : Fault) → SameOrShort short long → (unless f (unless short j) ≡ unless f (unless long j)) ⊎ (unless f (unless short j) ≡ refuse TooLittleRoom)
      by None (inl e) = inl (ap (λ (g : Fault). unless g j) e)
      by None (inr e) = inr (ap (λ (g : Fault). unless g j) e)
      by (Some r) h = inl refl

  abbrev SameOrShorter : List ℕ → Type 0
  SameOrShorter file = SameOrStops (judges_by head_fault content_of places) (judges_by head_fault content_of place_limit) Short 0 0 start (lines_of file)

  lines-beside : (file : List ℕ) → SameOrShorter file
  lines-beside file =
      walk-beside _ _ Short (λ st. Bounded (describe st)) (line-bounded head_fault place_limit)
      (λ st p l ls b. marked (judge-beside st b p l))
      (λ st b. marked (end-beside st b))
      0 0 start (lines_of file) start-bounded
    where
      marked : {A : Type 0} {a b : A} {refused : Refusal → A} → (a ≡ b) ⊎ (a ≡ refused TooLittleRoom) → (a ≡ b) ⊎ ((r : Refusal) × (a ≡ refused r) × (r ≡ TooLittleRoom))
      marked (inl e) = inl e
      marked (inr e) = inr (TooLittleRoom, e, refl)

  -- reading into a table of any length, beside check
  read-beside : (file : List ℕ) → (read file places ≡ check file) ⊎ Earlier (read file places) (check file)
  unfolding check read_by
  read-beside file = by (lines-beside file)
    where
      by : SameOrShorter file → (read file places ≡ read file place_limit) ⊎ Earlier (read file places) (read file place_limit)
      by (inl e) = inl (sym (read_is places file) ∙ e ∙ read_is place_limit file)
      by (inr k) = inr (record {
        line = line_after (0 + length k.before) k.left;
        short = sym (read_is places file) ∙ k.refused ∙ ap (λ (r : Refusal). refused_on r (line_after (0 + length k.before) k.left)) k.marked;
        not-later = λ r n e. not_earlier _ _ _ k r n (read_is place_limit file ∙ e);
      })

-- ---- of every reader and every checker that keeps its promise

module _ {file : List ℕ} {table table' : List ℤ} {r s : Read} (h : Reads file table r table') (k : Checks file s) where
  read_so : r ≡ read file (length table)
  read_so = (reads-is h).0

  -- 13, on its line
  short-number : Earlier (read file (length table)) (check file) → read_number r ≡ 13
  unfolding refusal_number
  short-number c = ap read_number (read_so ∙ c.short)

  -- with the places that an accepted file needs, or more, reading answers the same: number, line and description
  pub checked-then-read : read_number s ≡ 0 → places_needed s ≤ length table → r ≡ s
  checked-then-read z room = by s (checks-is k) z room
    where
      by : (s : Read) → s ≡ check file → read_number s ≡ 0 → places_needed s ≤ length table → r ≡ s
      by (Ok d) e z room = read_so ∙ (read-check file d (length table)).1 (sym e, room)
      by (Err x) e z room = absurd (refused-not-0 x.reason z)

  -- so whoever lends them is never refused with 13
  pub lent-enough : read_number s ≡ 0 → places_needed s ≤ length table → read_number r ≡ 13 → ⊥
  lent-enough z room e = omega (arith, e, z, ap read_number (checked-then-read z room))

  -- with fewer it answers 13
  pub lent-too-few : read_number s ≡ 0 → length table < places_needed s → read_number r ≡ 13
  lent-too-few z few = by s (checks-is k) z few (read-beside (length table) file)
    where
      by : (s : Read) → s ≡ check file → read_number s ≡ 0 → length table < places_needed s
          → (read file (length table) ≡ check file) ⊎ Earlier (read file (length table)) (check file) → read_number r ≡ 13
      by (Ok d) e z few (inl same) = absurd (omega (arith, few, ((read-check file d (length table)).0 (same ∙ sym e)).1))
      by (Ok d) e z few (inr c) = short-number c
      by (Err x) e z few beside = absurd (refused-not-0 x.reason z)

  -- so it accepts exactly where check accepts and the table has those places
  pub read-accepts : (read_number r ≡ 0) ↔ ((read_number s ≡ 0) × (places_needed s ≤ length table))
  read-accepts = (λ z. by r read_so z, λ a. ap read_number (checked-then-read a.0 a.1) ∙ a.0)
    where
      by : (r : Read) → r ≡ read file (length table) → read_number r ≡ 0 → (read_number s ≡ 0) × (places_needed s ≤ length table)
      by (Ok d) e z =
          let (accepted, room) = (read-check file d (length table)).0 (sym e) in
          subst (λ (a : Read). (read_number a ≡ 0) × (places_needed a ≤ length table)) (sym (checks-is k ∙ accepted)) (refl, room)
      by (Err x) e z = absurd (refused-not-0 x.reason z)

  -- where check refuses, reading into a table of any length refuses alike, or with 13 on that line or an earlier one
  pub refused-alike : (read_number s ≡ 0 → ⊥) → (r ≡ s) ⊎ ((read_number r ≡ 13) × (read_line r ≤ read_line s))
  refused-alike not-0 = by s (checks-is k) not-0 (read-beside (length table) file)
    where
      by : (s : Read) → s ≡ check file → (read_number s ≡ 0 → ⊥) → (read file (length table) ≡ check file) ⊎ Earlier (read file (length table)) (check file)
          → (r ≡ s) ⊎ ((read_number r ≡ 13) × (read_line r ≤ read_line s))
      by (Ok d) e not-0 beside = absurd (not-0 refl)
      by (Err x) e not-0 (inl same) = inl (read_so ∙ same ∙ sym e)
      by (Err x) e not-0 (inr c) = inr (short-number c, omega (arith, ap read_line (read_so ∙ c.short), c.not-later x.reason x.line (sym e)))

  -- and a table as long as the greatest is answered as check answers, whatever the file
  pub long-enough : place_limit ≤ length table → r ≡ s
  long-enough long = by (read-beside (length table) file)
    where
      by : (read file (length table) ≡ check file) ⊎ Earlier (read file (length table)) (check file) → r ≡ s
      by (inl same) = read_so ∙ same ∙ sym (checks-is k)
      by (inr c) = absurd (omega (arith, long, read-13 file (length table) (sym (ap read_number read_so) ∙ short-number c)))
