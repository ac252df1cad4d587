-- Req 05 of document 02: 19 is given exactly where the head is checked with a size and one line of the domain alone, and no other answer moves.
use Prim.Native.Nat.{ℕ, ◌+◌}
use mathlib.Core.Path.{◌≡◌, refl, sym, ap, subst, ◌∙◌}
use mathlib.Core.Logic.{◌↔◌, ◌⊎◌, inl, inr, ⊎_elim}
use mathlib.Core.Bool.{Bool, true, false, cond, ◌||◌, or-false}
use mathlib.Core.List.{List, ◌++◌}
use native.Mathlib.Omega.{arith}
use borrow.Author.Tests.{eqb-true, leb-true}
use lib.Dec.{eqb, leb}
use lib.IntN.{ℤ}
use lib.ListN.{length}
use Rattle.rules.specs.Units.{place_limit}
use Rattle.rules.specs.Reading.{check, read, table_after}
use Rattle.rules.specs.Reading.Lines.{lines_of}
use Rattle.rules.specs.Reading.Contents.{content_of}
use Rattle.rules.specs.Reading.Judge.{State, describe, domain_fault, end_fault, given, given_fault, head_fault, need, start, together}
use Rattle.rules.specs.Answers.{read_line, read_number, refusal_number}
use Rattle.rules.specs.Promises.{Checks, Reads}
use Rattle.rules.specs.declared.Description.{Description}
use Rattle.rules.specs.declared.Form.{Form}
use Rattle.rules.specs.declared.Form.TheVariants.{Idle, Data, Neither}
use Rattle.rules.specs.declared.Refusal.{Refusal}
use Rattle.rules.specs.declared.Refusal.TheVariants.{HalfADomain, NoSize}
use Rattle.rules.proofs.Answers.{checks-is, reads-is}
use Rattle.rules.proofs.Tests.{and_both, first-none, no_true}
use Rattle.rules.proofs.Reading.OneLine.{find, found}
use Rattle.rules.proofs.Reading.Order.{HeadOk, final, head_ok, inv-final}
use Rattle.rules.proofs.Reading.Refusals.{beginning}
use Rattle.rules.proofs.Reading.Walk.{no-refused, walked}
use Rattle.signature.specs.Before.{judge_by, judges_by, line_after, read_by, read_lines_by}
use Rattle.signature.specs.Heads.{among}
use Rattle.signature.specs.HalfDomains.{HalfAt, HalfDomain, HalfGiven, Halved, head_before, lower_alone, lower_line, read_with_halves, upper_alone, upper_line}
use Rattle.signature.specs.Order.{Leads}
use Rattle.signature.proofs.Either.{either}
use Rattle.signature.proofs.Reading.Parts.{led, reached-leads, read_is}
use Rattle.signature.proofs.Reading.Beside.{goes-on, not_earlier}
use Rattle.signature.proofs.Reading.Heads as H
use Rattle.signature.proofs.Reading.Numbers.{LowAnswer, LowFault, domain-low, need-low, plain, read_low}
use Rattle.signature.proofs.Reading.Order.{numbers-so, reached}
use Rattle.signature.proofs.Reading.Room.{Bounded}
use Rattle.signature.proofs.Reading.Told.{among-append, half-lines, lines-half, none-later, size-told}
use Rattle.std.specs.Prelude.{None, Ok, Some}
use Rattle.rules.specs.Results.{Read, refused_on}

-- ---- reading, and reading as it was before

-- a state at which 19 is given
record HalfState (st : State) : Type 0 where
  no_rows : st.rows ≡ 0
  sized : given st.size ≡ true
  half : together st.lower st.upper ≡ false

module _ (places : ℕ) where
  head-half : (st : State) → HalfState st → head_fault places st ≡ Some HalfADomain
  unfolding head_fault given_fault need
  head-half st h = rw (h.no_rows, h.sized, h.half)

  head-moved : (st : State) → (head_fault places st ≡ head_before places st) ⊎ ((head_fault places st ≡ Some HalfADomain) × HalfState st)
  unfolding head_fault given_fault head_before need
  head-moved st = by (eqb st.rows 0) refl (given st.size) refl (together st.lower st.upper) refl
    where
      by : (a : Bool) → eqb st.rows 0 ≡ a → (b : Bool) → given st.size ≡ b → (c : Bool) → together st.lower st.upper ≡ c
          → (cond a (need b NoSize (need c HalfADomain (domain_fault places (describe st)))) None ≡ cond a (need b NoSize (domain_fault places (describe st))) None)
          ⊎ ((head_fault places st ≡ Some HalfADomain) × HalfState st)
      by false e b f c g = inl refl
      by true e false f c g = inl refl
      by true e true f true g = inl refl
      by true e true f false g = let h : HalfState st = record { no_rows = eqb-true st.rows 0 e; sized = f; half = g } in inr (head-half st h, h)

  abbrev Stopped : List ℕ → Type 0
  Stopped = H.Stopped head_fault head_before places HalfADomain HalfState head-moved

  abbrev SameOrStopped : List ℕ → Type 0
  SameOrStopped = H.SameOrStopped head_fault head_before places HalfADomain HalfState head-moved

  lines-moved : (file : List ℕ) → SameOrStopped file
  lines-moved = H.heads-moved head_fault head_before places HalfADomain HalfState head-moved

  -- ---- where 19 is given

  -- what the state was given, among the lines, and back
  lines-given : (before : List (List ℕ)) (st : State) → Leads (judge_by head_fault content_of places) 0 start before st → st.rows ≡ 0 → HalfState st → HalfGiven before st
  lines-given before st led e h = record { sized = sym (size-told head_fault places before st led) ∙ h.sized; half = half-lines head_fault places before st led h.half }

  given-lines : (before : List (List ℕ)) (st : State) → Leads (judge_by head_fault content_of places) 0 start before st → st.rows ≡ 0 → HalfGiven before st → HalfState st
  given-lines before st led e h = record { no_rows = e; sized = size-told head_fault places before st led ∙ h.sized; half = lines-half head_fault places before st led h.half }

  -- 19 was never answered before
  abbrev Not19 : Refusal → Type 0
  Not19 r = refusal_number r ≡ 19 → ⊥

  plain-not-19 : (r : Refusal) → plain r ≡ true → Not19 r
  plain-not-19 r e q = omega (arith, q, leb-true (refusal_number r) 18 (and_both (leb (refusal_number r) 18) _ e).0)

  head-not-19 : (st : State) → Bounded (describe st) → LowFault Not19 (head_before places st)
  unfolding head_before refusal_number
  head-not-19 st small =
      either (LowFault Not19) (eqb st.rows 0) _ None
      (need-low Not19 (given st.size) NoSize _ (λ _. plain-not-19 NoSize refl) (domain-low Not19 plain-not-19 places (describe st) (λ _ q. omega (arith, q)) (λ _ q. omega (arith, q))))
      tt

  never-before : (file : List ℕ) (n : ℕ) → read_with_halves file places ≡ refused_on HalfADomain n → ⊥
  unfolding refusal_number
  never-before file n e = subst (LowAnswer Not19) e (read_low Not19 plain-not-19 head_before places head-not-19 file) refl

  -- 19 is given exactly there
  pub half-exactly : (file : List ℕ) (n : ℕ) → (read file places ≡ refused_on HalfADomain n) ↔ HalfAt file places n
  half-exactly file n =
      let (to, from) = H.refused-exactly head_before places HalfADomain HalfState head-moved (λ st h. h.no_rows) head-half never-before file n in
      (λ e. H.head-map (to e) lines-given, λ h. from (H.head-map h given-lines))

  -- so whoever gives reading's number and line gives 19 and line n exactly there
  pub numbers-half : (file : List ℕ) (n : ℕ) {number line : ℕ} → number ≡ read_number (read file places) → line ≡ read_line (read file places)
      → ((number ≡ 19) × (line ≡ n)) ↔ HalfAt file places n
  unfolding refusal_number
  numbers-half file n = numbers-so HalfADomain n (half-exactly file n)

  -- ---- what moved

  -- a file is answered as it was, or is refused with 19
  pub read-halved : (file : List ℕ) → (read file places ≡ read_with_halves file places) ⊎ Halved file places
  unfolding read_by
  read-halved file = by (lines-moved file)
    where
      by : SameOrStopped file → (read file places ≡ read_with_halves file places) ⊎ Halved file places
      by (inl same) = inl (sym (read_is places file) ∙ same)
      by (inr k) =
          let refused = sym (read_is places file) ∙ H.stopped-refused head_fault head_before places HalfADomain HalfState head-moved file k in
          inr (record {
            line = line_after (0 + length k.before) k.left;
            refused = refused;
            half = (half-exactly file _).0 refused;
            not_earlier = λ r n e. not_earlier _ _ _ k r n e;
          })

  -- a file that was accepted, and stops, has one line of the domain and not the other
  stopped-half : (file : List ℕ) (d : Description) → read_with_halves file places ≡ Ok d → Stopped file → HalfDomain (lines_of file)
  unfolding read_by lower_line upper_line
  stopped-half file d e k = rw k.lines_so (by (half-lines head_fault places k.before k.state k.led-first k.marked.marks.half))
    where
      rest : read_lines_by (judges_by head_before content_of places) (beginning 0 k.before) (0 + length k.before) k.state k.left ≡ Ok d
      rest = sym (goes-on _ _ _ k) ∙ e

      all : (sort : Form → Bool) → sort Idle ≡ false → sort Data ≡ false → sort Neither ≡ false → among sort (k.before ++ k.left) ≡ among sort k.before
      all sort i r n =
          among-append sort k.before k.left
          ∙ ap (λ (b : Bool). among sort k.before || b) (none-later head_before places sort i r n _ _ k.state k.left d rest (inr k.marked.at_head))
          ∙ or-false (among sort k.before)

      lowers : among lower_line (k.before ++ k.left) ≡ among lower_line k.before
      lowers = all lower_line refl refl refl

      uppers : among upper_line (k.before ++ k.left) ≡ among upper_line k.before
      uppers = all upper_line refl refl refl

      by : HalfDomain k.before → HalfDomain (k.before ++ k.left)
      by (lower_alone p q) = lower_alone (lowers ∙ p) (uppers ∙ q)
      by (upper_alone p q) = upper_alone (uppers ∙ p) (lowers ∙ q)

  accepted-whole : (file : List ℕ) (d : Description) → read file places ≡ Ok d → HalfDomain (lines_of file) → ⊥
  unfolding read end_fault
  accepted-whole file d e half =
      let w = walked find found places 0 0 start (lines_of file) d e in
      let end : State = final start w.items in
      let inv = inv-final places start w.items w.admitted (record { head = λ p. absurd (omega arith); count = omega arith }) in
      let ok : HeadOk places end = head_ok places end (first-none _ _ w.ended).0 inv.head in
      let there = reached-leads places 0 start (lines_of file) end (reached places 0 start (lines_of file) w.items w.lines w.admitted) in
      no_true (sym ok.whole ∙ lines-half head_fault places (lines_of file) end there half)

  -- a file is accepted exactly if it was, with the same description, and has not one line of the domain alone
  pub accepted-halves : (file : List ℕ) (d : Description) → (read file places ≡ Ok d) ↔ ((read_with_halves file places ≡ Ok d) × (HalfDomain (lines_of file) → ⊥))
  unfolding read_by
  accepted-halves file d = (λ e. (to e (lines-moved file), accepted-whole file d e), λ h. from h.0 h.1 (lines-moved file))
    where
      to : read file places ≡ Ok d → SameOrStopped file → read_with_halves file places ≡ Ok d
      to e (inl same) = sym same ∙ read_is places file ∙ e
      to e (inr k) = absurd (no-refused _ _ d (sym k.refused ∙ read_is places file ∙ e))

      from : read_with_halves file places ≡ Ok d → (HalfDomain (lines_of file) → ⊥) → SameOrStopped file → read file places ≡ Ok d
      from e whole (inl same) = sym (read_is places file) ∙ same ∙ e
      from e whole (inr k) = absurd (whole (stopped-half file d e k))

  -- so a file that was accepted and is not now has one line of the domain alone
  pub no-longer-accepted : (file : List ℕ) (d : Description) → read_with_halves file places ≡ Ok d → (read file places ≡ Ok d → ⊥) → HalfDomain (lines_of file)
  no-longer-accepted file d e refused = ⊎_elim (λ same. absurd (refused (sym (read_is places file) ∙ same ∙ e))) (stopped-half file d e) (lines-moved file)

-- ---- the same of the calls, by their promises

module _ {file : List ℕ} {table table' : List ℤ} {r : Read} (h : Reads file table r table') where
  pub reads-half : (n : ℕ) → ((read_number r ≡ 19) × (read_line r ≡ n)) ↔ HalfAt file (length table) n
  reads-half n = numbers-half (length table) file n h.number h.line

  pub reads-halved : ((r ≡ read_with_halves file (length table)) × (table' ≡ table_after file table (read_with_halves file (length table)))) ⊎ (Halved file (length table) × (table' ≡ table))
  unfolding table_after
  reads-halved =
      let now = reads-is h in
      ⊎_elim (λ same. inl (now.0 ∙ same, now.1 ∙ ap (table_after file table) same)) (λ k. inr (k, now.1 ∙ ap (table_after file table) k.refused))
      (read-halved (length table) file)

-- check is reading with room for every table
module _ {file : List ℕ} {r : Read} (h : Checks file r) where
  pub checks-half : (n : ℕ) → ((read_number r ≡ 19) × (read_line r ≡ n)) ↔ HalfAt file place_limit n
  unfolding check
  checks-half n = numbers-half place_limit file n h.number h.line

  pub checks-halved : (r ≡ read_with_halves file place_limit) ⊎ Halved file place_limit
  unfolding check
  checks-halved = ⊎_elim (λ same. inl (checks-is h ∙ same)) inr (read-halved place_limit file)
