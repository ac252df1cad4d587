-- Document 02, Req 07: 12 is given exactly where the domains of a 3D table differ and some bound is not whole, and no other answer moves.
use Prim.Native.Nat.{ℕ, ◌+◌}
use mathlib.Core.Path.{◌≡◌, refl, sym, ap, subst, ◌∙◌}
use mathlib.Core.Logic.{◌↔◌, ◌⊎◌, inl, inr, ⊎_elim}
use mathlib.Core.Bool.{Bool, true, false, cond, ◌||◌, not}
use mathlib.Core.List.{List}
use native.Mathlib.Omega.{arith}
use borrow.Author.Tests.{eq-eqb, eqb-true, eqb-false, not-true}
use lib.Dec.{eqb, leb}
use lib.IntN.{ℤ}
use lib.ListN.{length}
use Rattle.rules.specs.Units.{place_limit}
use Rattle.rules.specs.Descriptions.{agree, every_colour, narrow, one_domain, ordered, roomy, whole_bounds}
use Rattle.rules.specs.Reading.{check, read, table_after}
use Rattle.rules.specs.Reading.Contents.{content_of}
use Rattle.rules.specs.Reading.Judge.{Fault, State, describe, domain_fault, given, given_fault, head_fault, need, start, together}
use Rattle.rules.specs.Answers.{read_line, read_number, refusal_number}
use Rattle.rules.specs.Promises.{Checks, Reads}
use Rattle.rules.specs.declared.Description.{Description}
use Rattle.rules.specs.declared.Kind.{Kind}
use Rattle.rules.specs.declared.Kind.TheVariants.{OneD, ThreeD}
use Rattle.rules.specs.declared.Refusal.{Refusal}
use Rattle.rules.specs.declared.Refusal.TheVariants.{DomainTooWide, DomainsDiffer, HalfADomain, LowerNotBelowUpper, NoSize, TooLittleRoom}
use Rattle.rules.proofs.Answers.{checks-is, reads-is}
use Rattle.rules.proofs.Tests.{and_both, need-none, no_true}
use Rattle.rules.proofs.Reading.Walk.{no-refused}
use Rattle.signature.specs.Before.{line_after, read_by}
use Rattle.signature.specs.MixedDomains.{DifferAt, Differing, UpTo12, Widened, head_agreed, read_one_domain}
use Rattle.signature.specs.OneDomain.{agree_before}
use Rattle.signature.proofs.Either.{either}
use Rattle.signature.proofs.Looking.CommonFractions.{disagree}
use Rattle.signature.proofs.Reading.Parts.{leads-reached, read_is}
use Rattle.signature.proofs.Reading.Beside.{goes-on, not_earlier}
use Rattle.signature.proofs.Reading.Heads as H
use Rattle.signature.proofs.Reading.Numbers.{LowAnswer, LowFault, need-low, plain, read_low}
use Rattle.signature.proofs.Reading.Order.{numbers-so}
use Rattle.signature.proofs.Reading.Room.{Bounded}
use Rattle.std.specs.Prelude.{None, Ok, Some}
use Rattle.rules.specs.Results.{Read, refused_on}

-- ---- the rules on the domains

-- nothing asked
abbrev any_domains : Description → Bool
any_domains d = true

-- as it was, and as it is
abbrev one_agreed : Description → Bool
one_agreed d = agree_before d.kind d

abbrev agreed : Description → Bool
agreed d = agree d.kind d

-- what failed before is of a 3D table whose domains differ, and the rule as it is asks that its bounds be whole
agree-kinds : (d : Description) (k : Kind) (whole : Bool) → every_colour whole_bounds d ≡ whole → agree_before k d ≡ false → (k ≡ ThreeD) × (one_domain d ≡ false) × (agree k d ≡ whole)
unfolding agree agree_before
agree-kinds d OneD whole w e = absurd (no_true e)
agree-kinds d ThreeD whole w e = (refl, e, ap (λ (b : Bool). b || every_colour whole_bounds d) e ∙ w)

before-agreed : (d : Description) (k : Kind) → agree_before k d ≡ true → agree k d ≡ true
unfolding agree agree_before
before-agreed d OneD e = refl
before-agreed d ThreeD e = rw e

one-fails : (d : Description) → d.kind ≡ ThreeD → one_domain d ≡ false → agree_before d.kind d ≡ false
unfolding agree_before
one-fails d cube differ = ap (λ (k : Kind). agree_before k d) cube ∙ differ

-- ---- two rules beside each other, of which the first asks for more

module _ (places : ℕ) (A B : Description → Bool) (weaker : (d : Description) → A d ≡ true → B d ≡ true) where
  record Between (st : State) : Type 0 where
    passed : UpTo12 st
    fails : A (describe st) ≡ false
    holds : B (describe st) ≡ true

  head-refuses : (st : State) → UpTo12 st → A (describe st) ≡ false → head_agreed A places st ≡ Some DomainsDiffer
  unfolding head_agreed need
  head-refuses st u e = rw (eq-eqb st.rows 0 u.no_rows, u.sized, u.both_or_neither, u.in_order, u.not_too_wide, e)

  rule_moved : (st : State) → (head_agreed A places st ≡ head_agreed B places st) ⊎ ((head_agreed A places st ≡ Some DomainsDiffer) × Between st)
  unfolding head_agreed need
  rule_moved st =
      let d = describe st in
      by (eqb st.rows 0) refl (given st.size) refl (together st.lower st.upper) refl (every_colour ordered d) refl (every_colour narrow d) refl (A d) refl (B d) refl
    where
      fault : Bool → Bool → Bool → Bool → Bool → Bool → Fault
      fault a b c o w agreed =
          cond a
          (need b NoSize
          (need c HalfADomain
          (need o LowerNotBelowUpper (need w DomainTooWide (need agreed DomainsDiffer (need (roomy places (describe st)) TooLittleRoom None))))))
          None

      by : (a : Bool) → eqb st.rows 0 ≡ a → (b : Bool) → given st.size ≡ b → (c : Bool) → together st.lower st.upper ≡ c
          → (o : Bool) → every_colour ordered (describe st) ≡ o → (w : Bool) → every_colour narrow (describe st) ≡ w
          → (x : Bool) → A (describe st) ≡ x → (y : Bool) → B (describe st) ≡ y
          → (fault a b c o w x ≡ fault a b c o w y) ⊎ ((head_agreed A places st ≡ Some DomainsDiffer) × Between st)
      by false ea b eb c ec o eo w ew x ex y ey = inl refl
      by true ea false eb c ec o eo w ew x ex y ey = inl refl
      by true ea true eb false ec o eo w ew x ex y ey = inl refl
      by true ea true eb true ec false eo w ew x ex y ey = inl refl
      by true ea true eb true ec true eo false ew x ex y ey = inl refl
      by true ea true eb true ec true eo true ew true ex true ey = inl refl
      by true ea true eb true ec true eo true ew false ex false ey = inl refl
      by true ea true eb true ec true eo true ew true ex false ey = absurd (no_true (sym (weaker (describe st) ex) ∙ ey))
      by true ea true eb true ec true eo true ew false ex true ey =
          let u : UpTo12 st = record { no_rows = eqb-true st.rows 0 ea; sized = eb; both_or_neither = ec; in_order = eo; not_too_wide = ew } in
          inr (head-refuses st u ex, record { passed = u; fails = ex; holds = ey })

-- ---- where 12 is given

-- what the rules ask fails of a 3D table whose domains differ, with a bound that is not whole
fails-uneven : (places : ℕ) (st : State) → Between places agreed any_domains (λ d e. refl) st → Differing false st
fails-uneven places st b = let (cube, differ, uneven) = (disagree (describe st) (describe st).kind).0 b.fails in record { passed = b.passed; cube = cube; differ = differ; whole_so = uneven }

-- and what was asked before fails, where the rules are content, of one whose bounds are whole
fails-whole : (places : ℕ) (st : State) → Between places one_agreed agreed (λ d. before-agreed d d.kind) st → Differing true st
fails-whole places st b =
    let (cube, differ, so) = agree-kinds (describe st) (describe st).kind _ refl b.fails in
    record { passed = b.passed; cube = cube; differ = differ; whole_so = sym so ∙ b.holds }

module _ (places : ℕ) where
  -- the rules' own head, and one that asks nothing of domains
  head-moved : (st : State) → (head_fault places st ≡ head_agreed any_domains places st) ⊎ ((head_fault places st ≡ Some DomainsDiffer) × Differing false st)
  unfolding head_agreed head_fault given_fault domain_fault
  head-moved st = ⊎_elim inl (λ stops. inr (stops.0, fails-uneven places st stops.1)) (rule_moved places agreed any_domains (λ d e. refl) st)

  head-uneven : (st : State) → Differing false st → head_fault places st ≡ Some DomainsDiffer
  unfolding head_agreed head_fault given_fault domain_fault
  head-uneven st h = head-refuses places agreed any_domains (λ d e. refl) st h.passed ((disagree (describe st) (describe st).kind).1 (h.cube, h.differ, h.whole_so))

  -- which never answers 12
  abbrev Not12 : Refusal → Type 0
  Not12 r = refusal_number r ≡ 12 → ⊥

  plain-not-12 : (r : Refusal) → plain r ≡ true → Not12 r
  plain-not-12 r e q =
      let others = (and_both (leb (refusal_number r) 18) _ e).1 in
      eqb-false (refusal_number r) 12 (not-true _ (and_both (not (eqb (refusal_number r) 12)) _ others).0) q

  any-not-12 : (st : State) → Bounded (describe st) → LowFault Not12 (head_agreed any_domains places st)
  unfolding head_agreed need refusal_number
  any-not-12 st small =
      let plainly : (r : Refusal) → plain r ≡ true → Not12 r = plain-not-12 in
      either (LowFault Not12) (eqb st.rows 0) _ None
      (need-low Not12 (given st.size) NoSize _ (λ _. plainly NoSize refl)
      (need-low Not12 (together st.lower st.upper) HalfADomain _ (λ _ q. omega (arith, q))
      (need-low Not12 (every_colour ordered (describe st)) LowerNotBelowUpper _ (λ _. plainly LowerNotBelowUpper refl)
      (need-low Not12 (every_colour narrow (describe st)) DomainTooWide _ (λ _. plainly DomainTooWide refl)
      (need-low Not12 (roomy places (describe st)) TooLittleRoom None (λ _ q. omega (arith, q)) tt)))))
      tt

  any-never-12 : (file : List ℕ) (n : ℕ) → read_by (head_agreed any_domains) content_of file places ≡ refused_on DomainsDiffer n → ⊥
  unfolding refusal_number
  any-never-12 file n e = subst (LowAnswer Not12) e (read_low Not12 plain-not-12 (head_agreed any_domains) places any-not-12 file) refl

  -- 12 is given exactly there
  pub differ-exactly : (file : List ℕ) (n : ℕ) → (read file places ≡ refused_on DomainsDiffer n) ↔ DifferAt false file places n
  differ-exactly = H.refused-exactly (head_agreed any_domains) places DomainsDiffer (Differing false) head-moved (λ st h. h.passed.no_rows) head-uneven any-never-12

  -- so whoever gives reading's number and line gives 12 and line n exactly there
  pub numbers-differ : (file : List ℕ) (n : ℕ) {number line : ℕ} → number ≡ read_number (read file places) → line ≡ read_line (read file places)
      → ((number ≡ 12) × (line ≡ n)) ↔ DifferAt false file places n
  unfolding refusal_number
  numbers-differ file n = numbers-so DomainsDiffer n (differ-exactly file n)

  -- ---- what moved

  abbrev head_one : ℕ → State → Fault
  head_one = head_agreed one_agreed

  -- the head as it was, and as it is
  before-moved : (st : State) → (head_one places st ≡ head_fault places st) ⊎ ((head_one places st ≡ Some DomainsDiffer) × Differing true st)
  unfolding head_agreed head_fault given_fault domain_fault
  before-moved st = ⊎_elim inl (λ stops. inr (stops.0, fails-whole places st stops.1)) (rule_moved places one_agreed agreed (λ d. before-agreed d d.kind) st)

  abbrev Stopped : List ℕ → Type 0
  Stopped = H.Stopped head_one head_fault places DomainsDiffer (Differing true) before-moved

  abbrev SameOrStopped : List ℕ → Type 0
  SameOrStopped = H.SameOrStopped head_one head_fault places DomainsDiffer (Differing true) before-moved

  lines-moved : (file : List ℕ) → SameOrStopped file
  lines-moved = H.heads-moved head_one head_fault places DomainsDiffer (Differing true) before-moved

  mixed-at : (file : List ℕ) (k : Stopped file) → DifferAt true file places (line_after (0 + length k.before) k.left)
  mixed-at file k =
      H.stopped-at head_one head_fault places DomainsDiffer (Differing true) before-moved file k (leads-reached places 0 start k.before k.state k.led-second) (λ h. h.passed.no_rows)

  -- a file has one place where the head is checked, so it is not 12 there any more
  apart : (file : List ℕ) (m n : ℕ) → DifferAt true file places m → read file places ≡ refused_on DomainsDiffer n → ⊥
  apart file m n h e =
      let k = (differ-exactly file n).0 e in
      no_true (sym h.holds.whole_so ∙ ap (λ (st : State). every_colour whole_bounds (describe st)) (H.head-one h k) ∙ k.holds.whole_so)

  -- a file is answered as it was, or was refused with 12 and now is not
  pub read-widened : (file : List ℕ) → (read file places ≡ read_one_domain file places) ⊎ Widened file places
  unfolding read_by
  read-widened file = by (lines-moved file)
    where
      by : SameOrStopped file → (read file places ≡ read_one_domain file places) ⊎ Widened file places
      by (inl same) = inl (sym (read_is places file) ∙ sym same)
      by (inr k) = inr (record {
        line = line_after (0 + length k.before) k.left;
        refused = H.stopped-refused head_one head_fault places DomainsDiffer (Differing true) before-moved file k;
        mixed = mixed-at file k;
        not_12 = λ n e. apart file _ n (mixed-at file k) e;
        not_earlier = λ r n e. not_earlier _ _ _ k r n (read_is places file ∙ e);
      })

  -- ---- acceptance

  -- what a head that passes says of the domains
  head-says : (rule : Description → Bool) (st : State) → st.rows ≡ 0 → head_agreed rule places st ≡ None → rule (describe st) ≡ true
  unfolding head_agreed
  head-says rule st e h =
      let a : need (given st.size) NoSize _ ≡ None = rw (eq-eqb st.rows 0 e) at h in
      (need-none _ _ _ (need-none _ _ _ (need-none _ _ _ (need-none _ _ _ (need-none _ _ _ a).1).1).1).1).0

  -- a file was accepted exactly if it is, with the same description, and that is of 1D or has one domain
  pub accepted-before : (file : List ℕ) (d : Description) → (read_one_domain file places ≡ Ok d) ↔ ((read file places ≡ Ok d) × (agree_before d.kind d ≡ true))
  unfolding read_by
  accepted-before file d = (
    λ e. (to e (lines-moved file), H.accepted-known head_one places (λ d. one_agreed d ≡ true) (head-says one_agreed) file d e),
    λ h. from h.0 h.1 (lines-moved file),
  )
    where
      to : read_one_domain file places ≡ Ok d → SameOrStopped file → read file places ≡ Ok d
      to e (inl same) = sym (read_is places file) ∙ sym same ∙ e
      to e (inr k) = absurd (no-refused _ _ d (sym k.refused ∙ e))

      from : read file places ≡ Ok d → agree_before d.kind d ≡ true → SameOrStopped file → read_one_domain file places ≡ Ok d
      from e one (inl same) = same ∙ read_is places file ∙ e
      from e one (inr k) =
          let rest = sym (goes-on _ _ _ k) ∙ read_is places file ∙ e in
          let differs = H.from-head head_fault places (λ d. one_agreed d ≡ false) _ _ k.state k.left d rest k.marked.at_head (one-fails (describe k.state) k.marked.marks.cube k.marked.marks.differ) in
          absurd (no_true (sym one ∙ differs))

  -- so a file that is accepted and was not is of a 3D table whose domains differ, with all bounds whole
  pub newly-accepted : (file : List ℕ) (d : Description) → read file places ≡ Ok d → (read_one_domain file places ≡ Ok d → ⊥)
      → (d.kind ≡ ThreeD) × (one_domain d ≡ false) × (every_colour whole_bounds d ≡ true)
  unfolding head_agreed head_fault given_fault domain_fault
  newly-accepted file d e not-before = by (agree_before d.kind d) refl
    where
      now : agreed d ≡ true
      now = H.accepted-known head_fault places (λ d. agreed d ≡ true) (head-says agreed) file d (read_is places file ∙ e)

      by : (b : Bool) → agree_before d.kind d ≡ b → (d.kind ≡ ThreeD) × (one_domain d ≡ false) × (every_colour whole_bounds d ≡ true)
      by true one = absurd (not-before ((accepted-before file d).1 (e, one)))
      by false several = let (cube, differ, so) = agree-kinds d d.kind _ refl several in (cube, differ, sym so ∙ now)

-- ---- the same of the calls, by their promises

module _ {file : List ℕ} {table table' : List ℤ} {r : Read} (h : Reads file table r table') where
  pub reads-differ : (n : ℕ) → ((read_number r ≡ 12) × (read_line r ≡ n)) ↔ DifferAt false file (length table) n
  reads-differ n = numbers-differ (length table) file n h.number h.line

  pub reads-widened : ((r ≡ read_one_domain file (length table)) × (table' ≡ table_after file table (read_one_domain file (length table)))) ⊎ Widened file (length table)
  reads-widened =
      let now = reads-is h in
      ⊎_elim (λ same. inl (now.0 ∙ same, now.1 ∙ ap (table_after file table) same)) inr (read-widened (length table) file)

-- check is reading with room for every table
module _ {file : List ℕ} {r : Read} (h : Checks file r) where
  pub checks-differ : (n : ℕ) → ((read_number r ≡ 12) × (read_line r ≡ n)) ↔ DifferAt false file place_limit n
  unfolding check
  checks-differ n = numbers-differ place_limit file n h.number h.line

  pub checks-widened : (r ≡ read_one_domain file place_limit) ⊎ Widened file place_limit
  unfolding check
  checks-widened = ⊎_elim (λ same. inl (checks-is h ∙ same)) inr (read-widened place_limit file)
