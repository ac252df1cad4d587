-- What is asked of the head. Two readings that differ in it alone answer a file alike, or the first stops where the head is checked; and what is known of a
-- description there is known of what is accepted.
use Prim.Native.Nat.{ℕ, suc, ◌+◌, ◌<◌}
use mathlib.Core.Path.{◌≡◌, refl, sym, ap, ap₂, subst, ◌∙◌}
use mathlib.Core.Bool.{false}
use mathlib.Core.Logic.{◌↔◌, ◌⊎◌, inl, inr}
use mathlib.Core.List.{List, [], ◌∷◌, ◌++◌}
use native.Mathlib.Omega.{arith}
use borrow.Author.Tests.{eqb-true, le-ltb, ltb-false}
use lib.Dec.{leb, ltb}
use lib.ListN.{length}
use Rattle.rules.specs.Descriptions.{rows}
use Rattle.rules.specs.Reading.{finish, onward, read}
use Rattle.rules.specs.Reading.Lines.{lines_of}
use Rattle.rules.specs.Reading.Contents.{content_of, form_of}
use Rattle.rules.specs.Reading.Judge.{Fault, State, Verdict, add, byte_fault, describe, first, go, head_fault, need, order_fault, refuse, start, take_in, unless}
use Rattle.rules.specs.Answers.{read_line}
use Rattle.rules.specs.declared.Description.{Description}
use Rattle.rules.specs.declared.Form.{Form}
use Rattle.rules.specs.declared.Form.TheVariants.{Idle, Keyed, Data, Neither}
use Rattle.rules.specs.declared.Item.{Item}
use Rattle.rules.specs.declared.Item.TheVariants.{Nothing, OfLower, OfRow, OfSize, OfTitle, OfUpper}
use Rattle.rules.specs.declared.Refusal.{Refusal}
use Rattle.rules.specs.declared.Refusal.TheVariants.{TooFewRows, TooManyRows}
use Rattle.rules.proofs.Tests.{first-none, need-none, no_true, or-none}
use Rattle.rules.proofs.Reading.Order.{form_for}
use Rattle.rules.proofs.Reading.Refusals.{beginning}
use Rattle.rules.proofs.Reading.Walk.{no-refused}
use Rattle.signature.specs.Before.{end_by, judge_by, judges_by, line_after, order_by, read_by, read_lines_by}
use Rattle.signature.specs.Heads.{AtHead, HeadAt, among, data_line}
use Rattle.signature.specs.Order.{Leads, Reached}
use Rattle.signature.proofs.Reading.Parts.{PassedBy, led, leads-reached, passes-by, reached-leads, read_is}
use Rattle.signature.proofs.Reading.Beside.{Stops, walk-beside}
use Rattle.signature.proofs.Reading.Told.{rows_told}
use Rattle.std.specs.Prelude.{None, Ok, Some}
use Rattle.rules.specs.Results.{refused_on}

-- ---- the place where the head is checked

module _ {A : List (List ℕ) → State → Type 0} {file : List ℕ} {places n : ℕ} (h : HeadAt A file places n) where
  led-there : Leads (judge_by head_fault content_of places) 0 start h.before h.state
  led-there = reached-leads places 0 start h.before h.state h.passed

  no-rows-there : h.state.rows ≡ 0
  no-rows-there = omega (arith, ltb-false 0 h.state.rows (rows_told head_fault places h.before h.state led-there ∙ h.no_data))

  -- what follows from what holds there holds there
  pub head-map : {B : List (List ℕ) → State → Type 0}
      → ((before : List (List ℕ)) (st : State) → Leads (judge_by head_fault content_of places) 0 start before st → st.rows ≡ 0 → A before st → B before st) → HeadAt B file places n
  head-map f = record {
    before = h.before;
    left = h.left;
    lines_so = h.lines_so;
    number = h.number;
    state = h.state;
    passed = h.passed;
    no_data = h.no_data;
    at_head = h.at_head;
    holds = f h.before h.state led-there no-rows-there h.holds;
  }

-- a file has one such place
data-first : (l : List ℕ) (ls : List (List ℕ)) → form_of l ≡ Data → among data_line (l ∷ ls) ≡ false → ⊥
unfolding among data_line
data-first l ls at e = no_true (sym (ap data_line at) ∙ (or-none (data_line (form_of l)) (among data_line ls) e).0)

splits-one : (a b l m : List (List ℕ)) → a ++ l ≡ b ++ m → among data_line a ≡ false → among data_line b ≡ false → AtHead l → AtHead m → a ≡ b
unfolding among
splits-one [] [] l m e f g h k = refl
splits-one [] (y ∷ b) l m e f g h k = absurd (data-first y b (subst AtHead e h).1 g)
splits-one (x ∷ a) [] l m e f g h k = absurd (data-first x a (subst AtHead (sym e) k).1 f)
splits-one (x ∷ a) (y ∷ b) l m e f g h k =
    let p : x ≡ y = cc in
    let q : a ++ l ≡ b ++ m = cc in
    ap₂ ◌∷◌ p (splits-one a b l m q (or-none (data_line (form_of x)) (among data_line a) f).1 (or-none (data_line (form_of y)) (among data_line b) g).1 h k)

state-one : (judged : State → ℕ → List ℕ → Verdict) (p : ℕ) (st : State) (ls : List (List ℕ)) (a b : State) → Leads judged p st ls a → Leads judged p st ls b → a ≡ b
state-one judged p st [] a b e f = e ∙ sym f
state-one judged p st (l ∷ ls) a b (next, e, more) (other, f, further) =
    let so : go next ≡ go other = sym e ∙ f in
    let q : other ≡ next = cc in
    state-one judged (p + length l + 1) next ls a b more (subst (λ (s : State). Leads judged (p + length l + 1) s ls b) q further)

pub head-one : {A B : List (List ℕ) → State → Type 0} {file : List ℕ} {places m n : ℕ} (h : HeadAt A file places m) (k : HeadAt B file places n) → h.state ≡ k.state
head-one {places = places} h k =
    let same : k.before ≡ h.before = splits-one k.before h.before k.left h.left (sym k.lines_so ∙ h.lines_so) k.no_data h.no_data k.at_head h.at_head in
    state-one _ 0 start h.before h.state k.state h.passed (subst (λ (ls : List (List ℕ)). Reached places 0 start ls k.state) same k.passed)

-- ---- two readings: where the first asks what the second does not, it refuses with r, in a state that is marked

module _ (one other : ℕ → State → Fault) (places : ℕ) (r : Refusal) (Marks : State → Type 0)
    (moved : (st : State) → (one places st ≡ other places st) ⊎ ((one places st ≡ Some r) × Marks st)) where
  pub record Marked (st : State) (left : List (List ℕ)) (s : Refusal) : Type 0 where
    pub refusal-so : s ≡ r
    pub at_head : AtHead left
    pub marks : Marks st

  line-stops : (st : State) (p : ℕ) (l : List ℕ) → one places st ≡ Some r → byte_fault l ≡ None → form_of l ≡ Data → judge_by one content_of places st p l ≡ refuse r
  unfolding judge_by order_by unless first
  line-stops st p l h b f = rw (b, f, h)

  line-moved : (st : State) (p : ℕ) (l : List ℕ) (ls : List (List ℕ))
      → (judge_by one content_of places st p l ≡ judge_by other content_of places st p l) ⊎ ((s : Refusal) × (judge_by one content_of places st p l ≡ refuse s) × Marked st (l ∷ ls) s)
  unfolding judge_by order_by unless
  line-moved st p l ls = by (byte_fault l) refl (form_of l) refl (moved st)
    where
      by : (b : Fault) → byte_fault l ≡ b → (f : Form) → form_of l ≡ f → (one places st ≡ other places st) ⊎ ((one places st ≡ Some r) × Marks st)
          → (unless b (unless (order_by one places st f) (take_in st (content_of p l))) ≡ unless b (unless (order_by other places st f) (take_in st (content_of p l))))
          ⊎ ((s : Refusal) × (judge_by one content_of places st p l ≡ refuse s) × Marked st (l ∷ ls) s)
      by (Some s) e f g h = inl refl
      by None e Idle g h = inl refl
      by None e (Keyed k) g h = inl refl
      by None e Neither g h = inl refl
      by None e Data g (inl same) =
          inl (ap (λ (x : Fault). unless (first x (need (ltb st.rows (rows (describe st))) TooManyRows None)) (take_in st (content_of p l))) same)
      by None e Data g (inr (h, m)) = inr (r, line-stops st p l h e g, record { refusal-so = refl; at_head = (e, g); marks = m })

  end_moved : (st : State) → (end_by one places st ≡ end_by other places st) ⊎ ((s : Refusal) × (end_by one places st ≡ Some s) × Marked st [] s)
  unfolding end_by first
  end_moved st = by (moved st)
    where
      by : (one places st ≡ other places st) ⊎ ((one places st ≡ Some r) × Marks st)
          → (end_by one places st ≡ end_by other places st) ⊎ ((s : Refusal) × (end_by one places st ≡ Some s) × Marked st [] s)
      by (inl same) = inl (ap (λ (x : Fault). first x (need (leb (rows (describe st)) st.rows) TooFewRows None)) same)
      by (inr (h, m)) = inr (r, rw h, record { refusal-so = refl; at_head = tt; marks = m })

  abbrev pub Stopped : List ℕ → Type 0
  Stopped file = Stops (judges_by one content_of places) (judges_by other content_of places) Marked 0 0 start (lines_of file)

  abbrev pub SameOrStopped : List ℕ → Type 0
  SameOrStopped file = (read_by one content_of file places ≡ read_by other content_of file places) ⊎ Stopped file

  pub heads-moved : (file : List ℕ) → SameOrStopped file
  unfolding read_by
  heads-moved file =
      walk-beside _ _ Marked (λ st. Unit {0}) (λ st p l st' e h. tt) (λ st p l ls h. line-moved st p l ls) (λ st h. end_moved st) 0 0 start (lines_of file) tt

  module _ (file : List ℕ) (k : Stopped file) where
    abbrev pub line_of : ℕ
    line_of = line_after (0 + length k.before) k.left

    pub stopped-refused : read_by one content_of file places ≡ refused_on r line_of
    unfolding read_by
    stopped-refused = k.refused ∙ ap (λ (s : Refusal). refused_on s line_of) k.marked.refusal-so

    -- where it stops, of lines that the rules let pass
    pub stopped-at : Reached places 0 start k.before k.state → (Marks k.state → k.state.rows ≡ 0) → HeadAt (λ before st. Marks st) file places line_of
    stopped-at reached no_rows = record {
      before = k.before;
      left = k.left;
      lines_so = k.lines_so;
      number = ap (λ (m : ℕ). line_after m k.left) (omega arith);
      state = k.state;
      passed = reached;
      no_data = sym (rows_told head_fault places k.before k.state (reached-leads places 0 start k.before k.state reached))
          ∙ le-ltb 0 k.state.rows (omega (arith, no_rows k.marked.marks));
      at_head = k.marked.at_head;
      holds = k.marked.marks;
    }

-- ---- reading refuses with r exactly in marked states, if the reading that does not ask never does

module _ (other : ℕ → State → Fault) (places : ℕ) (r : Refusal) (Marks : State → Type 0)
    (moved : (st : State) → (head_fault places st ≡ other places st) ⊎ ((head_fault places st ≡ Some r) × Marks st))
    (no_rows : (st : State) → Marks st → st.rows ≡ 0)
    (refuses : (st : State) → Marks st → head_fault places st ≡ Some r)
    (never : (file : List ℕ) (n : ℕ) → read_by other content_of file places ≡ refused_on r n → ⊥) where
  abbrev MarkedAt : List ℕ → ℕ → Type 0
  MarkedAt file n = HeadAt (λ before st. Marks st) file places n

  from-marked : (file : List ℕ) (n : ℕ) (h : MarkedAt file n) → read file places ≡ refused_on r n
  unfolding read_by read_lines_by end_by first
  from-marked file n h =
      sym (read_is places file)
      ∙ ap (λ (ls : List (List ℕ)). read_lines_by (judges_by head_fault content_of places) 0 0 start ls) h.lines_so
      ∙ led (judges_by head_fault content_of places) 0 0 start h.state h.before h.left (led-there h)
      ∙ stops h.left h.at_head
      ∙ ap (λ (m : ℕ). refused_on r (line_after m h.left)) (omega arith)
      ∙ ap (refused_on r) (sym h.number)
    where
      stops : (left : List (List ℕ)) → AtHead left
          → read_lines_by (judges_by head_fault content_of places) (beginning 0 h.before) (0 + length h.before) h.state left ≡ refused_on r (line_after (0 + length h.before) left)
      stops [] at = rw (refuses h.state h.holds) refl
      stops (l ∷ ls) at = rw (line-stops head_fault other places r Marks moved h.state _ l (refuses h.state h.holds) at.0 at.1) refl

  pub refused-exactly : (file : List ℕ) (n : ℕ) → (read file places ≡ refused_on r n) ↔ MarkedAt file n
  unfolding read_by
  refused-exactly file n = (λ e. by e (heads-moved head_fault other places r Marks moved file), from-marked file n)
    where
      by : read file places ≡ refused_on r n → SameOrStopped head_fault other places r Marks moved file → MarkedAt file n
      by e (inl same) = absurd (never file n (sym same ∙ read_is places file ∙ e))
      by e (inr k) =
          subst (MarkedAt file) (ap read_line (sym k.refused ∙ read_is places file ∙ e))
          (stopped-at head_fault other places r Marks moved file k (leads-reached places 0 start k.before k.state k.led-first) (no_rows k.state))

-- ---- what is known of a description where the head is checked

module _ (head : ℕ → State → Fault) (places : ℕ) (Known : Description → Type 0) where
  record Rowed (st : State) : Type 0 where
    some-rows : 0 < st.rows
    known : Known (describe st)

  -- no line that passes after a row changes it
  rowed-add : (st : State) (i : Item) → order_by head places st (form_for i) ≡ None → Rowed st → Rowed (add st i)
  unfolding order_by order_fault add describe
  rowed-add st Nothing h k = record { some-rows = k.some-rows; known = k.known }
  rowed-add st (OfTitle t) h k = absurd (omega (arith, k.some-rows, eqb-true st.rows 0 (need-none _ _ _ h).0))
  rowed-add st (OfLower b) h k = absurd (omega (arith, k.some-rows, eqb-true st.rows 0 (need-none _ _ _ h).0))
  rowed-add st (OfUpper b) h k = absurd (omega (arith, k.some-rows, eqb-true st.rows 0 (need-none _ _ _ h).0))
  rowed-add st (OfSize s) h k = absurd (omega (arith, k.some-rows, eqb-true st.rows 0 (need-none _ _ _ h).0))
  rowed-add st (OfRow r) h k = record { some-rows = omega (arith, k.some-rows); known = k.known }

  -- nor does the first row
  row-add : (st : State) (i : Item) → form_for i ≡ Data → Known (describe st) → Rowed (add st i)
  unfolding add describe data_line
  row-add st Nothing e k = absurd (no_true (sym (ap data_line e)))
  row-add st (OfTitle t) e k = absurd (no_true (sym (ap data_line e)))
  row-add st (OfLower b) e k = absurd (no_true (sym (ap data_line e)))
  row-add st (OfUpper b) e k = absurd (no_true (sym (ap data_line e)))
  row-add st (OfSize s) e k = absurd (no_true (sym (ap data_line e)))
  row-add st (OfRow r) e k = record { some-rows = omega arith; known = k }

  abbrev Going : ℕ → ℕ → State → List (List ℕ) → Description → Type 0
  Going p n st ls d = read_lines_by (judges_by head content_of places) p n st ls ≡ Ok d

  at-end : (n : ℕ) (st : State) (f : Fault) (d : Description) → finish n st f ≡ Ok d → (f ≡ None) × (describe st ≡ d)
  at-end n st None d e = (refl, let q : describe st ≡ d = cc in q)
  at-end n st (Some s) d e = absurd (no-refused s n d e)

  at-line : (p n : ℕ) (st : State) (l : List ℕ) (ls : List (List ℕ)) (d : Description) → Going p n st (l ∷ ls) d
      → (st' : State) × PassedBy head places st p l st' × Going (p + length l + 1) (suc n) st' ls d
  unfolding read_lines_by
  at-line p n st l ls d h = by (judge_by head content_of places st p l) refl h
    where
      by : (j : Verdict) → judge_by head content_of places st p l ≡ j → onward (λ st'. read_lines_by (judges_by head content_of places) (p + length l + 1) (suc n) st' ls) (suc n) j ≡ Ok d
          → (st' : State) × PassedBy head places st p l st' × Going (p + length l + 1) (suc n) st' ls d
      by (go st') e g = (st', passes-by head places st p l st' e, g)
      by (refuse s) e g = absurd (no-refused s (suc n) d g)

  from-rows : (p n : ℕ) (st : State) (ls : List (List ℕ)) (d : Description) → Going p n st ls d → Rowed st → Known d
  unfolding read_lines_by
  from-rows p n st [] d h k = subst Known (at-end n st (end_by head places st) d h).1 k.known
  from-rows p n st (l ∷ ls) d h k =
      let (st', passed, further) = at-line p n st l ls d h in
      from-rows (p + length l + 1) (suc n) st' ls d further
      (subst Rowed (sym passed.state) (rowed-add st passed.item (subst (λ (f : Form). order_by head places st f ≡ None) passed.form passed.placed) k))

  -- from where the head is checked on
  pub from-head : (p n : ℕ) (st : State) (ls : List (List ℕ)) (d : Description) → Going p n st ls d → AtHead ls → Known (describe st) → Known d
  unfolding read_lines_by
  from-head p n st [] d h at k = subst Known (at-end n st (end_by head places st) d h).1 k
  from-head p n st (l ∷ ls) d h at k =
      let (st', passed, further) = at-line p n st l ls d h in
      from-rows (p + length l + 1) (suc n) st' ls d further (subst Rowed (sym passed.state) (row-add st passed.item (sym passed.form ∙ at.1) k))

  -- what a head that passes says of a description is known of what is accepted
  module _ (says : (st : State) → st.rows ≡ 0 → head places st ≡ None → Known (describe st)) where
    data Further (st : State) : Type 0 where
      no_rows : st.rows ≡ 0 → Further st
      rowed : Rowed st → Further st

    further-add : (st : State) (i : Item) → order_by head places st (form_for i) ≡ None → st.rows ≡ 0 → Further (add st i)
    unfolding order_by add
    further-add st Nothing h e = no_rows e
    further-add st (OfTitle t) h e = no_rows e
    further-add st (OfLower b) h e = no_rows e
    further-add st (OfUpper b) h e = no_rows e
    further-add st (OfSize s) h e = no_rows e
    further-add st (OfRow r) h e = rowed (row-add st (OfRow r) refl (says st e (first-none _ _ h).0))

    from_start : (p n : ℕ) (st : State) (ls : List (List ℕ)) (d : Description) → Going p n st ls d → st.rows ≡ 0 → Known d
    unfolding read_lines_by end_by
    from_start p n st [] d h e = let (passed, so) = at-end n st (end_by head places st) d h in subst Known so (says st e (first-none _ _ passed).0)
    from_start p n st (l ∷ ls) d h e =
        let (st', passed, further) = at-line p n st l ls d h in
        by st' further
        (subst Further (sym passed.state) (further-add st passed.item (subst (λ (f : Form). order_by head places st f ≡ None) passed.form passed.placed) e))
        (λ e. from_start (p + length l + 1) (suc n) st' ls d further e)
      where
        by : (st' : State) → Going (p + length l + 1) (suc n) st' ls d → Further st' → (st'.rows ≡ 0 → Known d) → Known d
        by st' further (no_rows e) next = next e
        by st' further (rowed k) next = from-rows (p + length l + 1) (suc n) st' ls d further k

    pub accepted-known : (file : List ℕ) (d : Description) → read_by head content_of file places ≡ Ok d → Known d
    unfolding read_by
    accepted-known file d h = from_start 0 0 start (lines_of file) d h refl
