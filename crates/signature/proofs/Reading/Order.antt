-- The order of reading's checks: the judge refuses a line as the first of its checks that fails does, the end likewise, and reading as the first line that
-- does not pass. Each part of the judge is shown to decide as its list of checks does.
use Prim.Native.Nat.{ℕ, ◌+◌, ◌-◌, ◌*◌, ◌/◌, ◌%◌}
use mathlib.Core.Path.{◌≡◌, refl, sym, ap, ap₂, ◌∙◌}
use mathlib.Core.Logic.Iff
use mathlib.Core.Logic.{◌↔◌, inl, inr}
use mathlib.Core.Bool.{Bool, true, false, cond, ◌&&◌}
use mathlib.Core.List.{List, [], ◌∷◌, flat_map}
use native.Mathlib.Omega.{arith}
use borrow.Author.Tests.{ltb-true, ltb-false, le-leb, lt-leb}
use lib.Dec.{eqb, leb, ltb}
use lib.IntN.{ℤ}
use lib.ListN.{length}
use Rattle.rules.specs.Units.{in_range}
use Rattle.rules.specs.Reading.Lines.{after, in_title, lines_of, quote, run, words_of}
use Rattle.rules.specs.Reading.Numerals.{Numeral, digits, over, signed, spell, under}
use Rattle.rules.specs.Reading.Numbers.{number_of, numeral_of, settle, value_of}
use Rattle.rules.specs.Reading.Grammar.{Lines}
use Rattle.rules.specs.Reading.Contents.{bounds_of, closes, content_by, content_of, form_of, formed, parameters, quoted, samples_on, size_of, sized, three_of, title_of, valued, values}
use Rattle.rules.specs.Reading.Judge.{Fault, State, add, byte_fault, domain_fault, end_fault, first, given, given_fault, go, head_fault, judge, need, order_fault, refuse, start}
use Rattle.rules.specs.Reading.{read}
use Rattle.rules.specs.Answers.{read_line, read_number, refusal_number}
use Rattle.rules.specs.Promises.{Reads}
use Rattle.rules.specs.declared.Form.{Form}
use Rattle.rules.specs.declared.Form.TheVariants.{Idle, Keyed, Data, Neither}
use Rattle.rules.specs.declared.Item.{Item}
use Rattle.rules.specs.declared.Item.TheVariants.{OfSize, OfTitle}
use Rattle.rules.specs.declared.Keyword.{Keyword}
use Rattle.rules.specs.declared.Keyword.TheVariants.{ATitle, ALower, AnUpper, ASize}
use Rattle.rules.specs.declared.Kind.{Kind}
use Rattle.rules.specs.declared.Refusal.{Refusal}
use Rattle.rules.specs.declared.Refusal.TheVariants.{NeitherDataNorKeyword, ParametersWrong, SizeOutOfRange}
use Rattle.rules.proofs.Answers.{refusal-of-number, refusalOf, refused-not-0}
use Rattle.rules.proofs.Tests.{and_both, no_true}
use Rattle.rules.proofs.Reading.Order.{Admitted, final}
use Rattle.rules.proofs.Reading.OneLine.{find, found}
use Rattle.rules.proofs.Reading.Refusals.{Stopped, at-end, at-line, first-refused, lines-count, refused-first}
use Rattle.rules.proofs.Reading.Walk.{Passed, let-pass, passes}
use Rattle.signature.proofs.Either.{either}
use Rattle.signature.specs.Order.{FailsFirst, FirstFailing, Met, Reached, byte_checks, data_checks, end_checks, fits, form_checks, head_checks, is_number, keyword_checks, known, line_checks, multiple, of_number, one_word, parameter_checks, quotes, size_checks, three_checks, three_numbers, title_formed, value_checks}
use Rattle.signature.proofs.Reading.Checks.{decided, one-after, decided-cond, decided-met, decided-first, first-assoc, first-need, fault_in, fault_of, fault-unless, fault-take-in, fault-refuse, fault-go, fault-cond}
use Rattle.std.specs.Prelude.{Err, None, Ok, Option, Some}
use Rattle.rules.specs.declared.NumberFault.TheVariants.{Beyond, Finer}
use Rattle.rules.specs.Results.{Content, Read, refused_on}

-- ---- three numbers

module _ (places limit : ℕ) where
  -- malformed is a word that is no number
  formed-number : (w : List ℕ) → formed (number_of places limit w) ≡ is_number w
  unfolding number_of settle
  formed-number w = split (numeral_of w)
    where
      split : (o : Option Numeral) → formed (value_of places limit o) ≡ given o
      split None = refl
      split (Some n) =
          either (λ x. formed x ≡ true) (ltb (limit * under n) (over places n)) _ _ refl
          (either (λ x. formed x ≡ true) (eqb (over places n % under n) 0) _ _ refl refl)

  module _ (unformed beyond finer : Refusal) where
    -- a value is within the limit, and then a multiple of the unit
    settled : (negative : Bool) (p q : ℕ) (next : ℤ → Content) (f : Fault) → ((v : ℤ) → fault_in (next v) ≡ f)
        → fault_in (valued unformed beyond finer (settle limit negative p q) next) ≡ need (leb p (limit * q)) beyond (need (eqb (p % q) 0) finer f)
    unfolding settle need
    settled negative p q next f h = split (ltb (limit * q) p) refl (eqb (p % q) 0)
      where
        split : (t : Bool) → ltb (limit * q) p ≡ t → (z : Bool)
            → fault_in (valued unformed beyond finer (cond t (Err Beyond) (cond z (Ok (signed negative (p / q))) (Err Finer))) next) ≡ need (leb p (limit * q)) beyond (need z finer f)
        split true e z = rw (lt-leb p (limit * q) (ltb-true _ _ e))
        split false e true = rw (le-leb p (limit * q) (ltb-false _ _ e)) (h _)
        split false e false = rw (le-leb p (limit * q) (ltb-false _ _ e))

    -- so of a word that is a number
    one_number : (w : List ℕ) → is_number w ≡ true → (next : ℤ → Content) (f : Fault) → ((v : ℤ) → fault_in (next v) ≡ f)
        → fault_in (valued unformed beyond finer (number_of places limit w) next) ≡ need (fits places limit w) beyond (need (multiple places w) finer f)
    unfolding number_of fits multiple
    one_number w a next f h = split (numeral_of w) a
      where
        split : (o : Option Numeral) → given o ≡ true
            → fault_in (valued unformed beyond finer (value_of places limit o) next)
            ≡ need (of_number (λ n. leb (over places n) (limit * under n)) o) beyond (need (of_number (λ n. eqb (over places n % under n) 0) o) finer f)
        split None e = absurd (no_true (sym e))
        split (Some n) e = settled n.negative (over places n) (under n) next f h

    -- three of them, from the left
    three-fault : (ws : List (List ℕ)) (next : ℤ → ℤ → ℤ → Content) → ((x y z : ℤ) → fault_in (next x y z) ≡ None)
        → fault_in (values unformed beyond finer (three_of places limit ws) next) ≡ decided (three_checks places limit unformed beyond finer ws)
    unfolding three_of three_checks three_numbers flat_map decided need
    three-fault [] next h = refl
    three-fault (a ∷ []) next h = refl
    three-fault (a ∷ b ∷ []) next h = refl
    three-fault (a ∷ b ∷ c ∷ d ∷ more) next h = refl
    three-fault (a ∷ b ∷ c ∷ []) next h =
        rw (formed-number a, formed-number b, formed-number c) (split (is_number a && (is_number b && is_number c)) refl)
      where
        split : (t : Bool) → is_number a && (is_number b && is_number c) ≡ t
            → fault_in (values unformed beyond finer (cond t (Some (record { first = number_of places limit a; second = number_of places limit b; third = number_of places limit c })) None) next)
            ≡ need t unformed (decided (flat_map (value_checks places limit beyond finer) (a ∷ b ∷ c ∷ [])))
        split false e = refl
        split true e =
            let (p, q) = and_both (is_number a) _ e in
            let (q, r) = and_both (is_number b) (is_number c) q in
            one_number a p _ _ (λ x. one_number b q _ _ (λ y. one_number c r _ _ (λ z. h x y z)))

-- ---- a keyword's parameters, and a line by its form

title-fault : (end : ℕ) (s : List ℕ) → fault_in (quoted end s) ≡ need (quotes s) ParametersWrong None
unfolding quoted quotes need
title-fault end [] = refl
title-fault end (b ∷ rest) =
    fault-cond (quote b && closes (after in_title rest))
    (Ok (OfTitle (record { there = true; place = end - length rest; length = length (run in_title rest) })))
    ParametersWrong

size-fault : (k : Kind) (ws : List (List ℕ)) → fault_in (size_of k ws) ≡ decided (size_checks k ws)
unfolding size_of size_checks one_word decided need
size-fault k [] = refl
size-fault k (w ∷ []) =
    fault-cond (digits w) (sized k (spell 0 w)) ParametersWrong
    ∙ ap (need (digits w) ParametersWrong) (fault-cond (in_range k (spell 0 w)) (Ok (OfSize (record { kind = k; n = spell 0 w }))) SizeOutOfRange)
size-fault k (w ∷ v ∷ more) = refl

parameter-fault : (k : Keyword) (p : ℕ) (l : List ℕ) → fault_in (content_by (Keyed k) p l) ≡ decided (parameter_checks k l)
unfolding content_by parameter_checks title_of title_formed bounds_of decided
parameter-fault ATitle p l = title-fault _ _
parameter-fault ALower p l = three-fault _ _ _ _ _ (parameters (words_of l)) _ (λ x y z. refl)
parameter-fault AnUpper p l = three-fault _ _ _ _ _ (parameters (words_of l)) _ (λ x y z. refl)
parameter-fault (ASize k) p l = size-fault k (parameters (words_of l))

module _ (places : ℕ) (st : State) where
  head-fault : head_fault places st ≡ decided (head_checks places st)
  unfolding head_fault given_fault domain_fault head_checks decided need
  head-fault = sym (decided-cond (eqb st.rows 0) _)

  data-fault : (p : ℕ) (l : List ℕ) → first (order_fault places st Data) (fault_in (content_by Data p l)) ≡ decided (data_checks places st l)
  unfolding order_fault content_by samples_on data_checks decided
  data-fault p l =
      first-assoc _ _ _
      ∙ one-after (head_checks places st) _ head-fault (first-need _ _ _ ∙ ap (need _ _) (three-fault _ _ _ _ _ (words_of l) _ (λ x y z. refl)))

  form-fault : (f : Form) (p : ℕ) (l : List ℕ)
      → first (order_fault places st f) (fault_in (content_by f p l)) ≡ decided ((known f, NeitherDataNorKeyword) ∷ form_checks places st f l)
  unfolding order_fault content_by form_checks keyword_checks decided need first
  form-fault Idle p l = refl
  form-fault (Keyed k) p l = one-after (keyword_checks k st) (parameter_checks k l) refl (parameter-fault k p l)
  form-fault Data p l = data-fault p l
  form-fault Neither p l = refl

  line-fault : (p : ℕ) (l : List ℕ) → fault_of (judge places st p l) ≡ decided (line_checks places st l)
  unfolding judge byte_fault line_checks byte_checks decided
  line-fault p l =
      let f = form_of l in
      fault-unless (byte_fault l) _
      ∙ one-after (byte_checks l) ((known f, NeitherDataNorKeyword) ∷ form_checks places st f l) refl
      (fault-unless (order_fault places st f) _ ∙ ap (first (order_fault places st f)) (fault-take-in st (content_of p l)) ∙ form-fault f p l)

  end-fault : end_fault places st ≡ decided (end_checks places st)
  unfolding end_fault end_checks decided
  end-fault = one-after (head_checks places st) _ head-fault refl

  -- ---- the theorems: of a line, and of the end

  -- the judge refuses a line exactly as the first of its checks that fails does
  pub line-order : (p : ℕ) (l : List ℕ) (r : Refusal) → (judge places st p l ≡ refuse r) ↔ FirstFailing r (line_checks places st l)
  line-order p l r = Iff.trans (fault-refuse (judge places st p l) r) (rw (line-fault p l) (decided-first r (line_checks places st l)))

  -- and lets it pass exactly where all are met
  pub line-passes : (p : ℕ) (l : List ℕ) → ((st' : State) × (judge places st p l ≡ go st')) ↔ Met (line_checks places st l)
  line-passes p l = Iff.trans (fault-go (judge places st p l)) (rw (line-fault p l) (decided-met (line_checks places st l)))

  pub end-order : (r : Refusal) → (end_fault places st ≡ Some r) ↔ FirstFailing r (end_checks places st)
  end-order r = rw end-fault (decided-first r (end_checks places st))

  pub end-passes : (end_fault places st ≡ None) ↔ Met (end_checks places st)
  end-passes = rw end-fault (decided-met (end_checks places st))

-- ---- of reading

-- lines that keep the rules and are admitted lead to the state that their items make
pub reached : (places p : ℕ) (st : State) (ls : List (List ℕ)) (is : List Item) → Lines p ls is → Admitted places st is → Reached places p st ls (final st is)
reached places p st [] [] k a = refl
reached places p st [] (i ∷ is) k a = absurd k
reached places p st (l ∷ ls) [] k a = absurd k
reached places p st (l ∷ ls) (i ∷ is) k a =
    (add st i, let-pass places st p l i (found p l i k.0) a.0, reached places (p + length l + 1) (add st i) ls is k.1 a.1)

-- and back: the items of lines that lead to a state
items_of : (places p : ℕ) (st : State) (ls : List (List ℕ)) (st' : State) → Reached places p st ls st'
    → (is : List Item) × Lines p ls is × Admitted places st is × (st' ≡ final st is)
items_of places p st [] st' e = ([], tt, tt, e)
items_of places p st (l ∷ ls) st' (next, e, more) =
    let a : Passed places st p l next = passes places st p l next e in
    let k = find p l a.item a.bytes-pass a.content in
    let (is, kept, admitted, so) = items_of places (p + length l + 1) (add st a.item) ls st' (rw a.state at more) in
    (a.item ∷ is, (k, kept), (rw (found p l a.item k).form at a.placed, admitted), so)

-- a refusal is its number and its line
by_number : (r : Refusal) (n : ℕ) (a : Read) → read_number a ≡ refusal_number r → read_line a ≡ n → a ≡ refused_on r n
by_number r n (Ok d) e m = absurd (refused-not-0 r (sym e))
by_number r n (Err x) e m =
    let so : ◌≡◌ {A = Fault} (Some x.reason) (Some r) = sym (refusal-of-number x.reason) ∙ ap refusalOf e ∙ refusal-of-number r in
    let p : x.reason ≡ r = cc in
    ap₂ refused_on p m

-- so whoever gives the number and line of an answer gives r's number and line n exactly where the answer is that refusal
pub numbers-so : {A : Type 0} {a : Read} (r : Refusal) (n : ℕ) → (a ≡ refused_on r n) ↔ A → {number line : ℕ} → number ≡ read_number a → line ≡ read_line a
    → ((number ≡ refusal_number r) × (line ≡ n)) ↔ A
numbers-so {a = a} r n exactly e m = (
  λ h. exactly.0 (by_number r n a (sym e ∙ h.0) (sym m ∙ h.1)),
  λ h. let so = exactly.1 h in (e ∙ ap read_number so, m ∙ ap read_line so),
)

module _ (file : List ℕ) (places : ℕ) (r : Refusal) (n : ℕ) where
  -- reading refuses with r on line n exactly where, on the first line that does not pass, the first check that fails has r
  pub read-order : (read file places ≡ refused_on r n) ↔ FailsFirst file places r n
  read-order = (λ h. to (refused-first file places r n h), λ f. first-refused file places r n (from f))
    where
      to : Stopped places 0 0 start (lines_of file) r n → FailsFirst file places r n
      to (at-line before l rest is e m k a u) = inl (record {
        before = before;
        line = l;
        rest = rest;
        lines_so = e;
        number = omega arith;
        state = final start is;
        reached = reached places 0 start before is k a;
        fails = (line-order places (final start is) _ l r).0 u;
      })
      to (at-end is m k a u) = inr (record {
        state = final start is;
        reached = reached places 0 start (lines_of file) is k a;
        number = omega (arith, lines-count file);
        fails = (end-order places (final start is) r).0 u;
      })

      from : FailsFirst file places r n → Stopped places 0 0 start (lines_of file) r n
      from (inl f) =
          let (is, kept, admitted, so) = items_of places 0 start f.before f.state f.reached in
          at-line f.before f.line f.rest is f.lines_so (omega (arith, f.number)) kept admitted
          ((line-order places (final start is) _ f.line r).1 (rw so at f.fails))
      from (inr f) =
          let (is, kept, admitted, so) = items_of places 0 start (lines_of file) f.state f.reached in
          at-end is (omega (arith, f.number, lines-count file)) kept admitted ((end-order places (final start is) r).1 (rw so at f.fails))

  -- so whoever gives reading's number and line gives r's number and line n exactly there
  pub numbers-order : {number line : ℕ} → number ≡ read_number (read file places) → line ≡ read_line (read file places)
      → ((number ≡ refusal_number r) × (line ≡ n)) ↔ FailsFirst file places r n
  numbers-order = numbers-so r n read-order

-- every reader that keeps the promise
pub reads-order : {file : List ℕ} {table table' : List ℤ} {a : Read} → Reads file table a table' → (r : Refusal) (n : ℕ)
    → ((read_number a ≡ refusal_number r) × (read_line a ≡ n)) ↔ FailsFirst file (length table) r n
reads-order {file} {table} h r n = numbers-order file (length table) r n h.number h.line
