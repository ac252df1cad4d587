-- Reading answers 0 to 19, and 13 only where the table is shorter than the greatest table: so check, which has room for every table, never answers 13.
use Prim.Native.Nat.{ℕ, suc, ◌+◌, ◌≤◌, ◌<◌}
use mathlib.Core.Path.{◌≡◌, refl, sym, subst, ◌∙◌}
use mathlib.Core.Bool.{Bool, true, false, not, ◌&&◌}
use mathlib.Core.List.{List, [], ◌∷◌}
use native.Mathlib.Omega.{arith}
use borrow.Author.Tests.{leb-true, eqb-false, not-true}
use lib.Dec.{eqb, leb, ltb}
use lib.IntN.{ℤ}
use lib.ListN.{length}
use Rattle.rules.specs.Units.{bound_limit, bound_places, in_range, place_limit, sample_limit, sample_places}
use Rattle.rules.specs.Descriptions.{agree, every_colour, narrow, ordered, roomy, rows}
use Rattle.rules.specs.Reading.Lines.{line_limit, after, blank, every, in_title, in_word, lines_of, permitted, quote, words_of}
use Rattle.rules.specs.Reading.Numerals.{digits, spell}
use Rattle.rules.specs.Reading.Contents.{bounds_of, closes, content_by, content_of, form_of, parameters, quoted, samples_on, size_of, three_of, title_of, valued, values}
use Rattle.rules.specs.Reading.Judge.{Fault, Verdict, State, byte_fault, describe, domain_fault, first, given, given_fault, go, head_fault, need, order_fault, refuse, repeats, start, take_in, together, unless}
use Rattle.rules.specs.Reading.{check, finish, onward, read}
use Rattle.rules.specs.Answers.{read_number, refusal_number}
use Rattle.rules.specs.Promises.{Checks, Reads}
use Rattle.rules.specs.declared.Bounds.{Bounds}
use Rattle.rules.specs.declared.Description.{Description}
use Rattle.rules.specs.declared.Form.{Form}
use Rattle.rules.specs.declared.Form.TheVariants.{Idle, Keyed, Data, Neither}
use Rattle.rules.specs.declared.Item.{Item}
use Rattle.rules.specs.declared.Item.TheVariants.{OfLower, OfUpper}
use Rattle.rules.specs.declared.Keyword.TheVariants.{ATitle, ALower, AnUpper, ASize}
use Rattle.rules.specs.declared.Kind.{Kind}
use Rattle.rules.specs.declared.Refusal.{Refusal}
use Rattle.rules.specs.declared.Refusal.TheVariants.{LineTooLong, ByteNotPermitted, NeitherDataNorKeyword, KeywordAfterData, KeywordRepeated, ParametersWrong, SizeOutOfRange, DomainNumberWrong, NoSize, HalfADomain, LowerNotBelowUpper, DomainTooWide, DomainsDiffer, TooLittleRoom, TooManyRows, NotThreeNumbers, SampleBeyond, SampleTooFine, TooFewRows}
use Rattle.rules.specs.declared.Three.{Three}
use Rattle.rules.proofs.Tests.{and_both}
use Rattle.signature.proofs.Either.{either}
use Rattle.signature.specs.Before.{end_by, judge_by, judges_by, order_by, read_by, read_lines_by}
use Rattle.signature.proofs.Reading.Parts.{read_is}
use Rattle.signature.proofs.Reading.Room.{Bounded, line-bounded, no_room, start-bounded}
use Rattle.std.specs.Prelude.{Err, None, Ok, Option, Some}
use Rattle.rules.specs.declared.NumberFault.TheVariants.{Beyond, Finer, Malformed}
use Rattle.rules.specs.Results.{Content, Number, Read}

-- 1 to 18 but for 12 and 13
abbrev pub plain : Refusal → Bool
plain r = leb (refusal_number r) 18 && (not (eqb (refusal_number r) 12) && not (eqb (refusal_number r) 13))

-- what is said of refusals, of all that can hold one
module _ (Low : Refusal → Type 0) where
  abbrev pub LowFault : Fault → Type 0
  LowFault None = Unit
  LowFault (Some r) = Low r

  abbrev LowContent : Content → Type 0
  LowContent (Ok i) = Unit
  LowContent (Err r) = Low r

  abbrev LowVerdict : Verdict → Type 0
  LowVerdict (go st) = Unit
  LowVerdict (refuse r) = Low r

  abbrev pub LowAnswer : Read → Type 0
  LowAnswer (Ok d) = Unit
  LowAnswer (Err x) = Low x.reason

  pub need-low : (t : Bool) (r : Refusal) (f : Fault) → (t ≡ false → Low r) → LowFault f → LowFault (need t r f)
  unfolding need
  need-low true r f a b = b
  need-low false r f a b = a refl

  first-low : (f g : Fault) → LowFault f → LowFault g → LowFault (first f g)
  unfolding first
  first-low None g a b = b
  first-low (Some r) g a b = a

  unless-low : (f : Fault) (j : Verdict) → LowFault f → LowVerdict j → LowVerdict (unless f j)
  unfolding unless
  unless-low None j a b = b
  unless-low (Some r) j a b = a

  taken-low : (st : State) (c : Content) → LowContent c → LowVerdict (take_in st c)
  unfolding take_in
  taken-low st (Ok i) h = tt
  taken-low st (Err r) h = h

  -- where it holds of these
  module _ (other : (r : Refusal) → plain r ≡ true → Low r) where
    -- 10 to 13
    pub domain-low : (places : ℕ) (d : Description) → (agree d.kind d ≡ false → Low DomainsDiffer) → (roomy places d ≡ false → Low TooLittleRoom)
        → LowFault (domain_fault places d)
    unfolding domain_fault refusal_number
    domain-low places d differ short =
        need-low (every_colour ordered d) LowerNotBelowUpper _ (λ _. other LowerNotBelowUpper refl)
        (need-low (every_colour narrow d) DomainTooWide _ (λ _. other DomainTooWide refl)
        (need-low (agree d.kind d) DomainsDiffer _ differ (need-low (roomy places d) TooLittleRoom None short tt)))

    -- 1 and 2
    byte_low : (l : List ℕ) → LowFault (byte_fault l)
    unfolding byte_fault refusal_number
    byte_low l =
        need-low (leb (length l) line_limit) LineTooLong _ (λ _. other LineTooLong refl)
        (need-low (every permitted l) ByteNotPermitted None (λ _. other ByteNotPermitted refl) tt)

    -- three numbers
    module _ (unformed beyond finer : Refusal) (a : Low unformed) (b : Low beyond) (c : Low finer) where
      valued-low : (n : Number) (next : ℤ → Content) → ((x : ℤ) → LowContent (next x)) → LowContent (valued unformed beyond finer n next)
      valued-low (Ok v) next h = h v
      valued-low (Err Malformed) next h = a
      valued-low (Err Beyond) next h = b
      valued-low (Err Finer) next h = c

      values_low : (o : Option Three) (next : ℤ → ℤ → ℤ → Content) → ((x y z : ℤ) → LowContent (next x y z)) → LowContent (values unformed beyond finer o next)
      values_low None next h = a
      values_low (Some t) next h =
          valued-low t.first _ (λ x. valued-low t.second _ (λ y. valued-low t.third _ (λ z. h x y z)))

    bounds-low : (side : Bounds → Item) (ws : List (List ℕ)) → LowContent (bounds_of side ws)
    unfolding bounds_of refusal_number
    bounds-low side ws =
        let form = other ParametersWrong refl in
        let value = other DomainNumberWrong refl in
        values_low ParametersWrong DomainNumberWrong DomainNumberWrong form value value (three_of bound_places bound_limit ws) _ (λ x y z. tt)

    samples-low : (ws : List (List ℕ)) → LowContent (samples_on ws)
    unfolding samples_on refusal_number
    samples-low ws =
        values_low NotThreeNumbers SampleBeyond SampleTooFine (other NotThreeNumbers refl) (other SampleBeyond refl) (other SampleTooFine refl) (three_of sample_places sample_limit ws) _
        (λ x y z. tt)

    size_low : (k : Kind) (ws : List (List ℕ)) → LowContent (size_of k ws)
    unfolding size_of refusal_number
    size_low k [] = other ParametersWrong refl
    size_low k (w ∷ []) =
        either LowContent (digits w) _ _ (either LowContent (in_range k (spell 0 w)) _ _ tt (other SizeOutOfRange refl)) (other ParametersWrong refl)
    size_low k (w ∷ v ∷ more) = other ParametersWrong refl

    quoted-low : (end : ℕ) (x : List ℕ) → LowContent (quoted end x)
    unfolding quoted refusal_number
    quoted-low end [] = other ParametersWrong refl
    quoted-low end (b ∷ rest) = either LowContent (quote b && closes (after in_title rest)) _ _ tt (other ParametersWrong refl)

    -- 3, 6, 7, 8, 15, 16, 17
    content-low : (f : Form) (p : ℕ) (l : List ℕ) → LowContent (content_by f p l)
    unfolding content_by title_of refusal_number
    content-low Idle p l = tt
    content-low (Keyed ATitle) p l = quoted-low (p + length l) (after blank (after in_word (after blank l)))
    content-low (Keyed ALower) p l = bounds-low OfLower (parameters (words_of l))
    content-low (Keyed AnUpper) p l = bounds-low OfUpper (parameters (words_of l))
    content-low (Keyed (ASize k)) p l = size_low k (parameters (words_of l))
    content-low Data p l = samples-low (words_of l)
    content-low Neither p l = other NeitherDataNorKeyword refl

    -- where it holds of what is asked of the head, it holds of every refusal of a reading
    module _ (head : ℕ → State → Fault) (places : ℕ) (head-low : (st : State) → Bounded (describe st) → LowFault (head places st)) where
      -- 4 and 5; the head and 14
      order-low : (st : State) → Bounded (describe st) → (f : Form) → LowFault (order_by head places st f)
      unfolding order_by order_fault refusal_number
      order-low st small Idle = tt
      order-low st small (Keyed k) =
          need-low (eqb st.rows 0) KeywordAfterData _ (λ _. other KeywordAfterData refl)
          (need-low (not (repeats k st)) KeywordRepeated None (λ _. other KeywordRepeated refl) tt)
      order-low st small Data =
          first-low (head places st) _ (head-low st small) (need-low (ltb st.rows (rows (describe st))) TooManyRows None (λ _. other TooManyRows refl) tt)
      order-low st small Neither = tt

      -- the head and 18
      end_low : (st : State) → Bounded (describe st) → LowFault (end_by head places st)
      unfolding end_by refusal_number
      end_low st small =
          first-low (head places st) _ (head-low st small) (need-low (leb (rows (describe st)) st.rows) TooFewRows None (λ _. other TooFewRows refl) tt)

      judged-low : (st : State) → Bounded (describe st) → (p : ℕ) (l : List ℕ) → LowVerdict (judge_by head content_of places st p l)
      unfolding judge_by
      judged-low st small p l =
          unless-low (byte_fault l) _ (byte_low l)
          (unless-low (order_by head places st (form_of l)) _ (order-low st small (form_of l)) (taken-low st (content_of p l) (content-low (form_of l) p l)))

      lines-low : (p n : ℕ) (st : State) (ls : List (List ℕ)) → Bounded (describe st) → LowAnswer (read_lines_by (judges_by head content_of places) p n st ls)
      unfolding read_lines_by
      lines-low p n st [] small = split (end_by head places st) (end_low st small)
        where
          split : (f : Fault) → LowFault f → LowAnswer (finish n st f)
          split None h = tt
          split (Some r) h = h
      lines-low p n st (l ∷ ls) small =
          split (judge_by head content_of places st p l) refl (judged-low st small p l) (λ st'. lines-low (p + length l + 1) (suc n) st' ls)
        where
          split : (j : Verdict) → judge_by head content_of places st p l ≡ j → LowVerdict j
              → ((st' : State) → Bounded (describe st') → LowAnswer (read_lines_by (judges_by head content_of places) (p + length l + 1) (suc n) st' ls))
              → LowAnswer (onward (λ st'. read_lines_by (judges_by head content_of places) (p + length l + 1) (suc n) st' ls) (suc n) j)
          split (go st') e h next = next st' (line-bounded head places st p l st' e small)
          split (refuse r) e h next = h

      pub read_low : (file : List ℕ) → LowAnswer (read_by head content_of file places)
      unfolding read_by
      read_low file = lines-low 0 0 start (lines_of file) start-bounded

-- ---- the numbers that reading answers

-- 1 to 19, and 13 only of a table that is shorter than the greatest
abbrev Answered : ℕ → Refusal → Type 0
Answered places r = (refusal_number r ≤ 19) × (refusal_number r ≡ 13 → places < place_limit)

plain-answered : (places : ℕ) (r : Refusal) → plain r ≡ true → Answered places r
plain-answered places r e =
    let (low, others) = and_both (leb (refusal_number r) 18) _ e in
    let (not_12, not-13) = and_both (not (eqb (refusal_number r) 12)) _ others in
    (omega (arith, leb-true (refusal_number r) 18 low), λ q. absurd (eqb-false _ _ (not-true _ not-13) q))

module _ (places : ℕ) where
  -- 9, 19, 10 to 13
  head-answered : (st : State) → Bounded (describe st) → LowFault (Answered places) (head_fault places st)
  unfolding head_fault given_fault refusal_number
  head-answered st small =
      let plainly : (r : Refusal) → plain r ≡ true → Answered places r = plain-answered places in
      either (LowFault (Answered places)) (eqb st.rows 0) _ None
      (need-low (Answered places) (given st.size) NoSize _ (λ _. plainly NoSize refl)
      (need-low (Answered places) (together st.lower st.upper) HalfADomain _ (λ _. (omega arith, λ e. absurd (omega (arith, e))))
      (domain-low (Answered places) plainly places (describe st) (λ _. (omega arith, λ e. absurd (omega (arith, e)))) (λ short. (omega arith, λ _. no_room places (describe st) small short)))))
      tt

  answered : (file : List ℕ) → LowAnswer (Answered places) (read file places)
  answered file = subst (LowAnswer (Answered places)) (read_is places file) (read_low (Answered places) (plain-answered places) head_fault places head-answered file)

-- reading answers 0 to 19
pub read-number : (file : List ℕ) (places : ℕ) → read_number (read file places) ≤ 19
read-number file places = by (read file places) (answered places file)
  where
    by : (r : Read) → LowAnswer (Answered places) r → read_number r ≤ 19
    by (Ok d) h = omega arith
    by (Err x) h = h.0

-- and so does every call that keeps reading's promise
pub reads-number : {file : List ℕ} {table table' : List ℤ} {r : Read} → Reads file table r table' → read_number r ≤ 19
reads-number {file} {table} h = omega (arith, h.number, read-number file (length table))

-- 13 only of a table that is shorter than the greatest
pub read-13 : (file : List ℕ) (places : ℕ) → read_number (read file places) ≡ 13 → places < place_limit
read-13 file places e = by (read file places) (answered places file) e
  where
    by : (r : Read) → LowAnswer (Answered places) r → read_number r ≡ 13 → places < place_limit
    by (Ok d) h e = absurd (omega arith)
    by (Err x) h e = h.1 e

-- check answers 0 to 19, and never 13
pub check-number : (file : List ℕ) → (read_number (check file) ≤ 19) × (read_number (check file) ≡ 13 → ⊥)
unfolding check
check-number file = (read-number file place_limit, λ e. not-below (read-13 file place_limit e))
  where
    not-below : place_limit < place_limit → ⊥
    not-below h = omega arith

pub checks-number : {file : List ℕ} {r : Read} → Checks file r → (read_number r ≤ 19) × (read_number r ≡ 13 → ⊥)
checks-number {file} h = (omega (arith, h.number, (check-number file).0), λ e. (check-number file).1 (sym h.number ∙ e))
