-- The order of the lines: what the judge admits, item by item, is what the property says of all items.
use Prim.Native.Nat.{ℕ, ◌+◌, ◌≤◌, ◌<◌}
use mathlib.Core.Path.{◌≡◌, refl, sym, ap, ◌∙◌}
use mathlib.Core.Bool.{Bool, true, false, cond, not}
use mathlib.Core.List.{List, [], ◌∷◌}
use native.Mathlib.Omega.{arith}
use borrow.Author.Tests.{ltb-true, lt-ltb, eqb-true, eqb-false}
use lib.Dec.{eqb}
use lib.ListN.{length}
use Rattle.rules.specs.Descriptions.{description, highest, lowest, no_title, rows}
use Rattle.rules.specs.Reading.Items.{lower_in, row_in, size_in, title_in, upper_in}
use Rattle.rules.specs.Reading.Grammar.{AtMostOne, BothOrNeither, KeywordsFirst, NoKeyword, gather, is_keyword, is_row, put}
use Rattle.rules.specs.Reading.Judge.{State, add, counted, describe, domain_fault, given, given_fault, head_fault, newer, no_size, given_or, order_fault, repeats, together}
use Rattle.rules.specs.declared.Form.{Form}
use Rattle.rules.specs.declared.Form.TheVariants.{Idle, Keyed, Data}
use Rattle.rules.specs.declared.Item.{Item}
use Rattle.rules.specs.declared.Item.TheVariants.{Nothing, OfTitle, OfLower, OfUpper, OfSize, OfRow}
use Rattle.rules.specs.declared.Keyword.{Keyword}
use Rattle.rules.specs.declared.Keyword.TheVariants.{ATitle, ALower, AnUpper, ASize}
use Rattle.rules.specs.declared.Description.{Description}
use Rattle.rules.specs.declared.Title.{Title}
use Rattle.rules.specs.declared.Bounds.{Bounds}
use Rattle.rules.specs.declared.Size.{Size}
use Rattle.rules.specs.declared.Row.{Row}
use Rattle.rules.proofs.Reading.Sorts.{title-item, lower-item, upper-item, size-item}
use Rattle.rules.proofs.Tests.{no-some, no_true, need-none, none-need, first-none, none_first}
use Rattle.std.specs.Prelude.{None, Option, Some}

-- the form of a line that gives an item
abbrev pub form_for : Item → Form
form_for Nothing = Idle
form_for (OfTitle t) = Keyed ATitle
form_for (OfLower b) = Keyed ALower
form_for (OfUpper b) = Keyed AnUpper
form_for (OfSize s) = Keyed (ASize s.kind)
form_for (OfRow r) = Data

abbrev pub Admits : ℕ → State → Item → Type 0
Admits places st i = order_fault places st (form_for i) ≡ None

abbrev pub Admitted : ℕ → State → List Item → Type 0
Admitted places st [] = Unit
Admitted places st (i ∷ is) = Admits places st i × Admitted places (add st i) is

abbrev pub final : State → List Item → State
final st [] = st
final st (i ∷ is) = final (add st i) is

-- ---- at most once, of one sort of item and the state's field for it

abbrev pub Once : {A : Type 0} → Option A → List A → Option A → Type 0
Once s [] r = r ≡ s
Once s (a ∷ xs) r = (s ≡ None) × Once (Some a) xs r

pub given-once : {A : Type 0} (default : A) (xs : List A) (o : Option A) → Once None xs o → AtMostOne xs default (given_or default o)
given-once default [] o h = rw h
given-once default (a ∷ []) o h = rw h.1
given-once default (a ∷ b ∷ more) o h = absurd (no-some a h.1.0)

pub once-given : {A : Type 0} (default : A) (xs : List A) (x : A) → AtMostOne xs default x → (o : Option A) × Once None xs o × (x ≡ given_or default o)
once-given default [] x h = (None, refl, h)
once-given default (a ∷ []) x h = (Some a, (refl, refl), h)
once-given default (a ∷ b ∷ more) x h = absurd h

not-given : {A : Type 0} (o : Option A) → not (given o) ≡ true → o ≡ None
not-given None h = refl
not-given (Some a) h = absurd (no_true (sym h))

-- one that was given is the one
once-some : {A : Type 0} (a : A) (xs : List A) (o : Option A) → Once (Some a) xs o → o ≡ Some a
once-some a [] o h = h
once-some a (b ∷ xs) o h = absurd (no-some a h.0)

-- of two sorts both are there or neither, in the fields as among the items
pub fields-items : {A B : Type 0} (xs : List A) (ys : List B) (o : Option A) (u : Option B) → Once None xs o → Once None ys u → together o u ≡ true → BothOrNeither xs ys
fields-items [] [] o u h k t = tt
fields-items [] (b ∷ ys) o u h k t = no_true (sym (rw (h, once-some b ys u k.1) at t))
fields-items (a ∷ xs) [] o u h k t = no_true (sym (rw (once-some a xs o h.1, k) at t))
fields-items (a ∷ xs) (b ∷ ys) o u h k t = tt

pub items-fields : {A B : Type 0} (xs : List A) (ys : List B) (o : Option A) (u : Option B) → Once None xs o → Once None ys u → BothOrNeither xs ys → together o u ≡ true
items-fields [] [] o u h k t = rw (h, k)
items-fields [] (b ∷ ys) o u h k t = absurd t
items-fields (a ∷ xs) [] o u h k t = absurd t
items-fields (a ∷ xs) (b ∷ ys) o u h k t = rw (once-some a xs o h.1, once-some b ys u k.1)

-- a sort of keyword line: how its items are picked and made, its keyword, and the state's field for it
record Sort (A : Type 0) : Type 0 where
  pick : Item → Option A
  make : A → Item
  key : A → Keyword
  slot : State → Option A
  item : (i : Item) (a : A) → pick i ≡ Some a → i ≡ make a
  form : (a : A) → form_for (make a) ≡ Keyed (key a)
  keyword : (a : A) → is_keyword (make a) ≡ true
  adds : (st : State) (i : Item) → slot (add st i) ≡ newer (pick i) (slot st)
  repeated : (a : A) (st : State) → repeats (key a) st ≡ given (slot st)

titles : Sort Title
unfolding add repeats
titles = record { pick = title_in; make = OfTitle; key = λ a. ATitle; slot = λ st. st.title; item = title-item; form = λ a. refl; keyword = λ a. refl; adds = λ st i. refl; repeated = λ a st. refl }

lowest-bounds : Sort Bounds
unfolding add repeats
lowest-bounds = record { pick = lower_in; make = OfLower; key = λ a. ALower; slot = λ st. st.lower; item = lower-item; form = λ a. refl; keyword = λ a. refl; adds = λ st i. refl; repeated = λ a st. refl }

highest-bounds : Sort Bounds
unfolding add repeats
highest-bounds = record { pick = upper_in; make = OfUpper; key = λ a. AnUpper; slot = λ st. st.upper; item = upper-item; form = λ a. refl; keyword = λ a. refl; adds = λ st i. refl; repeated = λ a st. refl }

sizes : Sort Size
unfolding add repeats
sizes = record { pick = size_in; make = OfSize; key = λ a. ASize a.kind; slot = λ st. st.size; item = size-item; form = λ a. refl; keyword = λ a. refl; adds = λ st i. refl; repeated = λ a st. refl }

module _ {A : Type 0} (S : Sort A) where
  -- an item of the sort is admitted only where there was none
  once : (places : ℕ) (st : State) (i : Item) (a : A) → Admits places st i → S.pick i ≡ Some a → S.slot st ≡ None
  unfolding order_fault
  once places st i a h e =
      let g : order_fault places st (Keyed (S.key a)) ≡ None = rw (S.item i a e, S.form a) at h in
      not-given (S.slot st) (rw (S.repeated a st) at (need-none _ _ _ (need-none _ _ _ g).1).0)

  -- an item that is no keyword's is none of the sort
  no-keyword : (i : Item) → is_keyword i ≡ false → S.pick i ≡ None
  no-keyword i k = split (S.pick i) refl
    where
      split : (o : Option A) → S.pick i ≡ o → o ≡ None
      split None e = refl
      split (Some a) e = absurd (no_true (sym (S.keyword a) ∙ ap is_keyword (sym (S.item i a e)) ∙ k))

  filled : (places : ℕ) (st : State) (is : List Item) → Admitted places st is → Once (S.slot st) (gather S.pick is) (S.slot (final st is))
  unfolding gather
  filled places st [] h = refl
  filled places st (i ∷ is) h = split (S.pick i) refl (rw (S.adds st i) at (filled places (add st i) is h.1))
    where
      split : (o : Option A) → S.pick i ≡ o → Once (newer (S.pick i) (S.slot st)) (gather S.pick is) (S.slot (final st (i ∷ is)))
          → Once (S.slot st) (put o (gather S.pick is)) (S.slot (final st (i ∷ is)))
      split None e r = rw e at r
      split (Some a) e r = (once places st i a h.0 e, rw e at r)

  -- an item taken in leaves what the rest must give
  passed : (st : State) (i : Item) (is : List Item) (r : Option A) → Once (S.slot st) (gather S.pick (i ∷ is)) r → Once (S.slot (add st i)) (gather S.pick is) r
  unfolding gather
  passed st i is r h = rw (S.adds st i) (split (S.pick i) h)
    where
      split : (o : Option A) → Once (S.slot st) (put o (gather S.pick is)) r → Once (newer o (S.slot st)) (gather S.pick is) r
      split None g = g
      split (Some a) g = g.1

  open-slot : (st : State) (i : Item) (is : List Item) (r : Option A) (a : A) → Once (S.slot st) (gather S.pick (i ∷ is)) r → S.pick i ≡ Some a → S.slot st ≡ None
  unfolding gather
  open-slot st i is r a h e = (rw e at h).0

  -- with no keyword left the field is what it was
  settled : (st : State) (is : List Item) (r : Option A) → NoKeyword is → Once (S.slot st) (gather S.pick is) r → r ≡ S.slot st
  unfolding gather
  settled st [] r k h = h
  settled st (i ∷ is) r k h = settled st is r k.1 (rw (no-keyword i k.0) at h)

-- ---- keywords before data

keyword-before-rows : (places : ℕ) (st : State) (i : Item) → Admits places st i → is_keyword i ≡ true → st.rows ≡ 0
unfolding order_fault
keyword-before-rows places st Nothing h k = absurd (no_true (sym k))
keyword-before-rows places st (OfTitle t) h k = eqb-true st.rows 0 (need-none _ _ _ h).0
keyword-before-rows places st (OfLower b) h k = eqb-true st.rows 0 (need-none _ _ _ h).0
keyword-before-rows places st (OfUpper b) h k = eqb-true st.rows 0 (need-none _ _ _ h).0
keyword-before-rows places st (OfSize s) h k = eqb-true st.rows 0 (need-none _ _ _ h).0
keyword-before-rows places st (OfRow r) h k = absurd (no_true (sym k))

admits-keywords : (places : ℕ) (st : State) (i : Item) → Admits places st i → 0 < st.rows → is_keyword i ≡ false
admits-keywords places st i h p = split (is_keyword i) refl
  where
    split : (t : Bool) → is_keyword i ≡ t → is_keyword i ≡ false
    split true e = absurd (omega (arith, keyword-before-rows places st i h e))
    split false e = e

-- data lines are counted
rows-add : (st : State) (i : Item) → (add st i).rows ≡ st.rows + length (put (row_in i) [])
unfolding add
rows-add st i = split (row_in i)
  where
    split : (o : Option Row) → counted o st.rows ≡ st.rows + length (put o [])
    split None = omega arith
    split (Some r) = omega arith

length-put : (o : Option Row) (xs : List Row) → length (put o xs) ≡ length (put o []) + length xs
length-put None xs = omega arith
length-put (Some a) xs = omega arith

pub rows-final : (st : State) (is : List Item) → (final st is).rows ≡ st.rows + length (gather row_in is)
unfolding gather
rows-final st [] = omega arith
rows-final st (i ∷ is) = omega (arith, rows-final (add st i) is, rows-add st i, length-put (row_in i) (gather row_in is))

row-there : (i : Item) → is_row i ≡ true → length (put (row_in i) []) ≡ 1
row-there Nothing h = absurd (no_true (sym h))
row-there (OfTitle t) h = absurd (no_true (sym h))
row-there (OfLower b) h = absurd (no_true (sym h))
row-there (OfUpper b) h = absurd (no_true (sym h))
row-there (OfSize s) h = absurd (no_true (sym h))
row-there (OfRow r) h = refl

pub no-keyword-after : (places : ℕ) (st : State) (is : List Item) → Admitted places st is → 0 < st.rows → NoKeyword is
no-keyword-after places st [] h p = tt
no-keyword-after places st (i ∷ is) h p = (admits-keywords places st i h.0 p, no-keyword-after places (add st i) is h.1 (omega (arith, rows-add st i)))

pub keywords-first : (places : ℕ) (st : State) (is : List Item) → Admitted places st is → KeywordsFirst is
keywords-first places st [] h = tt
keywords-first places st (i ∷ is) h =
    (λ r. no-keyword-after places (add st i) is h.1 (omega (arith, rows-add st i, row-there i r)), keywords-first places (add st i) is h.1)

-- ---- 9, 19, 10 to 14

-- where there was a row, 9 to 13 and 19 were passed, and there are no more rows than the description has
pub record HeadOk (places : ℕ) (st : State) : Type 0 where
  pub sized : given st.size ≡ true
  pub whole : together st.lower st.upper ≡ true
  pub sound : domain_fault places (describe st) ≡ None

pub record Inv (places : ℕ) (st : State) : Type 0 where
  pub head : 0 < st.rows → HeadOk places st
  pub count : st.rows ≤ rows (describe st)

pub head_ok : (places : ℕ) (st : State) → head_fault places st ≡ None → (0 < st.rows → HeadOk places st) → HeadOk places st
unfolding head_fault given_fault
head_ok places st h k = split (eqb st.rows 0) refl h
  where
    split : (t : Bool) → eqb st.rows 0 ≡ t → cond t (given_fault places st) None ≡ None → HeadOk places st
    split true e g =
        let (sized, rest) = need-none _ _ _ g in
        let (whole, sound) = need-none _ _ _ rest in
        record { sized = sized; whole = whole; sound = sound }
    split false e g = k (omega (arith, eqb-false st.rows 0 e))

pub ok-head : (places : ℕ) (st : State) → HeadOk places st → head_fault places st ≡ None
unfolding head_fault given_fault
ok-head places st h = split (eqb st.rows 0)
  where
    split : (t : Bool) → cond t (given_fault places st) None ≡ None
    split true = none-need _ _ _ h.sized (none-need _ _ _ h.whole h.sound)
    split false = refl

-- a line that is no row, and came before any
before-rows : (places : ℕ) (st : State) (i : Item) → Admits places st i → is_keyword i ≡ true → Inv places (add st i)
before-rows places st i h k =
    let z : st.rows ≡ 0 = keyword-before-rows places st i h k in
    let y : (add st i).rows ≡ 0 = rows-add st i ∙ rw (z, no_row i k) in
    record { head = λ p. absurd (omega arith); count = omega arith }
  where
    no_row : (i : Item) → is_keyword i ≡ true → length (put (row_in i) []) ≡ 0
    no_row Nothing h = refl
    no_row (OfTitle t) h = refl
    no_row (OfLower b) h = refl
    no_row (OfUpper b) h = refl
    no_row (OfSize s) h = refl
    no_row (OfRow r) h = absurd (no_true (sym h))

inv-add : (places : ℕ) (st : State) (i : Item) → Admits places st i → Inv places st → Inv places (add st i)
unfolding add order_fault describe
inv-add places st Nothing h v = v
inv-add places st (OfTitle t) h v = before-rows places st (OfTitle t) h refl
inv-add places st (OfLower b) h v = before-rows places st (OfLower b) h refl
inv-add places st (OfUpper b) h v = before-rows places st (OfUpper b) h refl
inv-add places st (OfSize s) h v = before-rows places st (OfSize s) h refl
inv-add places st (OfRow r) h v =
    let k : HeadOk places st = head_ok places st (first-none _ _ h).0 v.head in
    let q : st.rows < rows (describe st) = ltb-true _ _ (need-none _ _ _ (first-none _ _ h).1).0 in
    record { head = λ p. record { sized = k.sized; whole = k.whole; sound = k.sound }; count = omega arith }

pub inv-final : (places : ℕ) (st : State) (is : List Item) → Admitted places st is → Inv places st → Inv places (final st is)
inv-final places st [] h v = v
inv-final places st (i ∷ is) h v = inv-final places (add st i) is h.1 (inv-add places st i h.0 v)

-- ---- all that the judge admits, and what the end asks

-- what the items say, from a state on: what each field is to be, and as many rows as the description has
pub record Due (places : ℕ) (st : State) (is : List Item) (t : Option Title) (lo up : Option Bounds) (s : Option Size) : Type 0 where
  pub late : 0 < st.rows → NoKeyword is
  pub order : KeywordsFirst is
  pub title : Once st.title (gather title_in is) t
  pub lower : Once st.lower (gather lower_in is) lo
  pub upper : Once st.upper (gather upper_in is) up
  pub size : Once st.size (gather size_in is) s

abbrev pub told : Option Title → Option Bounds → Option Bounds → Option Size → Description
told t lo up s = description (given_or no_title t) (given_or lowest lo) (given_or highest up) (given_or no_size s)

pub admitted-due : (places : ℕ) (st : State) (is : List Item) → Admitted places st is
    → Due places st is (final st is).title (final st is).lower (final st is).upper (final st is).size
unfolding titles lowest-bounds highest-bounds sizes
admitted-due places st is h = record {
  late = no-keyword-after places st is h;
  order = keywords-first places st is h;
  title = filled titles places st is h;
  lower = filled lowest-bounds places st is h;
  upper = filled highest-bounds places st is h;
  size = filled sizes places st is h;
}

module _ (places : ℕ) (t : Option Title) (lo up : Option Bounds) (s : Option Size)
    (sized : given s ≡ true) (whole : together lo up ≡ true) (sound : domain_fault places (told t lo up s) ≡ None) where
  due-next : (st : State) (i : Item) (is : List Item) → Due places st (i ∷ is) t lo up s → Due places (add st i) is t lo up s
  unfolding titles lowest-bounds highest-bounds sizes
  due-next st i is h = record {
    late = λ p. later (is_row i) refl p;
    order = h.order.1;
    title = passed titles st i is t h.title;
    lower = passed lowest-bounds st i is lo h.lower;
    upper = passed highest-bounds st i is up h.upper;
    size = passed sizes st i is s h.size;
  }
    where
      same_rows : (i : Item) → is_row i ≡ false → length (put (row_in i) []) ≡ 0
      same_rows Nothing e = refl
      same_rows (OfTitle t) e = refl
      same_rows (OfLower b) e = refl
      same_rows (OfUpper b) e = refl
      same_rows (OfSize s) e = refl
      same_rows (OfRow r) e = absurd (no_true e)

      later : (b : Bool) → is_row i ≡ b → 0 < (add st i).rows → NoKeyword is
      later true e p = h.order.0 e
      later false e p = (h.late (omega (arith, rows-add st i, same_rows i e))).1

  -- a state at which no keyword is left describes all, and passes 9 to 13 and 19
  due-described : (st : State) (is : List Item) → NoKeyword is → Due places st is t lo up s → (describe st ≡ told t lo up s) × HeadOk places st
  unfolding describe titles lowest-bounds highest-bounds sizes
  due-described st is k h =
      let a : t ≡ st.title = settled titles st is t k h.title in
      let b : lo ≡ st.lower = settled lowest-bounds st is lo k h.lower in
      let c : up ≡ st.upper = settled highest-bounds st is up k h.upper in
      let d : s ≡ st.size = settled sizes st is s k h.size in
      let same : describe st ≡ told t lo up s = rw (a, b, c, d) in
      (same, record { sized = rw (sym d) sized; whole = rw (sym b, sym c) whole; sound = rw same sound })

  not_late : (st : State) (i : Item) (is : List Item) → Due places st (i ∷ is) t lo up s → is_keyword i ≡ true → eqb st.rows 0 ≡ true
  not_late st i is h k = split (eqb st.rows 0) refl
    where
      split : (b : Bool) → eqb st.rows 0 ≡ b → b ≡ true
      split true e = refl
      split false e = absurd (no_true (sym k ∙ (h.late (omega (arith, eqb-false st.rows 0 e))).0))

  due-admits : (st : State) (i : Item) (is : List Item) → Due places st (i ∷ is) t lo up s
      → st.rows + length (gather row_in (i ∷ is)) ≡ rows (told t lo up s) → Admits places st i
  unfolding order_fault repeats gather titles lowest-bounds highest-bounds sizes
  due-admits st Nothing is h n = refl
  due-admits st (OfTitle x) is h n =
      none-need _ _ _ (not_late st (OfTitle x) is h refl) (none-need _ _ _ (ap (λ o. not (given o)) (open-slot titles st (OfTitle x) is t x h.title refl)) refl)
  due-admits st (OfLower x) is h n =
      none-need _ _ _ (not_late st (OfLower x) is h refl) (none-need _ _ _ (ap (λ o. not (given o)) (open-slot lowest-bounds st (OfLower x) is lo x h.lower refl)) refl)
  due-admits st (OfUpper x) is h n =
      none-need _ _ _ (not_late st (OfUpper x) is h refl) (none-need _ _ _ (ap (λ o. not (given o)) (open-slot highest-bounds st (OfUpper x) is up x h.upper refl)) refl)
  due-admits st (OfSize x) is h n =
      none-need _ _ _ (not_late st (OfSize x) is h refl) (none-need _ _ _ (ap (λ o. not (given o)) (open-slot sizes st (OfSize x) is s x h.size refl)) refl)
  due-admits st (OfRow x) is h n =
      let k = due-described st (OfRow x ∷ is) (refl, h.order.0 refl) h in
      none_first _ _
      (ok-head places st k.1)
      (none-need _ _ _ (lt-ltb st.rows (rows (describe st)) (rw k.0 (omega arith))) refl)

  pub due-admitted : (st : State) (is : List Item) → Due places st is t lo up s
      → st.rows + length (gather row_in is) ≡ rows (told t lo up s) → Admitted places st is
  unfolding gather
  due-admitted st [] h n = tt
  due-admitted st (i ∷ is) h n =
      (due-admits st i is h n, due-admitted (add st i) is (due-next st i is h) (omega (arith, rows-add st i, length-put (row_in i) (gather row_in is))))

  pub due-final : (st : State) (is : List Item) → Due places st is t lo up s → (describe (final st is) ≡ told t lo up s) × HeadOk places (final st is)
  due-final st [] h = due-described st [] tt h
  due-final st (i ∷ is) h = due-final (add st i) is (due-next st i is h)
