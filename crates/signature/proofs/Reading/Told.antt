-- What a state was told, by the sorts of the lines that led to it: what a sort of line gives is given exactly where one is among them. After data, none by a keyword
-- passes.
use Prim.Native.Nat.{ℕ, suc, ◌+◌}
use mathlib.Core.Path.{◌≡◌, refl, sym, ap, ◌∙◌}
use mathlib.Core.Logic.{◌⊎◌, inl, inr}
use mathlib.Core.Bool.{Bool, true, false, ◌||◌, or_assoc, or_comm, or-false, or-true}
use mathlib.Core.List.{List, [], ◌∷◌, ◌++◌}
use native.Mathlib.Omega.{arith}
use borrow.Author.Tests.{eqb-true, lt-ltb, ltb-true}
use lib.Dec.{ltb}
use lib.ListN.{length}
use Rattle.rules.specs.Reading.{onward}
use Rattle.rules.specs.Reading.Contents.{content_of, form_of}
use Rattle.rules.specs.Reading.Judge.{Fault, State, Verdict, add, given, go, order_fault, refuse, start, together}
use Rattle.rules.specs.declared.Description.{Description}
use Rattle.rules.specs.declared.Form.{Form}
use Rattle.rules.specs.declared.Form.TheVariants.{Idle, Keyed, Data, Neither}
use Rattle.rules.specs.declared.Item.{Item}
use Rattle.rules.specs.declared.Item.TheVariants.{Nothing, OfLower, OfRow, OfSize, OfTitle, OfUpper}
use Rattle.rules.proofs.Tests.{need-none, no_true, none_or}
use Rattle.rules.proofs.Reading.Order.{form_for}
use Rattle.rules.proofs.Reading.Walk.{no-refused}
use Rattle.signature.specs.Before.{judge_by, judges_by, order_by, read_lines_by}
use Rattle.signature.specs.HalfDomains.{HalfDomain, lower_alone, lower_line, size_line, upper_alone, upper_line}
use Rattle.signature.specs.Heads.{AtHead, among, data_line}
use Rattle.signature.specs.Order.{Leads}
use Rattle.signature.proofs.Reading.Parts.{passes-by}
use Rattle.std.specs.Prelude.{None, Ok, Option, Some}

-- ---- two lines together

-- one is there, and the other is not
abbrev OneOfTwo : Bool → Bool → Type 0
OneOfTwo a b = ((a ≡ true) × (b ≡ false)) ⊎ ((b ≡ true) × (a ≡ false))

apart : {A B : Type 0} (o : Option A) (u : Option B) → together o u ≡ false → OneOfTwo (given o) (given u)
apart None None e = absurd (no_true e)
apart None (Some b) e = inr (refl, refl)
apart (Some a) None e = inl (refl, refl)
apart (Some a) (Some b) e = absurd (no_true e)

not-together : {A B : Type 0} (o : Option A) (u : Option B) → OneOfTwo (given o) (given u) → together o u ≡ false
not-together None None (inl (p, q)) = absurd (no_true (sym p))
not-together None None (inr (p, q)) = absurd (no_true (sym p))
not-together None (Some b) h = refl
not-together (Some a) None h = refl
not-together (Some a) (Some b) (inl (p, q)) = absurd (no_true q)
not-together (Some a) (Some b) (inr (p, q)) = absurd (no_true q)

-- ---- what a state was told, by the sorts of the lines that led to it

-- an item of the sort tells it, and no other does
abbrev Tells : (Form → Bool) → (State → Bool) → Type 0
Tells sort told = (st : State) (i : Item) → told (add st i) ≡ sort (form_for i) || told st

lower-tells : Tells lower_line (λ st. given st.lower)
unfolding add lower_line
lower-tells st Nothing = refl
lower-tells st (OfTitle t) = refl
lower-tells st (OfLower b) = refl
lower-tells st (OfUpper b) = refl
lower-tells st (OfSize s) = refl
lower-tells st (OfRow r) = refl

upper-tells : Tells upper_line (λ st. given st.upper)
unfolding add upper_line
upper-tells st Nothing = refl
upper-tells st (OfTitle t) = refl
upper-tells st (OfLower b) = refl
upper-tells st (OfUpper b) = refl
upper-tells st (OfSize s) = refl
upper-tells st (OfRow r) = refl

size-tells : Tells size_line (λ st. given st.size)
unfolding add size_line
size-tells st Nothing = refl
size-tells st (OfTitle t) = refl
size-tells st (OfLower b) = refl
size-tells st (OfUpper b) = refl
size-tells st (OfSize s) = refl
size-tells st (OfRow r) = refl

row-tells : Tells data_line (λ st. ltb 0 st.rows)
unfolding add data_line
row-tells st Nothing = refl
row-tells st (OfTitle t) = refl
row-tells st (OfLower b) = refl
row-tells st (OfUpper b) = refl
row-tells st (OfSize s) = refl
row-tells st (OfRow r) = lt-ltb 0 (st.rows + 1) (omega arith)

pub among-append : (sort : Form → Bool) (ls more : List (List ℕ)) → among sort (ls ++ more) ≡ among sort ls || among sort more
unfolding among
among-append sort [] more = refl
among-append sort (l ∷ ls) more = ap (λ (b : Bool). sort (form_of l) || b) (among-append sort ls more) ∙ sym (or_assoc (sort (form_of l)) (among sort ls) (among sort more))

module _ (head : ℕ → State → Fault) (places : ℕ) where
  module _ (sort : Form → Bool) (told : State → Bool) (tells : Tells sort told) where
    line-told : (st : State) (p : ℕ) (l : List ℕ) (st' : State) → judge_by head content_of places st p l ≡ go st' → told st' ≡ sort (form_of l) || told st
    line-told st p l st' e =
        let a = passes-by head places st p l st' e in
        ap told a.state ∙ tells st a.item ∙ ap (λ (f : Form). sort f || told st) (sym a.form)

    lines-told : (p : ℕ) (st : State) (ls : List (List ℕ)) (st' : State) → Leads (judge_by head content_of places) p st ls st' → told st' ≡ among sort ls || told st
    unfolding among
    lines-told p st [] st' e = ap told e
    lines-told p st (l ∷ ls) st' (next, e, more) =
        lines-told (p + length l + 1) next ls st' more
        ∙ ap (λ (b : Bool). among sort ls || b) (line-told st p l next e)
        ∙ sym (or_assoc (among sort ls) (sort (form_of l)) (told st))
        ∙ ap (λ (b : Bool). b || told st) (or_comm (among sort ls) (sort (form_of l)))

    -- from the start on
    told-so : (ls : List (List ℕ)) (st : State) → Leads (judge_by head content_of places) 0 start ls st → told start ≡ false → told st ≡ among sort ls
    told-so ls st h e = lines-told 0 start ls st h ∙ ap (λ (b : Bool). among sort ls || b) e ∙ or-false (among sort ls)

  lower-told : (ls : List (List ℕ)) (st : State) → Leads (judge_by head content_of places) 0 start ls st → given st.lower ≡ among lower_line ls
  lower-told ls st h = told-so lower_line (λ st. given st.lower) lower-tells ls st h refl

  upper-told : (ls : List (List ℕ)) (st : State) → Leads (judge_by head content_of places) 0 start ls st → given st.upper ≡ among upper_line ls
  upper-told ls st h = told-so upper_line (λ st. given st.upper) upper-tells ls st h refl

  pub size-told : (ls : List (List ℕ)) (st : State) → Leads (judge_by head content_of places) 0 start ls st → given st.size ≡ among size_line ls
  size-told ls st h = told-so size_line (λ st. given st.size) size-tells ls st h refl

  pub rows_told : (ls : List (List ℕ)) (st : State) → Leads (judge_by head content_of places) 0 start ls st → ltb 0 st.rows ≡ among data_line ls
  rows_told ls st h = told-so data_line (λ st. ltb 0 st.rows) row-tells ls st h refl

  -- the two lines of the domain, in the state as among the lines
  module _ (ls : List (List ℕ)) (st : State) (h : Leads (judge_by head content_of places) 0 start ls st) where
    pub half-lines : together st.lower st.upper ≡ false → HalfDomain ls
    half-lines e = by (apart st.lower st.upper e)
      where
        by : OneOfTwo (given st.lower) (given st.upper) → HalfDomain ls
        by (inl (p, q)) = lower_alone (sym (lower-told ls st h) ∙ p) (sym (upper-told ls st h) ∙ q)
        by (inr (p, q)) = upper_alone (sym (upper-told ls st h) ∙ p) (sym (lower-told ls st h) ∙ q)

    pub lines-half : HalfDomain ls → together st.lower st.upper ≡ false
    lines-half (lower_alone p q) = not-together st.lower st.upper (inl (lower-told ls st h ∙ p, upper-told ls st h ∙ q))
    lines-half (upper_alone p q) = not-together st.lower st.upper (inr (upper-told ls st h ∙ p, lower-told ls st h ∙ q))

  -- after a row no keyword passes: of a sort that keywords alone have, an accepted file has no line there
  module _ (sort : Form → Bool) (idle : sort Idle ≡ false) (rowed : sort Data ≡ false) (neither : sort Neither ≡ false) where
    keyword-late : (st : State) (f : Form) → order_by head places st f ≡ None → ltb 0 st.rows ≡ true → sort f ≡ false
    unfolding order_by order_fault
    keyword-late st Idle h r = idle
    keyword-late st (Keyed k) h r = absurd (omega (arith, ltb-true 0 st.rows r, eqb-true st.rows 0 (need-none _ _ _ h).0))
    keyword-late st Data h r = rowed
    keyword-late st Neither h r = neither

    -- after the first row, or from the first data line on
    pub none-later : (p n : ℕ) (st : State) (ls : List (List ℕ)) (d : Description) → read_lines_by (judges_by head content_of places) p n st ls ≡ Ok d
        → (ltb 0 st.rows ≡ true) ⊎ AtHead ls → among sort ls ≡ false
    unfolding read_lines_by among data_line
    none-later p n st [] d h after = refl
    none-later p n st (l ∷ ls) d h after = by (judge_by head content_of places st p l) refl h (λ st'. none-later (p + length l + 1) (suc n) st' ls d)
      where
        rows : (st' : State) → judge_by head content_of places st p l ≡ go st' → ltb 0 st'.rows ≡ data_line (form_of l) || ltb 0 st.rows
        rows = line-told data_line (λ st. ltb 0 st.rows) row-tells st p l

        here : (st' : State) → judge_by head content_of places st p l ≡ go st' → (ltb 0 st.rows ≡ true) ⊎ AtHead (l ∷ ls) → (sort (form_of l) ≡ false) × (ltb 0 st'.rows ≡ true)
        here st' e (inl r) =
            (keyword-late st (form_of l) (passes-by head places st p l st' e).placed r, rows st' e ∙ ap (λ (b : Bool). data_line (form_of l) || b) r ∙ or-true (data_line (form_of l)))
        here st' e (inr at) = (ap sort at.1 ∙ rowed, rows st' e ∙ ap (λ (f : Form). data_line f || ltb 0 st.rows) at.1)

        by : (j : Verdict) → judge_by head content_of places st p l ≡ j
            → onward (λ st'. read_lines_by (judges_by head content_of places) (p + length l + 1) (suc n) st' ls) (suc n) j ≡ Ok d
            → ((st' : State) → read_lines_by (judges_by head content_of places) (p + length l + 1) (suc n) st' ls ≡ Ok d → (ltb 0 st'.rows ≡ true) ⊎ AtHead ls → among sort ls ≡ false)
            → sort (form_of l) || among sort ls ≡ false
        by (go st') e g next = let (other, row) = here st' e after in none_or _ _ other (next st' g (inl row))
        by (refuse s) e g next = absurd (no-refused s (suc n) d g)
