-- Reading by its parts: with those of the rules it is reading. Lines that pass lead on, and each says an item that the state takes in.
use Prim.Native.Nat.{ℕ, suc, ◌+◌, ◌≤◌}
use mathlib.Core.Path.{◌≡◌, refl, sym, ap, ap₂, subst, ◌∙◌}
use mathlib.Core.List.{List, [], ◌∷◌, ◌++◌}
use native.Mathlib.Omega.{arith}
use lib.ListN.{length}
use Rattle.rules.specs.Reading.{finish, onward, read, read_lines}
use Rattle.rules.specs.Reading.Lines.{lines_of}
use Rattle.rules.specs.Reading.Grammar.{Line}
use Rattle.rules.specs.Reading.Contents.{content_of, form_of}
use Rattle.rules.specs.Reading.Judge.{Fault, State, Verdict, add, byte_fault, describe, end_fault, go, head_fault, judge, order_fault, refuse, start, take_in, unless}
use Rattle.rules.specs.Answers.{read_line}
use Rattle.rules.specs.declared.Form.{Form}
use Rattle.rules.specs.declared.Form.TheVariants.{Idle, Keyed, Data, Neither}
use Rattle.rules.specs.declared.Item.{Item}
use Rattle.rules.specs.declared.Refusal.{Refusal}
use Rattle.rules.proofs.Reading.OneLine.{find, found}
use Rattle.rules.proofs.Reading.Order.{form_for}
use Rattle.rules.proofs.Reading.Refusals.{beginning}
use Rattle.rules.proofs.Reading.Walk.{no-refused, taken, unless-go}
use Rattle.signature.specs.Before.{Judges, end_by, judge_by, judges_by, line_after, order_by, read_by, read_lines_by}
use Rattle.signature.specs.Order.{Leads, Reached}
use Rattle.std.specs.Prelude.{None, Some}
use Rattle.rules.specs.Results.{refused_on}

-- ---- lines, by any judge

line-after : (n : ℕ) (ls : List (List ℕ)) → n ≤ line_after n ls
line-after n [] = omega arith
line-after n (l ∷ ls) = omega arith

module _ (by : Judges) where
  -- lines that pass leave those after them
  pub led : (p n : ℕ) (st st' : State) (ls left : List (List ℕ)) → Leads by.line p st ls st'
      → read_lines_by by p n st (ls ++ left) ≡ read_lines_by by (beginning p ls) (n + length ls) st' left
  unfolding read_lines_by
  led p n st st' [] left e = ap₂ (λ (m : ℕ) (s : State). read_lines_by by p m s left) (omega arith) (sym e)
  led p n st st' (l ∷ ls) left (next, e, more) =
      rw e
      (led (p + length l + 1) (suc n) next st' ls left more
      ∙ ap (λ (m : ℕ). read_lines_by by (beginning p (l ∷ ls)) m st' left) (omega arith))

  -- a refusal after n lines is on none of them
  pub no-sooner : (p n : ℕ) (st : State) (ls : List (List ℕ)) (r : Refusal) (m : ℕ) → read_lines_by by p n st ls ≡ refused_on r m → line_after n ls ≤ m
  unfolding read_lines_by
  no-sooner p n st [] r m e = split (by.end st) e
    where
      split : (f : Fault) → finish n st f ≡ refused_on r m → n ≤ m
      split None g = absurd (no-refused r m (describe st) (sym g))
      split (Some s) g = omega (arith, ap read_line g)
  no-sooner p n st (l ∷ ls) r m e = split (by.line st p l) e (λ st'. no-sooner (p + length l + 1) (suc n) st' ls r m)
    where
      split : (j : Verdict) → onward (λ st'. read_lines_by by (p + length l + 1) (suc n) st' ls) (suc n) j ≡ refused_on r m
          → ((st' : State) → read_lines_by by (p + length l + 1) (suc n) st' ls ≡ refused_on r m → line_after (suc n) ls ≤ m) → suc n ≤ m
      split (go st') g next = omega (arith, next st' g, line-after (suc n) ls)
      split (refuse s) g next = omega (arith, ap read_line g)

-- ---- with the parts of the rules it is reading

module _ (places : ℕ) where
  order_is : (st : State) (f : Form) → order_by head_fault places st f ≡ order_fault places st f
  unfolding order_by order_fault
  order_is st Idle = refl
  order_is st (Keyed k) = refl
  order_is st Data = refl
  order_is st Neither = refl

  judge-is : judge_by head_fault content_of places ≡ judge places
  unfolding judge_by judge
  judge-is = λ i st p l. unless (byte_fault l) (unless (order_is st (form_of l) i) (take_in st (content_of p l)))

  end_is : (st : State) → end_by head_fault places st ≡ end_fault places st
  unfolding end_by end_fault
  end_is st = refl

  lines_are : (p n : ℕ) (st : State) (ls : List (List ℕ)) → read_lines_by (judges_by head_fault content_of places) p n st ls ≡ read_lines places p n st ls
  unfolding read_lines_by read_lines
  lines_are p n st [] = ap (finish n st) (end_is st)
  lines_are p n st (l ∷ ls) = λ i. onward (λ st'. lines_are (p + length l + 1) (suc n) st' ls i) (suc n) (judge-is i st p l)

  pub read_is : (file : List ℕ) → read_by head_fault content_of file places ≡ read file places
  unfolding read_by read
  read_is file = lines_are 0 0 start (lines_of file)

  -- lines lead to a state by the rules as by their parts
  pub leads-reached : (p : ℕ) (st : State) (ls : List (List ℕ)) (st' : State) → Leads (judge_by head_fault content_of places) p st ls st' → Reached places p st ls st'
  leads-reached p st ls st' h = subst (λ (judged : State → ℕ → List ℕ → Verdict). Leads judged p st ls st') judge-is h

  pub reached-leads : (p : ℕ) (st : State) (ls : List (List ℕ)) (st' : State) → Reached places p st ls st' → Leads (judge_by head_fault content_of places) p st ls st'
  reached-leads p st ls st' h = subst (λ (judged : State → ℕ → List ℕ → Verdict). Leads judged p st ls st') (sym judge-is) h

-- ---- a line that passes, whatever is asked of the head

module _ (head : ℕ → State → Fault) (places : ℕ) where
  pub record PassedBy (st : State) (p : ℕ) (l : List ℕ) (st' : State) : Type 0 where
    pub item : Item
    pub line : Line p l item
    pub form : form_of l ≡ form_for item
    pub placed : order_by head places st (form_of l) ≡ None
    pub state : st' ≡ add st item

  pub passes-by : (st : State) (p : ℕ) (l : List ℕ) (st' : State) → judge_by head content_of places st p l ≡ go st' → PassedBy st p l st'
  unfolding judge_by
  passes-by st p l st' h =
      let a = unless-go _ _ _ h in
      let b = unless-go _ _ _ a.1 in
      let c = taken st (content_of p l) st' b.1 in
      let k : Line p l c.0 = find p l c.0 a.0 c.1 in
      record { item = c.0; line = k; form = (found p l c.0 k).form; placed = b.0; state = c.2 }
