-- A refusal is that of the first line that does not pass, or of the end, and has its number.
use Prim.Native.Nat.{ℕ, suc, ◌+◌}
use mathlib.Core.Path.{◌≡◌, refl, sym, ap, ◌∙◌}
use mathlib.Core.Bool.{Bool, true, false, cond}
use mathlib.Core.List.{List, [], ◌∷◌, ◌++◌}
use native.Mathlib.Omega.{arith}
use lib.Dec.{eqb}
use lib.ListN.{length}
use Rattle.rules.specs.Reading.Lines.{lines_of, newlines, on_first}
use Rattle.rules.specs.Reading.Grammar.{Line, Lines}
use Rattle.rules.specs.Reading.Judge.{Fault, Verdict, State, add, end_fault, go, judge, refuse, start}
use Rattle.rules.specs.Reading.{finish, onward, read, read_lines}
use Rattle.rules.specs.declared.Item.{Item}
use Rattle.rules.specs.declared.Refusal.{Refusal}
use Rattle.rules.proofs.Reading.Order.{Admitted, final}
use Rattle.rules.proofs.Reading.Walk.{Found, Passed, let-pass, passes, same-refusal}
use Rattle.rules.proofs.Reading.OneLine.{find, found}
use Rattle.std.specs.Prelude.{None, Option, Some}
use Rattle.rules.specs.Results.{refused_on}

-- where a line begins that stands after others, the first of which begins at p
abbrev pub beginning : ℕ → List (List ℕ) → ℕ
beginning p [] = p
beginning p (l ∷ ls) = beginning (p + length l + 1) ls

-- all lines before it keep the rules and are admitted, and the judge refuses this one; or all do, and the end is refused
pub data Stopped (places p n : ℕ) (st : State) (ls : List (List ℕ)) (r : Refusal) (m : ℕ) : Type 0 where
  at-line : (before : List (List ℕ)) (l : List ℕ) (rest : List (List ℕ)) (is : List Item) → ls ≡ before ++ (l ∷ rest) → m ≡ n + length before + 1
      → Lines p before is → Admitted places st is → judge places (final st is) (beginning p before) l ≡ refuse r → Stopped places p n st ls r m
  at-end : (is : List Item) → m ≡ n + length ls → Lines p ls is → Admitted places st is → end_fault places (final st is) ≡ Some r → Stopped places p n st ls r m

pub stopped : (places p n : ℕ) (st : State) (ls : List (List ℕ)) (r : Refusal) (m : ℕ) → read_lines places p n st ls ≡ refused_on r m → Stopped places p n st ls r m
unfolding read_lines
stopped places p n st [] r m h = split (end_fault places st) refl h
  where
    split : (f : Fault) → end_fault places st ≡ f → finish n st f ≡ refused_on r m → Stopped places p n st [] r m
    split None e g = let z : ◌≡◌ {A = ℕ} 0 1 = cc in absurd (omega arith)
    split (Some x) e g =
        let (a, b) = same-refusal g in
        at-end [] (omega (arith, b)) tt tt (e ∙ ap {B = Option Refusal} Some a)
stopped places p n st (l ∷ ls) r m h = split (judge places st p l) refl h (λ st'. stopped places (p + length l + 1) (suc n) st' ls r m)
  where
    split : (j : Verdict) → judge places st p l ≡ j → onward (λ st'. read_lines places (p + length l + 1) (suc n) st' ls) (suc n) j ≡ refused_on r m
        → ((st' : State) → read_lines places (p + length l + 1) (suc n) st' ls ≡ refused_on r m → Stopped places (p + length l + 1) (suc n) st' ls r m)
        → Stopped places p n st (l ∷ ls) r m
    split (refuse x) e g ih =
        let (a, b) = same-refusal g in
        at-line [] l ls [] refl (omega (arith, b)) tt tt (e ∙ ap refuse a)
    split (go st') e g ih = onto (ih (add st a.item) (rw a.state at g))
      where
        a : Passed places st p l st'
        a = passes places st p l st' e

        k : Line p l a.item
        k = find p l a.item a.bytes-pass a.content

        f : Found p l a.item
        f = found p l a.item k

        onto : Stopped places (p + length l + 1) (suc n) (add st a.item) ls r m → Stopped places p n st (l ∷ ls) r m
        onto (at-line before v rest is x y z w u) =
            at-line (l ∷ before) v rest (a.item ∷ is) (ap (λ (vs : List (List ℕ)). l ∷ vs) x) (omega arith) (k, z) (rw f.form at a.placed, w) u
        onto (at-end is y z w u) = at-end (a.item ∷ is) (omega arith) (k, z) (rw f.form at a.placed, w) u

-- the first refused line decides
pub refused-first : (file : List ℕ) (places : ℕ) (r : Refusal) (m : ℕ) → read file places ≡ refused_on r m → Stopped places 0 0 start (lines_of file) r m
unfolding read
refused-first file places r m h = stopped places 0 0 start (lines_of file) r m h

-- ---- and back: the refusal of such a line, or of the end, is the answer

module _ (places : ℕ) (r : Refusal) where
  line-stops : (p n : ℕ) (st : State) (before : List (List ℕ)) (l : List ℕ) (rest : List (List ℕ)) (is : List Item)
      → Lines p before is → Admitted places st is → judge places (final st is) (beginning p before) l ≡ refuse r
      → read_lines places p n st (before ++ (l ∷ rest)) ≡ refused_on r (n + length before + 1)
  unfolding read_lines
  line-stops p n st [] l rest [] k a e = rw e (ap (refused_on r) (omega arith))
  line-stops p n st [] l rest (i ∷ is) k a e = absurd k
  line-stops p n st (v ∷ before) l rest [] k a e = absurd k
  line-stops p n st (v ∷ before) l rest (i ∷ is) k a e =
      rw (let-pass places st p v i (found p v i k.0) a.0)
      (line-stops (p + length v + 1) (suc n) (add st i) before l rest is k.1 a.1 e ∙ ap (refused_on r) (omega arith))

  end-stops : (p n : ℕ) (st : State) (ls : List (List ℕ)) (is : List Item)
      → Lines p ls is → Admitted places st is → end_fault places (final st is) ≡ Some r → read_lines places p n st ls ≡ refused_on r (n + length ls)
  unfolding read_lines
  end-stops p n st [] [] k a e = rw e (ap (refused_on r) (omega arith))
  end-stops p n st [] (i ∷ is) k a e = absurd k
  end-stops p n st (l ∷ ls) [] k a e = absurd k
  end-stops p n st (l ∷ ls) (i ∷ is) k a e =
      rw (let-pass places st p l i (found p l i k.0) a.0)
      (end-stops (p + length l + 1) (suc n) (add st i) ls is k.1 a.1 e ∙ ap (refused_on r) (omega arith))

-- the first refused line decides the answer: its refusal and its number
pub first-refused : (file : List ℕ) (places : ℕ) (r : Refusal) (m : ℕ) → Stopped places 0 0 start (lines_of file) r m → read file places ≡ refused_on r m
unfolding read
first-refused file places r m (at-line before l rest is e n k a u) =
    ap (read_lines places 0 0 start) e ∙ line-stops places r 0 0 start before l rest is k a u ∙ ap (refused_on r) (sym n)
first-refused file places r m (at-end is n k a u) = end-stops places r 0 0 start (lines_of file) is k a u ∙ ap (refused_on r) (sym n)

-- the end of the file is on line 1 plus all newlines
pub lines-count : (s : List ℕ) → length (lines_of s) ≡ 1 + newlines s
unfolding lines_of on_first newlines
lines-count [] = refl
lines-count (b ∷ rest) = split (eqb b 10) (lines_of rest) (lines-count rest)
  where
    split : (t : Bool) (ls : List (List ℕ)) → length ls ≡ 1 + newlines rest → length (cond t ([] ∷ ls) (on_first b ls)) ≡ 1 + cond t (1 + newlines rest) (newlines rest)
    split true ls e = omega arith
    split false [] e = absurd (omega arith)
    split false (l ∷ ls) e = e
