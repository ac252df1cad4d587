-- A line's number is 1 plus the number of newlines before the line: a refusal has the number of the refused line where it stands in the file,
-- or of the file's end.
use Prim.Native.Nat.{ℕ, ◌+◌}
use mathlib.Core.Path.{◌≡◌, refl, sym, ap, ◌∙◌}
use mathlib.Core.Logic.{◌⊎◌, inl, inr}
use mathlib.Core.Bool.{Bool, true, false, cond}
use mathlib.Core.List.{List, [], ◌∷◌, ◌++◌, append_assoc}
use native.Mathlib.Omega.{arith}
use lib.Dec.{eqb}
use lib.ListN.{length, length-append}
use Rattle.rules.specs.Reading.Lines.{lines_of, newlines, on_first}
use Rattle.rules.specs.Reading.Grammar.{Lines}
use Rattle.rules.specs.Reading.Judge.{end_fault, judge, refuse, start}
use Rattle.rules.specs.Reading.{read}
use Rattle.rules.specs.Demands.{Begins, Ends}
use Rattle.rules.specs.declared.Item.{Item}
use Rattle.rules.specs.declared.Refusal.{Refusal}
use Rattle.rules.proofs.Reading.Order.{Admitted, final}
use Rattle.rules.proofs.Reading.Refusals.{Stopped, at-end, at-line, beginning, first-refused, lines-count, refused-first}
use Rattle.rules.proofs.Reading.Titles.{Cut, last, lines_cut, lines-some, more}
use Rattle.std.specs.Prelude.{Some}
use Rattle.rules.specs.Results.{refused_on}

-- ---- a line where it stands in a file

-- line l of a file, after these lines: its bytes, those before it and those after it
pub record Stands (file : List ℕ) (lines : List (List ℕ)) (l : List ℕ) : Type 0 where
  pub before : List ℕ
  pub rest : List ℕ
  pub file_so : file ≡ before ++ (l ++ rest)
  pub begins : Begins before
  pub ends : Ends rest
  pub one_line : newlines l ≡ 0
  -- the bytes before it are the lines before it, each with its newline
  pub lines_so : lines_of before ≡ lines ++ ([] ∷ [])
  pub place : (p : ℕ) → beginning p lines ≡ p + length before

-- a line has no newline
line-whole : (s l : List ℕ) (ls : List (List ℕ)) → lines_of s ≡ l ∷ ls → newlines l ≡ 0
unfolding lines_of on_first newlines
line-whole [] l ls h = let p : [] ≡ l = cc in ap newlines (sym p)
line-whole (b ∷ rest) l ls h = split (eqb b 10) refl (lines_of rest) refl h (line-whole rest)
  where
    split : (t : Bool) → eqb b 10 ≡ t → (vs : List (List ℕ)) → lines_of rest ≡ vs → cond t ([] ∷ vs) (on_first b vs) ≡ l ∷ ls
        → ((v : List ℕ) (vs : List (List ℕ)) → lines_of rest ≡ v ∷ vs → newlines v ≡ 0) → newlines l ≡ 0
    split true e vs f g ih = let p : [] ≡ l = cc in ap newlines (sym p)
    split false e [] f g ih = let p : b ∷ [] ≡ l = cc in ap newlines (sym p) ∙ rw e
    split false e (v ∷ vs) f g ih = let p : b ∷ v ≡ l = cc in ap newlines (sym p) ∙ rw e (ih v vs f)

-- a line, a newline and other lines
pub line-then : (l s : List ℕ) → newlines l ≡ 0 → lines_of (l ++ (10 ∷ s)) ≡ l ∷ lines_of s
unfolding lines_of on_first newlines
line-then [] s h = refl
line-then (b ∷ l) s h = split (eqb b 10) h (line-then l s)
  where
    split : (t : Bool) → cond t (1 + newlines l) (newlines l) ≡ 0 → (newlines l ≡ 0 → lines_of (l ++ (10 ∷ s)) ≡ l ∷ lines_of s)
        → cond t ([] ∷ lines_of (l ++ (10 ∷ s))) (on_first b (lines_of (l ++ (10 ∷ s)))) ≡ (b ∷ l) ∷ lines_of s
    split true g ih = absurd (omega arith)
    split false g ih = ap (on_first b) (ih g)

-- a line and no other
line-alone : (l : List ℕ) → newlines l ≡ 0 → lines_of (l ++ []) ≡ l ∷ []
unfolding lines_of on_first newlines
line-alone [] h = refl
line-alone (b ∷ l) h = split (eqb b 10) h (line-alone l)
  where
    split : (t : Bool) → cond t (1 + newlines l) (newlines l) ≡ 0 → (newlines l ≡ 0 → lines_of (l ++ []) ≡ l ∷ [])
        → cond t ([] ∷ lines_of (l ++ [])) (on_first b (lines_of (l ++ []))) ≡ (b ∷ l) ∷ []
    split true g ih = absurd (omega arith)
    split false g ih = ap (on_first b) (ih g)

none_left : (vs : List (List ℕ)) (l : List ℕ) (ls : List (List ℕ)) → vs ++ (l ∷ ls) ≡ [] → ⊥
none_left [] l ls e = let z : ◌≡◌ {A = ℕ} 0 1 = cc in omega arith
none_left (x ∷ vs) l ls e = let z : ◌≡◌ {A = ℕ} 0 1 = cc in omega arith

-- a line of a file stands in it
pub line-stands : (file : List ℕ) (lines : List (List ℕ)) (l : List ℕ) (ls : List (List ℕ)) → lines_of file ≡ lines ++ (l ∷ ls) → Stands file lines l
unfolding lines_of
line-stands file [] l ls h = split (lines_cut file l ls h)
  where
    first : (rest : List ℕ) → file ≡ l ++ rest → Ends rest → Stands file [] l
    first rest e z = record {
      before = [];
      rest = rest;
      file_so = e;
      begins = inl refl;
      ends = z;
      one_line = line-whole file l ls h;
      lines_so = refl;
      place = λ p. omega arith;
    }

    split : Cut file l ls → Stands file [] l
    split (last x y) = first [] y (inl refl)
    split (more s x y) = first (10 ∷ s) x (inr (s, refl))
line-stands file (v ∷ lines) l ls h = split (lines_cut file v (lines ++ (l ∷ ls)) h) (λ s. line-stands s lines l ls)
  where
    begun : (before : List ℕ) → Begins before → Begins (v ++ (10 ∷ before))
    begun before (inl e) = inr (v, ap (λ (x : List ℕ). v ++ (10 ∷ x)) e)
    begun before (inr (x, e)) = inr (v ++ (10 ∷ x), ap (λ (y : List ℕ). v ++ (10 ∷ y)) e ∙ sym (append_assoc v (10 ∷ x) (10 ∷ [])))

    split : Cut file v (lines ++ (l ∷ ls)) → ((s : List ℕ) → lines_of s ≡ lines ++ (l ∷ ls) → Stands s lines l) → Stands file (v ∷ lines) l
    split (last x y) again = absurd (none_left lines l ls x)
    split (more s x y) again = onto (again s y)
      where
        onto : Stands s lines l → Stands file (v ∷ lines) l
        onto k = record {
          before = v ++ (10 ∷ k.before);
          rest = k.rest;
          file_so = x ∙ ap (λ (z : List ℕ). v ++ (10 ∷ z)) k.file_so ∙ sym (append_assoc v (10 ∷ k.before) (l ++ k.rest));
          begins = begun k.before k.begins;
          ends = k.ends;
          one_line = k.one_line;
          lines_so = line-then v k.before (line-whole file v (lines ++ (l ∷ ls)) h) ∙ ap (λ (vs : List (List ℕ)). v ∷ vs) k.lines_so;
          place = λ p. k.place (p + length v + 1) ∙ omega (arith, length-append v (10 ∷ k.before));
        }

-- the lines of a file from a line's beginning on
lines_after : (lines : List (List ℕ)) (before s : List ℕ) → lines_of before ≡ lines ++ ([] ∷ []) → lines_of (before ++ s) ≡ lines ++ lines_of s
lines_after [] before s h = split (lines_cut before [] [] h)
  where
    split : Cut before [] [] → lines_of (before ++ s) ≡ lines_of s
    split (last x y) = ap (λ (b : List ℕ). lines_of (b ++ s)) y
    split (more s' x y) = absurd (lines-some s' y)
lines_after (v ∷ lines) before s h = split (lines_cut before v (lines ++ ([] ∷ [])) h) (λ s'. lines_after lines s' s)
  where
    split : Cut before v (lines ++ ([] ∷ [])) → ((s' : List ℕ) → lines_of s' ≡ lines ++ ([] ∷ []) → lines_of (s' ++ s) ≡ lines ++ lines_of s)
        → lines_of (before ++ s) ≡ v ∷ (lines ++ lines_of s)
    split (last x y) again = absurd (none_left lines [] [] x)
    split (more s' x y) again =
        ap (λ (b : List ℕ). lines_of (b ++ s)) x
        ∙ ap lines_of (append_assoc v (10 ∷ s') s)
        ∙ line-then v (s' ++ s) (line-whole before v (lines ++ ([] ∷ [])) h)
        ∙ ap (λ (vs : List (List ℕ)). v ∷ vs) (again s' y)

-- a line up to its end, and other lines or none
line-ends : (l rest : List ℕ) → newlines l ≡ 0 → Ends rest → (ls : List (List ℕ)) × (lines_of (l ++ rest) ≡ l ∷ ls)
line-ends l rest h (inl e) = ([], ap (λ (x : List ℕ). lines_of (l ++ x)) e ∙ line-alone l h)
line-ends l rest h (inr (s, e)) = (lines_of s, ap (λ (x : List ℕ). lines_of (l ++ x)) e ∙ line-then l s h)

-- what stands in a file as a line is one of its lines
pub stands-line : {file : List ℕ} {lines : List (List ℕ)} {l : List ℕ} → Stands file lines l → (ls : List (List ℕ)) × (lines_of file ≡ lines ++ (l ∷ ls))
stands-line {lines = lines} {l = l} k =
    let (ls, e) = line-ends l k.rest k.one_line k.ends in
    (ls, ap lines_of k.file_so ∙ lines_after lines k.before (l ++ k.rest) k.lines_so ∙ ap (λ (vs : List (List ℕ)). lines ++ vs) e)

-- and as many newlines stand before it as lines
newlines-before : {file : List ℕ} {lines : List (List ℕ)} {l : List ℕ} (k : Stands file lines l) → newlines k.before ≡ length lines
newlines-before {lines = lines} k = omega (arith, lines-count k.before, ap length k.lines_so, length-append lines ([] ∷ []))

-- ---- the number of a refusal

-- a refused line: those before it keep the rules and are admitted, the judge refuses it, and m is 1 plus the number of newlines before it
pub record RefusedLine (file : List ℕ) (places : ℕ) (r : Refusal) (m : ℕ) : Type 0 where
  pub lines : List (List ℕ)
  pub line : List ℕ
  pub stands : Stands file lines line
  pub items : List Item
  pub kept : Lines 0 lines items
  pub admitted : Admitted places start items
  pub refused : judge places (final start items) (length stands.before) line ≡ refuse r
  pub number : m ≡ 1 + newlines stands.before

-- a refused end: every line keeps the rules and is admitted, and m is 1 plus all newlines
pub record RefusedEnd (file : List ℕ) (places : ℕ) (r : Refusal) (m : ℕ) : Type 0 where
  pub items : List Item
  pub kept : Lines 0 (lines_of file) items
  pub admitted : Admitted places start items
  pub refused : end_fault places (final start items) ≡ Some r
  pub number : m ≡ 1 + newlines file

-- every refusal is of the one or of the other
pub line-of-refusal : (file : List ℕ) (places : ℕ) (r : Refusal) (m : ℕ) → read file places ≡ refused_on r m → RefusedLine file places r m ⊎ RefusedEnd file places r m
line-of-refusal file places r m h = by (refused-first file places r m h)
  where
    by : Stopped places 0 0 start (lines_of file) r m → RefusedLine file places r m ⊎ RefusedEnd file places r m
    by (at-line lines l rest is e n kept admitted refused) =
        let k : Stands file lines l = line-stands file lines l rest e in
        let place : length k.before ≡ beginning 0 lines = omega (arith, k.place 0) in
        inl (record {
          lines = lines;
          line = l;
          stands = k;
          items = is;
          kept = kept;
          admitted = admitted;
          refused = ap (λ (p : ℕ). judge places (final start is) p l) place ∙ refused;
          number = omega (arith, newlines-before k);
        })
    by (at-end is n kept admitted refused) =
        inr (record { items = is; kept = kept; admitted = admitted; refused = refused; number = omega (arith, lines-count file) })

-- and back: where a line or the end is so refused, reading answers that refusal with that number
pub refusal-of-line : (file : List ℕ) (places : ℕ) (r : Refusal) (m : ℕ) → RefusedLine file places r m ⊎ RefusedEnd file places r m → read file places ≡ refused_on r m
refusal-of-line file places r m (inl k) =
    let (ls, e) = stands-line k.stands in
    let place : beginning 0 k.lines ≡ length k.stands.before = omega (arith, k.stands.place 0) in
    first-refused file places r m
    (at-line k.lines k.line ls k.items e (omega (arith, k.number, newlines-before k.stands)) k.kept k.admitted
    (ap (λ (p : ℕ). judge places (final start k.items) p k.line) place ∙ k.refused))
refusal-of-line file places r m (inr k) =
    first-refused file places r m (at-end k.items (omega (arith, k.number, lines-count file)) k.kept k.admitted k.refused)
