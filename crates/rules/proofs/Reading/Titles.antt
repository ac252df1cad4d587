-- The title's place and length are those of the file's own bytes.
use Prim.Native.Nat.{ℕ, ◌+◌, ◌<◌}
use mathlib.Core.Path.{◌≡◌, refl, sym, ap, subst, ◌∙◌}
use mathlib.Core.Logic.{◌⊎◌, inl, inr}
use mathlib.Core.Bool.{Bool, true, false, cond}
use mathlib.Core.List.{List, [], ◌∷◌, ◌++◌, append_assoc}
use native.Mathlib.Omega.{arith}
use borrow.Author.Tests.{eqb-true}
use lib.Dec.{eqb}
use lib.ListN.{length, take, drop, length-append}
use lib.Seq.{take_at, drop_at}
use lib.IntN.{ℤ}
use Rattle.rules.specs.Descriptions.{no_title}
use Rattle.rules.specs.Reading.Lines.{lines_of, on_first}
use Rattle.rules.specs.Reading.Items.{named, title_in}
use Rattle.rules.specs.Reading.Grammar.{AtMostOne, Keeps, Line, Lines, TitleLine, gather, put}
use Rattle.rules.specs.Demands.{Begins, Ends, Titled}
use Rattle.rules.specs.declared.Item.{Item}
use Rattle.rules.specs.declared.Item.TheVariants.{OfTitle}
use Rattle.rules.specs.declared.Keyword.TheVariants.{ATitle}
use Rattle.rules.specs.declared.Title.{Title}
use Rattle.rules.specs.declared.Description.{Description}
use Rattle.rules.proofs.Reading.Sorts.{title-item}
use Rattle.rules.proofs.Tests.{no_true}
use Rattle.std.specs.Prelude.{None, Option, Some}

-- a file is its first line, and then a newline and the other lines, or nothing
pub data Cut (s l : List ℕ) (ls : List (List ℕ)) : Type 0 where
  last : ls ≡ [] → s ≡ l ++ [] → Cut s l ls
  more : (s' : List ℕ) → s ≡ l ++ (10 ∷ s') → lines_of s' ≡ ls → Cut s l ls

no_lines : (l : List ℕ) (ls : List (List ℕ)) → l ∷ ls ≡ [] → ⊥
no_lines l ls e = let z : ◌≡◌ {A = ℕ} 0 1 = cc in omega arith

pub lines-some : (s : List ℕ) → lines_of s ≡ [] → ⊥
unfolding lines_of on_first
lines-some [] h = no_lines _ _ h
lines-some (b ∷ rest) h = split (eqb b 10) (lines_of rest) h
  where
    split : (t : Bool) (ls : List (List ℕ)) → cond t ([] ∷ ls) (on_first b ls) ≡ [] → ⊥
    split true ls g = no_lines _ _ g
    split false [] g = no_lines _ _ g
    split false (l ∷ ls) g = no_lines _ _ g

pub lines_cut : (s l : List ℕ) (ls : List (List ℕ)) → lines_of s ≡ l ∷ ls → Cut s l ls
unfolding lines_of on_first
lines_cut [] l ls h = let p : [] ≡ l = cc in let q : [] ≡ ls = cc in last (sym q) (ap (λ (x : List ℕ). x ++ []) p)
lines_cut (b ∷ rest) l ls h = split (eqb b 10) refl (lines_of rest) refl h (lines_cut rest)
  where
    split : (t : Bool) → eqb b 10 ≡ t → (vs : List (List ℕ)) → lines_of rest ≡ vs → cond t ([] ∷ vs) (on_first b vs) ≡ l ∷ ls
        → ((l : List ℕ) (ls : List (List ℕ)) → lines_of rest ≡ l ∷ ls → Cut rest l ls) → Cut (b ∷ rest) l ls
    split true e vs f g ih =
        let p : [] ≡ l = cc in
        let q : vs ≡ ls = cc in
        more rest (ap (λ (c : ℕ). c ∷ rest) (eqb-true b 10 e) ∙ ap (λ (x : List ℕ). x ++ (10 ∷ rest)) p) (f ∙ q)
    split false e [] f g ih = absurd (lines-some rest f)
    split false e (v ∷ vs) f g ih = onto (ih v vs f)
      where
        p : b ∷ v ≡ l
        p = cc

        q : vs ≡ ls
        q = cc

        onto : Cut rest v vs → Cut (b ∷ rest) l ls
        onto (last x y) = last (sym q ∙ x) (ap (λ (r : List ℕ). b ∷ r) y ∙ ap (λ (r : List ℕ). r ++ []) p)
        onto (more s' x y) = more s' (ap (λ (r : List ℕ). b ∷ r) x ∙ ap (λ (r : List ℕ). r ++ (10 ∷ s')) p) (y ∙ q)

-- where a title stands, and that its line keeps the rules by itself
pub record OnItsLine (file : List ℕ) (t : Title) : Type 0 where
  pub titled : Titled file t
  pub line_kept : Line (length titled.before) titled.line (OfTitle t)

-- a title's line, with what stands before and after it
titled-line : (pre l rest : List ℕ) (t : Title) → Begins pre → Ends rest → Line (length pre) l (OfTitle t) → OnItsLine (pre ++ (l ++ rest)) t
titled-line pre l rest t b e kept = record {
  titled = record {
    before = pre;
    line = l;
    rest = rest;
    file_so = refl;
    begins = b;
    ends = e;
    line_so = h;
    bytes_so = ap (take t.length) (ap (drop t.place) parts ∙ drop_at ahead _ t.place place) ∙ take_at h.text _ t.length (sym (ap (λ (x : Title). x.length) h.title_so));
  };
  line_kept = kept;
}
  where
    h : TitleLine (length pre) l t
    h = kept.gives

    ahead : List ℕ
    ahead = pre ++ (h.lead ++ (named ATitle ++ (h.gap ++ (34 ∷ []))))

    parts : pre ++ (l ++ rest) ≡ ahead ++ (h.text ++ (34 ∷ (h.trail ++ rest)))
    parts = ap (λ (x : List ℕ). pre ++ (x ++ rest)) h.line ∙ simp append_assoc

    place : length ahead ≡ t.place
    place = simp length-append (omega (arith, ap (λ (x : Title). x.place) h.title_so))

no-title : (p : ℕ) (ls : List (List ℕ)) (is : List Item) (t : Title) (ts : List Title) → ls ≡ [] → Lines p ls is → gather title_in is ≡ t ∷ ts → ⊥
unfolding gather
no-title p [] [] t ts e h g = let z : ◌≡◌ {A = ℕ} 0 1 = cc in omega arith
no-title p [] (i ∷ is) t ts e h g = h
no-title p (l ∷ ls) is t ts e h g = no_lines l ls e

-- the first title among the lines of s, which stand after pre in the file
titled-lines : (pre s : List ℕ) (ls : List (List ℕ)) (is : List Item) (t : Title) (ts : List Title) → Begins pre → lines_of s ≡ ls → Lines (length pre) ls is → gather title_in is ≡ t ∷ ts
    → OnItsLine (pre ++ s) t
unfolding gather
titled-lines pre s [] is t ts b e h g = absurd (lines-some s e)
titled-lines pre s (l ∷ ls) [] t ts b e h g = absurd h
titled-lines pre s (l ∷ ls) (i ∷ is) t ts b e h g = split (title_in i) refl g (lines_cut s l ls e) (λ pre' s'. titled-lines pre' s' ls is t ts)
  where
    split : (o : Option Title) → title_in i ≡ o → put o (gather title_in is) ≡ t ∷ ts → Cut s l ls
        → ((pre' s' : List ℕ) → Begins pre' → lines_of s' ≡ ls → Lines (length pre') ls is → gather title_in is ≡ t ∷ ts → OnItsLine (pre' ++ s') t)
        → OnItsLine (pre ++ s) t
    split (Some u) a q c again = here c
      where
        r : u ≡ t
        r = cc

        k : Line (length pre) l (OfTitle t)
        k = subst (λ (j : Item). Line (length pre) l j) (title-item i u a ∙ ap OfTitle r) h.0

        here : Cut s l ls → OnItsLine (pre ++ s) t
        here (last x y) = rw y (titled-line pre l [] t b (inl refl) k)
        here (more s' x y) = rw x (titled-line pre l (10 ∷ s') t b (inr (s', refl)) k)
    split None a q (last x y) again = absurd (no-title (length pre + length l + 1) ls is t ts x h.1 q)
    split None a q (more s' x y) again =
        let pre' : List ℕ = pre ++ (l ++ (10 ∷ [])) in
        let n : length pre + length l + 1 ≡ length pre' = sym (simp length-append (omega arith)) in
        let f : pre' ++ s' ≡ pre ++ s = rw x (simp append_assoc) in
        subst (λ (v : List ℕ). OnItsLine v t) f (again pre' s' (inr (pre ++ l, sym (append_assoc pre l (10 ∷ [])))) y (subst (λ (p : ℕ). Lines p ls is) n h.1) q)

-- a title ends before its file does: the closing quote comes after it
pub titled-inside : (file : List ℕ) (t : Title) → Titled file t → t.place + t.length < length file
titled-inside file t h =
    let l = h.line_so in
    let e = ap (λ (x : Title). x.place + x.length) l.title_so in
    let f = simp length-append at (ap length h.file_so) in
    let g = simp length-append at (ap length l.line) in
    omega arith

-- a file that keeps the specification and has a title has it where the description says
module _ (file : List ℕ) (places : ℕ) (d : Description) (samples : List ℤ) (k : Keeps file places d samples) where
  on-line-or-none : (d.title ≡ no_title) ⊎ OnItsLine file d.title
  on-line-or-none = split (gather title_in k.items) refl k.title
    where
      split : (ts : List Title) → gather title_in k.items ≡ ts → AtMostOne ts no_title d.title → (d.title ≡ no_title) ⊎ OnItsLine file d.title
      split [] e g = inl g
      split (t ∷ []) e g = inr (subst (λ (u : Title). OnItsLine file u) (sym g) (titled-lines [] file (lines_of file) k.items t [] (inl refl) refl k.lines e))
      split (t ∷ u ∷ us) e g = absurd g

  -- there is none, or it stands there
  pub title-or-none : (d.title ≡ no_title) ⊎ Titled file d.title
  title-or-none = by on-line-or-none
    where
      by : (d.title ≡ no_title) ⊎ OnItsLine file d.title → (d.title ≡ no_title) ⊎ Titled file d.title
      by (inl none-there) = inl none-there
      by (inr stands) = inr stands.titled

  -- where there is one it stands there on its line
  pub title-on-line : d.title.there ≡ true → OnItsLine file d.title
  title-on-line h = by on-line-or-none
    where
      by : (d.title ≡ no_title) ⊎ OnItsLine file d.title → OnItsLine file d.title
      by (inl none-there) = absurd (no_true (sym (sym (ap (λ (t : Title). t.there) none-there) ∙ h)))
      by (inr stands) = stands

  -- and its bytes are those between its quotes
  pub title-stands : d.title.there ≡ true → Titled file d.title
  title-stands h = (title-on-line h).titled
