-- The bridge from reading to look: a description and a table that an accepted reading left are never 24.
use Prim.Native.Nat.{ℕ, ◌+◌, ◌*◌, ◌≤◌}
use mathlib.Core.Path.{◌≡◌, refl, sym, ap, subst, ◌∙◌}
use mathlib.Core.Bool.{true, ◌&&◌}
use mathlib.Core.List.{List, [], ◌∷◌, ◌++◌, map, flatten}
use native.Mathlib.Omega.{arith}
use borrow.Author.Tests.{le-leb}
use lib.Dec.{leb}
use lib.IntN.{ℤ, nat_abs}
use lib.ListN.{length, drop, length-append}
use lib.Seq.{take_at}
use Rattle.rules.specs.Units.{sample_limit, bound_limit, in_range}
use Rattle.rules.specs.Descriptions.{lowest, highest, rows, every_colour, bounds_fit, roomy, samples_fit, could_be_read}
use Rattle.rules.specs.Reading.Lines.{lines_of}
use Rattle.rules.specs.Reading.Items.{lower_in, upper_in, size_in, row_in, numbers_of}
use Rattle.rules.specs.Reading.Grammar.{ThreeNumbers, Line, Lines, put, gather, AtMostOne, lowers, uppers, Keeps}
use Rattle.rules.specs.Reading.{read, samples_of, table_after}
use Rattle.rules.specs.Promises.{Reads}
use Rattle.rules.specs.declared.Item.{Item}
use Rattle.rules.specs.declared.Bounds.{Bounds}
use Rattle.rules.specs.declared.Description.{Description}
use Rattle.rules.specs.declared.Refusal.{Refusal}
use Rattle.rules.specs.declared.Row.{Row}
use Rattle.rules.specs.declared.Size.{Size}
use Rattle.rules.proofs.Tests.{both-and}
use Rattle.rules.proofs.Answers.{reads-is}
use Rattle.rules.proofs.Reading.Acceptance.{accepted-keeps, keeps-length}
use Rattle.rules.proofs.Reading.Sorts.{lower-item, upper-item, size-item, row-item}
use Rattle.std.specs.Prelude.{None, Ok, Option, Some}
use Rattle.rules.specs.Results.{Read, refused_on}

-- ---- what each line of a sort has, all that are gathered have

abbrev pub All : {A : Type 0} → (A → Type 0) → List A → Type 0
All P [] = Unit {0}
All P (x ∷ xs) = P x × All P xs

module _ {A : Type 0} (pick : Item → Option A) (P : A → Type 0) (each : (p : ℕ) (l : List ℕ) (i : Item) (a : A) → pick i ≡ Some a → Line p l i → P a) where
  pub gathered : (p : ℕ) (ls : List (List ℕ)) (is : List Item) → Lines p ls is → All P (gather pick is)
  unfolding gather
  gathered p [] [] h = tt
  gathered p [] (i ∷ is) h = absurd h
  gathered p (l ∷ ls) [] h = absurd h
  gathered p (l ∷ ls) (i ∷ is) h = split (pick i) refl (gathered (p + length l + 1) ls is h.1)
    where
      split : (o : Option A) → pick i ≡ o → All P (gather pick is) → All P (put o (gather pick is))
      split None e r = r
      split (Some a) e r = (each p l i a e h.0, r)

-- the only one, or the default, has it where the default does
pub only_one : {A : Type 0} (P : A → Type 0) (xs : List A) (default x : A) → P default → All P xs → AtMostOne xs default x → P x
only_one P [] default x d a e = subst P (sym e) d
only_one P (y ∷ []) default x d a e = subst P (sym e) a.0
only_one P (y ∷ z ∷ more) default x d a e = absurd e

-- ---- a size in range, bounds and samples within their limits

pub size-in-range : (p : ℕ) (l : List ℕ) (i : Item) (s : Size) → size_in i ≡ Some s → Line p l i → in_range s.kind s.n ≡ true
size-in-range p l i s e h = (subst (λ (j : Item). Line p l j) (size-item i s e) h).gives.range

abbrev pub WithinBounds : Bounds → Type 0
WithinBounds b = (nat_abs b.red.0 ≤ bound_limit) × ((nat_abs b.green.0 ≤ bound_limit) × (nat_abs b.blue.0 ≤ bound_limit))

abbrev WithinSamples : Row → Type 0
WithinSamples r = (nat_abs r.red.0 ≤ sample_limit) × ((nat_abs r.green.0 ≤ sample_limit) × (nat_abs r.blue.0 ≤ sample_limit))

three-within : {places limit : ℕ} {ws : List (List ℕ)} {x y z : ℤ} → ThreeNumbers places limit ws x y z → (nat_abs x ≤ limit) × ((nat_abs y ≤ limit) × (nat_abs z ≤ limit))
three-within t = (t.red.within, (t.green.within, t.blue.within))

low : (p : ℕ) (l : List ℕ) (i : Item) (b : Bounds) → lower_in i ≡ Some b → Line p l i → WithinBounds b
low p l i b e h = three-within (subst (λ (j : Item). Line p l j) (lower-item i b e) h).gives.numbers

high : (p : ℕ) (l : List ℕ) (i : Item) (b : Bounds) → upper_in i ≡ Some b → Line p l i → WithinBounds b
high p l i b e h = three-within (subst (λ (j : Item). Line p l j) (upper-item i b e) h).gives.numbers

sampled : (p : ℕ) (l : List ℕ) (i : Item) (r : Row) → row_in i ≡ Some r → Line p l i → WithinSamples r
sampled p l i r e h = three-within (subst (λ (j : Item). Line p l j) (row-item i r e) h).gives

rows_fit : (rs : List Row) → All WithinSamples rs → samples_fit (flatten (map numbers_of rs)) ≡ true
unfolding samples_fit flatten
rows_fit [] a = refl
rows_fit (r ∷ rs) a =
    both-and _ _ (le-leb _ _ a.0.0) (both-and _ _ (le-leb _ _ a.0.1.0) (both-and _ _ (le-leb _ _ a.0.1.1) (rows_fit rs a.1)))

-- ---- the bridge

module _ (file : List ℕ) (places : ℕ) (d : Description) (samples : List ℤ) (k : Keeps file places d samples) where
  pub in-range : in_range d.kind d.n ≡ true
  in-range = (rw k.size at (gathered size_in (λ s. in_range s.kind s.n ≡ true) size-in-range 0 (lines_of file) k.items k.lines)).0

  lowers-within : WithinBounds (lowers d)
  lowers-within = only_one WithinBounds (gather lower_in k.items) lowest (lowers d) (omega arith, (omega arith, omega arith)) (gathered lower_in WithinBounds low 0 (lines_of file) k.items k.lines) k.lower

  uppers-within : WithinBounds (uppers d)
  uppers-within = only_one WithinBounds (gather upper_in k.items) highest (uppers d) (omega arith, (omega arith, omega arith)) (gathered upper_in WithinBounds high 0 (lines_of file) k.items k.lines) k.upper

  pub bounds-fit : every_colour bounds_fit d ≡ true
  unfolding bounds_fit
  bounds-fit =
      let lo = lowers-within in
      let hi = uppers-within in
      both-and _ _ (fit lo.0 hi.0) (both-and _ _ (fit lo.1.0 hi.1.0) (fit lo.1.1 hi.1.1))
    where
      fit : {a b : ℕ} → a ≤ bound_limit → b ≤ bound_limit → leb a bound_limit && leb b bound_limit ≡ true
      fit {a} {b} p q = both-and _ _ (le-leb a bound_limit p) (le-leb b bound_limit q)

  samples-fit : samples_fit samples ≡ true
  samples-fit = rw k.values (rows_fit (gather row_in k.items) (gathered row_in WithinSamples sampled 0 (lines_of file) k.items k.lines))

  -- with the samples in the table's first places, whatever the others hold
  kept-could-be-read : (rest : List ℤ) → could_be_read d (samples ++ rest) ≡ true
  unfolding could_be_read roomy
  kept-could-be-read rest =
      let n : length samples ≡ 3 * rows d = keeps-length file places d samples k in
      let long : 3 * rows d ≤ length (samples ++ rest) = omega (arith, length-append samples rest) in
      both-and _ _ in-range
      (both-and _ _ bounds-fit
      (both-and _ _ k.ordered_so
      (both-and _ _ k.narrow_so
      (both-and _ _ k.agree_so
      (both-and _ _ (le-leb _ _ long)
      (rw (take_at samples rest (3 * rows d) n) samples-fit))))))

-- what is accepted has an N in range
pub accepted-in-range : (file : List ℕ) (places : ℕ) (d : Description) → read file places ≡ Ok d → in_range d.kind d.n ≡ true
accepted-in-range file places d h = in-range file places d (samples_of (lines_of file)) (accepted-keeps file places d h)

pub bridge : (file : List ℕ) (table : List ℤ) (d : Description) → read file (length table) ≡ Ok d → could_be_read d (table_after file table (Ok d)) ≡ true
unfolding table_after
bridge file table d h = kept-could-be-read file (length table) d (samples_of (lines_of file)) (accepted-keeps file (length table) d h) (drop (3 * rows d) table)

-- ---- of every reader that keeps the promise

module _ {file : List ℕ} {table : List ℤ} where
  -- the table afterwards is that of the answer
  pub after-answer : {r : Read} {t : List ℤ} → Reads file table r t → t ≡ table_after file table r
  after-answer h = h.memory ∙ ap (table_after file table) (sym (reads-is h).0)

  -- a refusal leaves the table as it was
  pub refused-unchanged : {reason : Refusal} {n : ℕ} {t : List ℤ} → Reads file table (refused_on reason n) t → t ≡ table
  unfolding table_after
  refused-unchanged h = after-answer h

  -- what an accepted reading leaves is never 24
  pub reads-bridge : {d : Description} {t : List ℤ} → Reads file table (Ok d) t → could_be_read d t ≡ true
  reads-bridge {d} h = subst (λ u. could_be_read d u ≡ true) (sym (after-answer h)) (bridge file table d (sym (reads-is h).0))
