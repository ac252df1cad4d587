-- Where each number of the file stands in the table.
use Prim.Native.Nat.{ℕ, zero, suc, ◌+◌, ◌*◌, ◌<◌}
use mathlib.Core.Path.{◌≡◌, refl, subst}
use mathlib.Core.Bool.{false}
use mathlib.Core.List.{List, [], ◌∷◌, ◌++◌, map, flatten}
use native.Mathlib.Omega.{arith}
use lib.ListN.{length, get_or, get_or-append}
use lib.IntN.{ℤ, pos}
use Rattle.rules.specs.Units.{sample_limit, sample_places, row_at, colour_place, sample_at}
use Rattle.rules.specs.Descriptions.{rows}
use Rattle.rules.specs.Reading.Lines.{lines_of, words_of}
use Rattle.rules.specs.Reading.Numerals.{Exact}
use Rattle.rules.specs.Reading.Items.{numbers_of, row_in}
use Rattle.rules.specs.Reading.Grammar.{Keeps, Line, Lines, RowLine, gather, put}
use Rattle.rules.specs.Reading.{read, samples_of, table_after}
use Rattle.rules.specs.Demands.{data_lines, is_data, Written}
use Rattle.rules.specs.declared.Item.{Item}
use Rattle.rules.specs.declared.Item.TheVariants.{Nothing, OfTitle, OfLower, OfUpper, OfSize, OfRow}
use Rattle.rules.specs.declared.Colour.{Colour}
use Rattle.rules.specs.declared.Colour.TheVariants.{Red, Green, Blue}
use Rattle.rules.specs.declared.Kind.TheVariants.{OneD, ThreeD}
use Rattle.rules.specs.declared.Row.{Row}
use Rattle.rules.specs.declared.Description.{Description}
use Rattle.rules.proofs.Colours.{place-below}
use Rattle.rules.proofs.Reading.Order.{form_for}
use Rattle.rules.proofs.Looking.RowsAndWeights.{row_below}
use Rattle.rules.proofs.Reading.Sorts.{row-item}
use Rattle.rules.proofs.Reading.OneLine.{found}
use Rattle.rules.proofs.Reading.Acceptance.{accepted-keeps, keeps-length}
use Rattle.std.specs.Prelude.{None, Ok, Option, Some}

-- word c of a line is, exactly, the number that stands at a place of a list
abbrev Stands : List ℕ → Colour → List ℤ → ℕ → Type 0
Stands l c samples at = Exact sample_places sample_limit (get_or (words_of l) (colour_place c) []) (get_or samples at (pos 0))

in_row : (l : List ℕ) (r : Row) (rest : List ℤ) (c : Colour) → RowLine l r → Stands l c (numbers_of r ++ rest) (colour_place c)
in_row l r rest Red h = rw h.words h.red
in_row l r rest Green h = rw h.words h.green
in_row l r rest Blue h = rw h.words h.blue

-- a row's line is a data line, and no other is
no_data : (i : Item) → row_in i ≡ None → is_data (form_for i) ≡ false
no_data Nothing e = refl
no_data (OfTitle t) e = refl
no_data (OfLower b) e = refl
no_data (OfUpper b) e = refl
no_data (OfSize x) e = refl
no_data (OfRow q) e = let z : ◌≡◌ {A = ℕ} 0 1 = cc in absurd (omega arith)

data-row : (p : ℕ) (l : List ℕ) (ls : List (List ℕ)) (r : Row) → Line p l (OfRow r) → data_lines (l ∷ ls) ≡ l ∷ data_lines ls
unfolding data_lines
data-row p l ls r h = rw (found p l (OfRow r) h).form

data-other : (p : ℕ) (l : List ℕ) (ls : List (List ℕ)) (i : Item) → row_in i ≡ None → Line p l i → data_lines (l ∷ ls) ≡ data_lines ls
unfolding data_lines
data-other p l ls i e h = rw ((found p l i h).form, no_data i e)

-- the number of colour c on data line k stands at place 3k + c of the samples
abbrev Ordered : List (List ℕ) → List Row → ℕ → Colour → Type 0
Ordered ds rs k c = k < length rs → Stands (get_or ds k []) c (flatten (map numbers_of rs)) (3 * k + colour_place c)

first-row : (l : List ℕ) (ds : List (List ℕ)) (r : Row) (rs : List Row) (c : Colour) → RowLine l r → Ordered (l ∷ ds) (r ∷ rs) 0 c
unfolding flatten
first-row l ds r rs c h b = let e : 3 * 0 + colour_place c ≡ colour_place c = omega arith in rw e (in_row l r (flatten (map numbers_of rs)) c h)

next_row : (l : List ℕ) (ds : List (List ℕ)) (r : Row) (rs : List Row) (k : ℕ) (c : Colour) → Ordered ds rs k c → Ordered (l ∷ ds) (r ∷ rs) (suc k) c
unfolding flatten
next_row l ds r rs k c ih b =
    let e : 3 * suc k + colour_place c ≡ suc (suc (suc (3 * k + colour_place c))) = omega arith in
    rw e (ih (omega arith))

one_more : (p : ℕ) (l : List ℕ) (ls : List (List ℕ)) (i : Item) (rs : List Row) (o : Option Row) (k : ℕ) (c : Colour) → row_in i ≡ o → Line p l i
    → ((k : ℕ) → Ordered (data_lines ls) rs k c) → Ordered (data_lines (l ∷ ls)) (put o rs) k c
one_more p l ls i rs None k c e h ih = rw (data-other p l ls i e h) (ih k)
one_more p l ls i rs (Some r) zero c e h ih =
    let q : Line p l (OfRow r) = subst (λ (j : Item). Line p l j) (row-item i r e) h in
    rw (data-row p l ls r q) (first-row l (data_lines ls) r rs c q.gives)
one_more p l ls i rs (Some r) (suc k) c e h ih =
    let q : Line p l (OfRow r) = subst (λ (j : Item). Line p l j) (row-item i r e) h in
    rw (data-row p l ls r q) (next_row l (data_lines ls) r rs k c (ih k))

in_order : (p : ℕ) (ls : List (List ℕ)) (is : List Item) → Lines p ls is → (k : ℕ) (c : Colour) → Ordered (data_lines ls) (gather row_in is) k c
unfolding gather
in_order p [] [] h k c b = absurd (omega arith)
in_order p [] (i ∷ is) h k c b = absurd h
in_order p (l ∷ ls) [] h k c b = absurd h
in_order p (l ∷ ls) (i ∷ is) h k c b = one_more p l ls i (gather row_in is) (row_in i) k c refl h.0 (λ j. in_order (p + length l + 1) ls is h.1 j c) b

module _ (file : List ℕ) (table : List ℤ) (d : Description) (h : read file (length table) ≡ Ok d) where
  -- the number of colour c on data line k is the sample of row k
  pub place : (k : ℕ) (c : Colour) → k < rows d → Written file k c (sample_at (table_after file table (Ok d)) k c)
  unfolding table_after
  place k c b =
      let q : Keeps file (length table) d (samples_of (lines_of file)) = accepted-keeps file (length table) d h in
      let n : length (samples_of (lines_of file)) ≡ 3 * rows d = keeps-length file (length table) d (samples_of (lines_of file)) q in
      rw (get_or-append (samples_of (lines_of file)) _ (pos 0) (3 * k + colour_place c) (omega (arith, place-below c)), q.values)
      (in_order 0 (lines_of file) q.items q.lines k c (omega (arith, q.count)))

  -- 1D: row r
  pub place-1_d : d.kind ≡ OneD → (r : ℕ) (c : Colour) → r < d.n → Written file r c (get_or (table_after file table (Ok d)) (3 * r + colour_place c) (pos 0))
  place-1_d e r c b = place r c (rw e b)

  -- 3D: red index r, green g, blue b is row r + N·g + N·N·b
  pub place-3_d : d.kind ≡ ThreeD → (i : Colour → ℕ) (c : Colour) → ((k : Colour) → i k < d.n)
      → Written file (i Red + d.n * i Green + d.n * d.n * i Blue) c
      (get_or (table_after file table (Ok d)) (3 * (i Red + d.n * i Green + d.n * d.n * i Blue) + colour_place c) (pos 0))
  place-3_d e i c b = place (i Red + d.n * i Green + d.n * d.n * i Blue) c (rw e (row_below d.n i b))

  -- and it is the sample that interpolation takes for these three indices
  pub looked-up-3_d : d.kind ≡ ThreeD → (i : Colour → ℕ) (c : Colour) → ((k : Colour) → i k < d.n)
      → Written file (i Red + d.n * i Green + d.n * d.n * i Blue) c (sample_at (table_after file table (Ok d)) (row_at d.n i) c)
  looked-up-3_d e i c b = place-3_d e i c b
