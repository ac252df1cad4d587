-- How long the lines of a written file are. A number within its limit is the limit itself, which is short, or has one digit less before the point; so every line
-- has a greatest length, which some line has, and 333 bytes and 39 for each row hold every text.
use Prim.Native.Nat.{ℕ, ◌+◌, ◌-◌, ◌*◌, ◌≤◌, ◌<◌}
use mathlib.Core.Path.{◌≡◌, refl}
use mathlib.Core.Logic.{◌⊎◌, inl, inr}
use mathlib.Core.Bool.{Bool, true, false}
use mathlib.Core.List.{List, [], ◌∷◌, ◌++◌}
use native.Mathlib.Nat.{eq-or-lt_of_le}
use native.Mathlib.Omega.{arith}
use borrow.Author.Tests.{leb-true, le-leb}
use lib.Dec.{leb}
use lib.IntN.{ℤ, pos, negsuc, nat_abs}
use lib.ListN.{length, take, replicate, length-append}
use lib.Seq.{length-take-le}
use Rattle.rules.specs.Units.{bound_limit, bound_places, in_range, sample_limit, sample_places}
use Rattle.rules.specs.Decimals.{decimal, decimal_in, sign, places_of, after_point, decimals_of}
use Rattle.rules.specs.Fields.{parted}
use Rattle.rules.specs.Descriptions.{Sound, could_be_read, rows, samples_fit}
use Rattle.rules.specs.Reading.Lines.{bytes, every}
use Rattle.rules.specs.Reading.Items.{named}
use Rattle.rules.specs.Reading.Grammar.{lowers, uppers}
use Rattle.rules.specs.Writing.{bounds_text, file_text, head_text, row_text, rows_text, size_text, title_byte, title_fits, title_limit, title_text, write}
use Rattle.rules.specs.declared.Bounds.{Bounds}
use Rattle.rules.specs.declared.Colour.TheVariants.{Red, Green, Blue}
use Rattle.rules.specs.declared.Description.{Description}
use Rattle.rules.specs.declared.Keyword.{Keyword}
use Rattle.rules.specs.declared.Keyword.TheVariants.{ATitle, ALower, AnUpper, ASize}
use Rattle.rules.specs.declared.Kind.{Kind}
use Rattle.rules.specs.declared.Kind.TheVariants.{OneD, ThreeD}
use Rattle.rules.specs.declared.Thousandths.{Thousandths}
use Rattle.rules.proofs.Tests.{and_both, both-and}
use Rattle.rules.proofs.Decimals.{decimal-within, decimals-within}
use Rattle.rules.proofs.Sound.{each-first-fit, greatest-most, range-most, sound-of}
use Rattle.std.specs.Prelude.{Ok}

-- ---- numbers

limit-sample : (z : ℤ) → nat_abs z ≡ sample_limit → length (decimals_of sample_places z) ≤ 12
unfolding decimals_of decimal decimal_in sign after_point places_of
limit-sample (pos n) e = rw e (omega arith)
limit-sample (negsuc n) e = let k : n ≡ 9_999_999_999 = omega arith in rw k (omega arith)

-- a sample within the limit takes at most 12 bytes
pub sample-most : (z : ℤ) → nat_abs z ≤ sample_limit → length (decimals_of sample_places z) ≤ 12
sample-most z h = by (eq-or-lt_of_le h)
  where
    by : (nat_abs z ≡ sample_limit) ⊎ (nat_abs z < sample_limit) → length (decimals_of sample_places z) ≤ 12
    by (inl e) = limit-sample z e
    by (inr l) = decimals-within 2 sample_places z (omega arith)

limit-bound : (z : ℤ) → nat_abs z ≡ bound_limit → length (decimals_of bound_places z) ≤ 6
unfolding decimals_of decimal decimal_in sign after_point places_of
limit-bound (pos n) e = rw e (omega arith)
limit-bound (negsuc n) e = let k : n ≡ 9_999 = omega arith in rw k (omega arith)

-- a bound at most 6
pub bound-most : (z : ℤ) → nat_abs z ≤ bound_limit → length (decimals_of bound_places z) ≤ 6
bound-most z h = by (eq-or-lt_of_le h)
  where
    by : (nat_abs z ≡ bound_limit) ⊎ (nat_abs z < bound_limit) → length (decimals_of bound_places z) ≤ 6
    by (inl e) = limit-bound z e
    by (inr l) = decimals-within 0 bound_places z (omega arith)

-- N at most 5
pub size-most : (k : Kind) (n : ℕ) → in_range k n ≡ true → length (decimal n) ≤ 5
size-most k n e = decimal-within 4 n (omega (arith, range-most k n e, greatest-most k))

-- ---- lines, with their newline

one_field : (a : List ℕ) → length (parted 32 (a ∷ [])) ≡ length a + 1
unfolding parted
one_field a = length-append a (10 ∷ [])

more-fields : (a b : List ℕ) (more : List (List ℕ)) → length (parted 32 (a ∷ b ∷ more)) ≡ length a + 1 + length (parted 32 (b ∷ more))
unfolding parted
more-fields a b more = omega (arith, length-append a (32 ∷ parted 32 (b ∷ more)))

module _ (r g b : ℤ) where
  abbrev text : ℤ → List ℕ
  text z = decimals_of sample_places z

  -- a data line
  pub row-line-most : nat_abs r ≤ sample_limit → nat_abs g ≤ sample_limit → nat_abs b ≤ sample_limit → length (row_text r g b) ≤ 39
  unfolding row_text
  row-line-most hr hg hb =
      let red = more-fields (text r) (text g) (text b ∷ []) in
      let green = more-fields (text g) (text b) [] in
      omega (arith, red, green, one_field (text b), sample-most r hr, sample-most g hg, sample-most b hb)

module _ (k : Keyword) (ten : length (named k) ≡ 10) (b : Bounds) where
  abbrev bound : ℤ → List ℕ
  bound z = decimals_of bound_places z

  -- a line of bounds, after a keyword of 10 bytes
  pub bounds-line-most : nat_abs b.red.0 ≤ bound_limit → nat_abs b.green.0 ≤ bound_limit → nat_abs b.blue.0 ≤ bound_limit → length (bounds_text k b) ≤ 32
  unfolding bounds_text
  bounds-line-most hr hg hb =
      let keyword = more-fields (named k) (bound b.red.0) (bound b.green.0 ∷ bound b.blue.0 ∷ []) in
      let red = more-fields (bound b.red.0) (bound b.green.0) (bound b.blue.0 ∷ []) in
      let green = more-fields (bound b.green.0) (bound b.blue.0) [] in
      omega (arith, keyword, red, green, one_field (bound b.blue.0), bound-most b.red.0 hr, bound-most b.green.0 hg, bound-most b.blue.0 hb)

-- both keywords are such
pub lower-named : length (named ALower) ≡ 10
unfolding bytes
lower-named = refl

pub upper-named : length (named AnUpper) ≡ 10
unfolding bytes
upper-named = refl

size-named : (k : Kind) → length (named (ASize k)) ≡ 11
unfolding bytes
size-named OneD = refl
size-named ThreeD = refl

-- the line of the size
pub size-line-most : (k : Kind) (n : ℕ) → in_range k n ≡ true → length (size_text k n) ≤ 18
unfolding size_text
size-line-most k n e = omega (arith, more-fields (named (ASize k)) (decimal n) [], one_field (decimal n), size-named k, size-most k n e)

title-named : length (named ATitle) ≡ 5
unfolding bytes
title-named = refl

-- that of the title has eight bytes more than the title, and its newline
pub title-line : (title : List ℕ) → length (title_text true title) ≡ length title + 9
unfolding title_text
title-line title =
    let quoted : List ℕ = 34 ∷ (title ++ (34 ∷ [])) in
    omega (arith, more-fields (named ATitle) quoted [], one_field quoted, title-named, length-append title (34 ∷ []))

fits-short : (title : List ℕ) → title_fits true title ≡ true → length title ≤ title_limit
unfolding title_fits
fits-short title e = leb-true (length title) title_limit (and_both _ (every title_byte title) e).0

-- and a title that fits has at most 242
pub title-line-most : (title : List ℕ) → title_fits true title ≡ true → length (title_text true title) ≤ 251
title-line-most title e = omega (arith, title-line title, fits-short title e)

-- ---- lines that are so long

-- -999.9999999 three times
pub longest-row : length (row_text (negsuc 9_999_999_998) (negsuc 9_999_999_998) (negsuc 9_999_999_998)) ≡ 39
unfolding row_text parted decimals_of decimal decimal_in sign after_point places_of
longest-row = refl

abbrev long_bound : Thousandths
long_bound = record { 0 = negsuc 9_998 }

-- -9.999 three times
pub longest-bounds : length (bounds_text ALower record { red = long_bound; green = long_bound; blue = long_bound }) ≡ 32
unfolding bounds_text parted decimals_of decimal decimal_in sign after_point places_of bytes
longest-bounds = refl

-- the greatest N of 1D
pub longest-size : length (size_text OneD 65_536) ≡ 18
unfolding size_text parted decimal decimal_in bytes
longest-size = refl

-- a title of 242 bytes has a line of 250
pub longest-title : (title_fits true (replicate 242 65) ≡ true) × (length (title_text true (replicate 242 65)) ≡ 251)
unfolding title_fits every
longest-title = (refl, title-line (replicate 242 65))

-- ---- the file

title-most : (there : Bool) (title : List ℕ) → title_fits there title ≡ true → length (title_text there title) ≤ 251
unfolding title_text
title-most false title e = omega arith
title-most true title e = title-line-most title e

rows-text-most : (k : ℕ) (samples : List ℤ) → length samples ≤ 3 * k → samples_fit samples ≡ true → length (rows_text samples) ≤ 39 * k
unfolding rows_text samples_fit
rows-text-most k [] h e = omega arith
rows-text-most k (r ∷ []) h e = omega arith
rows-text-most k (r ∷ g ∷ []) h e = omega arith
rows-text-most k (r ∷ g ∷ b ∷ more) h e =
    let (er, e₁) = and_both (leb (nat_abs r) sample_limit) _ e in
    let (eg, e₂) = and_both (leb (nat_abs g) sample_limit) _ e₁ in
    let (eb, left) = and_both (leb (nat_abs b) sample_limit) (samples_fit more) e₂ in
    let one = row-line-most r g b (leb-true _ _ er) (leb-true _ _ eg) (leb-true _ _ eb) in
    let others = rows-text-most (k - 1) more (omega arith) left in
    omega (arith, length-append (row_text r g b) (rows_text more), one, others)

module _ (d : Description) (table : List ℤ) (title : List ℕ) (could : could_be_read d table ≡ true) (fits : title_fits d.title.there title ≡ true) where
  sound : Sound d table
  sound = sound-of d table could

  head-most : length (head_text d title) ≤ 333
  unfolding head_text
  head-most =
      let of-title = title_text d.title.there title in
      let of_size = size_text d.kind d.n in
      let lower = bounds_text ALower (lowers d) in
      let upper = bounds_text AnUpper (uppers d) in
      let within = sound.domains in
      let all = length-append of-title (of_size ++ (lower ++ upper)) in
      let range : in_range d.kind d.n ≡ true = both-and _ _ (le-leb _ _ sound.least) (le-leb _ _ sound.most) in
      let lower-most = bounds-line-most ALower lower-named (lowers d) (within Red).low (within Green).low (within Blue).low in
      let upper-most = bounds-line-most AnUpper upper-named (uppers d) (within Red).high (within Green).high (within Blue).high in
      omega (
        arith,
        all,
        length-append of_size (lower ++ upper),
        length-append lower upper,
        title-most d.title.there title fits,
        size-line-most d.kind d.n range,
        lower-most,
        upper-most,
      )

  -- so 333 bytes and 39 for each row hold every text
  pub text-most : length (file_text d table title) ≤ 333 + 39 * rows d
  unfolding file_text
  text-most =
      let samples = take (3 * rows d) table in
      let fit = each-first-fit (3 * rows d) table sound.long sound.samples in
      let so-many = length-take-le (3 * rows d) table sound.long in
      omega (arith, length-append (head_text d title) (rows_text samples), head-most, rows-text-most (rows d) samples (omega (arith, so-many)) fit)

  -- with so many bytes write never answers 13
  pub room-enough : (places : ℕ) → 333 + 39 * rows d ≤ places → write d table title places ≡ Ok (length (file_text d table title))
  unfolding write
  room-enough places h = rw (could, fits, le-leb (length (file_text d table title)) places (omega (arith, text-most)))
