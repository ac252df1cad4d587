-- What is written keeps the specification: each line is of its kind, a last empty one stands after the last newline, and the values in order are the samples.
use Prim.Native.Nat.{ℕ, zero, suc, ◌*◌, ◌≤◌}
use mathlib.Core.Path.{◌≡◌, refl, sym, ap, subst, ◌∙◌}
use mathlib.Core.Bool.{Bool, true, false, false≢true}
use mathlib.Core.List.{List, [], ◌∷◌, ◌++◌, append_assoc, map, flatten}
use native.Mathlib.Omega.{arith}
use borrow.Author.Tests.{leb-true, le-leb, ne_eqb, not-true}
use lib.Dec.{leb}
use lib.IntN.{ℤ, nat_abs}
use lib.ListN.{length, take, length-append}
use lib.Seq.{length-take-le}
use Rattle.rules.specs.Units.{bound_limit, bound_places, in_range, sample_limit, sample_places}
use Rattle.rules.specs.Descriptions.{Sound, could_be_read, narrow, no_title, ordered, rows, samples_fit}
use Rattle.rules.specs.Decimals.{decimal, decimals_of}
use Rattle.rules.specs.Reading.Lines.{bytes, every, in_title, lines_of, permitted, quote}
use Rattle.rules.specs.Reading.Items.{lower_in, named, numbers_of, row_in, size_in, title_in, upper_in}
use Rattle.rules.specs.Reading.Grammar.{AtMostOne, BoundsLine, Gives, Keeps, KeywordsFirst, Line, Lines, NoKeyword, RowLine, SizeLine, ThreeNumbers, empty, gather, lowers, uppers}
use Rattle.rules.specs.Reading.Contents.{row_of}
use Rattle.rules.specs.Writing.{bounds_text, file_text, fitted, head_text, new_title, row_text, rows_text, size_text, title_byte, title_fits, title_limit, title_text}
use Rattle.rules.specs.declared.Bounds.{Bounds}
use Rattle.rules.specs.declared.Colour.TheVariants.{Red, Green, Blue}
use Rattle.rules.specs.declared.Description.{Description}
use Rattle.rules.specs.declared.Item.{Item}
use Rattle.rules.specs.declared.Item.TheVariants.{Nothing, OfTitle, OfLower, OfUpper, OfSize, OfRow}
use Rattle.rules.specs.declared.Keyword.{Keyword}
use Rattle.rules.specs.declared.Keyword.TheVariants.{ATitle, ALower, AnUpper, ASize}
use Rattle.rules.specs.declared.Kind.{Kind}
use Rattle.rules.specs.declared.Row.{Row}
use Rattle.rules.specs.declared.Title.{Title}
use Rattle.rules.proofs.Tests.{and_both, both-and}
use Rattle.rules.proofs.Sound.{agreed-agree, each-every, each-first-fit, greatest-most, less-ordered, range-most, sound-of, width_narrow}
use Rattle.rules.proofs.Reading.Runs.{every_append}
use Rattle.rules.proofs.Reading.Bridge.{All, WithinBounds}
use Rattle.signature.proofs.Decimals.{decimal-digits, decimal-spells, decimals-exact}
use Rattle.signature.proofs.Untitled.{same-24}
use Rattle.signature.proofs.Writing.Spaced.{Word, every-also, line-before, parted-spaced, spaced, spaced-words, words-before}
use Rattle.signature.proofs.Writing.Words.{bound-word, decimal-word, named-word, sample-word}
use Rattle.std.specs.Prelude.{None, Option}

-- the lines of a text give these items, wherever the text begins in a file
abbrev Giving : List ℕ → List Item → Type 0
Giving s is = (p : ℕ) → Lines p (lines_of s) is

-- ---- three numbers

three-numbers : (places limit : ℕ) (ws : List (List ℕ)) (x y z : ℤ) → ws ≡ decimals_of places x ∷ decimals_of places y ∷ decimals_of places z ∷ []
    → nat_abs x ≤ limit → nat_abs y ≤ limit → nat_abs z ≤ limit → ThreeNumbers places limit ws x y z
three-numbers places limit ws x y z e h₁ h₂ h₃ = record {
  a = decimals_of places x;
  b = decimals_of places y;
  c = decimals_of places z;
  words = e;
  red = decimals-exact places x limit h₁;
  green = decimals-exact places y limit h₂;
  blue = decimals-exact places z limit h₃;
}

-- ---- rows

-- a list's numbers by threes
abbrev threes : List ℤ → List Row
threes [] = []
threes (r ∷ []) = []
threes (r ∷ g ∷ []) = []
threes (r ∷ g ∷ b ∷ rest) = row_of r g b ∷ threes rest

-- they are its numbers where its length is a multiple of 3
threes-all : (n : ℕ) (samples : List ℤ) → length samples ≡ 3 * n → (length (threes samples) ≡ n) × (samples ≡ flatten (map numbers_of (threes samples)))
unfolding flatten
threes-all zero [] e = (refl, refl)
threes-all zero (r ∷ more) e = absurd (omega arith)
threes-all (suc n) [] e = absurd (omega arith)
threes-all (suc n) (r ∷ []) e = absurd (omega arith)
threes-all (suc n) (r ∷ g ∷ []) e = absurd (omega arith)
threes-all (suc n) (r ∷ g ∷ b ∷ rest) e =
    let ih = threes-all n rest (omega arith) in
    (ap suc ih.0, ap (λ (xs : List ℤ). r ∷ g ∷ b ∷ xs) ih.1)

-- a row on each line, and after the last newline an empty line
abbrev data_items : List Row → List Item
data_items [] = Nothing ∷ []
data_items (r ∷ rs) = OfRow r ∷ data_items rs

abbrev row_words : ℤ → ℤ → ℤ → List (List ℕ)
row_words r g b = decimals_of sample_places r ∷ decimals_of sample_places g ∷ decimals_of sample_places b ∷ []

row_first : (r g b : ℤ) (s : List ℕ) (is : List Item) → nat_abs r ≤ sample_limit → nat_abs g ≤ sample_limit → nat_abs b ≤ sample_limit → Giving s is
    → Giving (row_text r g b ++ s) (OfRow (row_of r g b) ∷ is)
unfolding row_text
row_first r g b s is h₁ h₂ h₃ more p =
    let words : All Word (row_words r g b) = (sample-word r h₁, (sample-word g h₂, (sample-word b h₃, tt))) in
    let so : RowLine (spaced (row_words r g b)) (row_of r g b) = three-numbers sample_places sample_limit _ r g b (spaced-words (row_words r g b) words) h₁ h₂ h₃ in
    words-before p (row_words r g b) s (OfRow (row_of r g b)) is words (omega arith) so (more _)

no_more : Giving [] (data_items [])
unfolding lines_of every
no_more p = (record { short = omega arith; permitted_so = refl; gives = empty refl }, tt)

rows-lines : (samples : List ℤ) → samples_fit samples ≡ true → Giving (rows_text samples) (data_items (threes samples))
unfolding rows_text samples_fit
rows-lines [] h = no_more
rows-lines (r ∷ []) h = no_more
rows-lines (r ∷ g ∷ []) h = no_more
rows-lines (r ∷ g ∷ b ∷ rest) h =
    let (h₁, more₁) = and_both (leb (nat_abs r) sample_limit) _ h in
    let (h₂, more₂) = and_both (leb (nat_abs g) sample_limit) _ more₁ in
    let (h₃, more₃) = and_both (leb (nat_abs b) sample_limit) _ more₂ in
    row_first r g b (rows_text rest) (data_items (threes rest)) (leb-true _ _ h₁) (leb-true _ _ h₂) (leb-true _ _ h₃) (rows-lines rest more₃)

-- ---- the domain

abbrev bounds_words : Keyword → Bounds → List (List ℕ)
bounds_words k b = named k ∷ decimals_of bound_places b.red.0 ∷ decimals_of bound_places b.green.0 ∷ decimals_of bound_places b.blue.0 ∷ []

bounds-words : (k : Keyword) (b : Bounds) → WithinBounds b → All Word (bounds_words k b)
bounds-words k b h = (named-word k, (bound-word _ h.0, (bound-word _ h.1.0, (bound-word _ h.1.1, tt))))

bounds-line : (k : Keyword) (b : Bounds) → WithinBounds b → BoundsLine k (spaced (bounds_words k b)) b
bounds-line k b h = record {
  parameters = _;
  words = spaced-words (bounds_words k b) (bounds-words k b h);
  numbers = three-numbers bound_places bound_limit _ _ _ _ refl h.0 h.1.0 h.1.1;
}

-- over the side that the keyword names
bounds-first : (k : Keyword) (side : Bounds → Item) → ((p : ℕ) (l : List ℕ) (b : Bounds) → BoundsLine k l b → Gives p l (side b))
    → (b : Bounds) (s : List ℕ) (is : List Item) → WithinBounds b → Giving s is → Giving (bounds_text k b ++ s) (side b ∷ is)
unfolding bounds_text
bounds-first k side gives b s is h more p =
    words-before p (bounds_words k b) s (side b) is (bounds-words k b h) (omega arith) (gives p _ b (bounds-line k b h)) (more _)

-- ---- the size

abbrev size_words : Kind → ℕ → List (List ℕ)
size_words k n = named (ASize k) ∷ decimal n ∷ []

size-first : (k : Kind) (n : ℕ) (s : List ℕ) (is : List Item) → in_range k n ≡ true → Giving s is → Giving (size_text k n ++ s) (OfSize (record { kind = k; n = n }) ∷ is)
unfolding size_text
size-first k n s is h more p =
    let words : All Word (size_words k n) = (named-word (ASize k), (decimal-word n (omega (arith, range-most k n h, greatest-most k)), tt)) in
    let so : SizeLine (spaced (size_words k n)) (record { kind = k; n = n }) = record {
      word = decimal n;
      words = spaced-words (size_words k n) words;
      digits_so = decimal-digits n;
      n_so = sym (decimal-spells n);
      range = h;
    } in
    words-before p (size_words k n) s (OfSize (record { kind = k; n = n })) is words (omega arith) so (more _)

-- ---- the title

abbrev title_words : List ℕ → List (List ℕ)
title_words title = named ATitle ∷ (34 ∷ (title ++ (34 ∷ []))) ∷ []

title-permitted : (b : ℕ) → title_byte b ≡ true → permitted b ≡ true
title-permitted b h =
    let (low, rest) = and_both (leb 32 b) _ h in
    rw (low, (and_both (leb b 126) _ rest).0)

title-in-title : (b : ℕ) → title_byte b ≡ true → in_title b ≡ true
title-in-title b h =
    let (low, rest) = and_both (leb 32 b) _ h in
    let plain = (and_both (leb b 126) _ rest).1 in
    rw (not-true (quote b) plain, ne_eqb b 9 (λ e. omega (arith, leb-true 32 b low)))

-- with TITLE, a space and two quotes it has eight bytes more than the title
title-line : (title : List ℕ) → length title ≤ title_limit → every title_byte title ≡ true → Line 0 (spaced (title_words title)) (OfTitle (new_title true title))
unfolding spaced bytes every new_title
title-line title short plain = record {
  short = omega (arith, length-append title (34 ∷ []));
  permitted_so = every_append permitted title (34 ∷ []) (every-also title_byte permitted title-permitted title plain) refl;
  gives = record {
    lead = [];
    gap = 32 ∷ [];
    text = title;
    trail = [];
    line = refl;
    lead_blank = refl;
    gap_blank = refl;
    gap_there = omega arith;
    text_so = every-also title_byte in_title title-in-title title plain;
    trail_blank = refl;
    title_so = refl;
  };
}

abbrev title_items : Bool → List ℕ → List Item
title_items false title = []
title_items true title = OfTitle (new_title true title) ∷ []

title-first : (there : Bool) (title s : List ℕ) (is : List Item) → title_fits there title ≡ true → Giving s is
    → Lines 0 (lines_of (title_text there title ++ s)) (title_items there title ++ is)
unfolding title_text title_fits
title-first false title s is h more = more 0
title-first true title s is h more =
    let (short, plain) = and_both (leb (length title) title_limit) _ h in
    let l = spaced (title_words title) in
    subst (λ (text : List ℕ). Lines 0 (lines_of text) (title_items true title ++ is)) (sym (parted-spaced (title_words title) s))
    (line-before 0 l s _ is (title-line title (leb-true _ _ short) plain) (more _))

-- ---- the items together

no_data : {A : Type 0} (pick : Item → Option A) → pick Nothing ≡ None → ((r : Row) → pick (OfRow r) ≡ None) → (rs : List Row) → gather pick (data_items rs) ≡ []
unfolding gather
no_data pick n f [] = rw n
no_data pick n f (r ∷ rs) = rw (f r) (no_data pick n f rs)

rows-gathered : (rs : List Row) → gather row_in (data_items rs) ≡ rs
unfolding gather
rows-gathered [] = refl
rows-gathered (r ∷ rs) = ap (λ (more : List Row). r ∷ more) (rows-gathered rs)

no-keyword : (rs : List Row) → NoKeyword (data_items rs)
no-keyword [] = (refl, tt)
no-keyword (r ∷ rs) = (refl, no-keyword rs)

data-last : (rs : List Row) → KeywordsFirst (data_items rs)
data-last [] = (λ e. tt, tt)
data-last (r ∷ rs) = (λ e. no-keyword rs, data-last rs)

no_row : {X : Type 0} → false ≡ true → X
no_row e = absurd (false≢true e)

-- the keywords as they are written, then the data
module _ (d : Description) (title : List ℕ) (rs : List Row) where
  abbrev keywords : List Item
  keywords = OfSize (record { kind = d.kind; n = d.n }) ∷ OfLower (lowers d) ∷ OfUpper (uppers d) ∷ []

  abbrev body : List Item
  body = keywords ++ data_items rs

  abbrev items : List Item
  items = title_items d.title.there title ++ body

  -- what is neither in a title nor in the data is in the three lines between them
  gathered-between : {A : Type 0} (pick : Item → Option A) → ((t : Title) → pick (OfTitle t) ≡ None) → pick Nothing ≡ None → ((r : Row) → pick (OfRow r) ≡ None)
      → gather pick items ≡ gather pick keywords
  unfolding gather
  gathered-between pick f n g = split d.title.there
    where
      between : gather pick body ≡ gather pick keywords
      between = rw (no_data pick n g rs)

      split : (there : Bool) → gather pick (title_items there title ++ body) ≡ gather pick keywords
      split false = between
      split true = rw (f (new_title true title)) between

  one_lower : gather lower_in items ≡ lowers d ∷ []
  unfolding gather
  one_lower = gathered-between lower_in (λ t. refl) refl (λ r. refl)

  one-upper : gather upper_in items ≡ uppers d ∷ []
  unfolding gather
  one-upper = gathered-between upper_in (λ t. refl) refl (λ r. refl)

  one_size : gather size_in items ≡ record { kind = d.kind; n = d.n } ∷ []
  unfolding gather
  one_size = gathered-between size_in (λ t. refl) refl (λ r. refl)

  all-rows : gather row_in items ≡ rs
  unfolding gather
  all-rows = split d.title.there
    where
      split : (there : Bool) → gather row_in (title_items there title ++ body) ≡ rs
      split false = rows-gathered rs
      split true = rows-gathered rs

  one-title : AtMostOne (gather title_in items) no_title (new_title d.title.there title)
  unfolding gather new_title
  one-title = split d.title.there
    where
      split : (there : Bool) → AtMostOne (gather title_in (title_items there title ++ body)) no_title (new_title there title)
      split false = rw (no_data title_in refl (λ r. refl) rs) refl
      split true = rw (no_data title_in refl (λ r. refl) rs) refl

  keywords-first : KeywordsFirst items
  keywords-first = split d.title.there (no_row, (no_row, (no_row, data-last rs)))
    where
      split : (there : Bool) → KeywordsFirst body → KeywordsFirst (title_items there title ++ body)
      split false h = h
      split true h = (no_row, h)

-- ---- the file

-- a title changes no answer to 24
pub fitted-24 : (d : Description) (table : List ℤ) (title : List ℕ) → could_be_read (fitted d title) table ≡ could_be_read d table
unfolding fitted
fitted-24 d table title = same-24 d (new_title d.title.there title) table

abbrev samples : Description → List ℤ → List ℤ
samples d table = take (3 * rows d) table

written-lines : (d : Description) (table : List ℤ) (title : List ℕ) → Sound d table → title_fits d.title.there title ≡ true
    → Lines 0 (lines_of (file_text d table title)) (items d title (threes (samples d table)))
unfolding file_text head_text
written-lines d table title s fits =
    let low : WithinBounds (lowers d) = ((s.domains Red).low, ((s.domains Green).low, (s.domains Blue).low)) in
    let high : WithinBounds (uppers d) = ((s.domains Red).high, ((s.domains Green).high, (s.domains Blue).high)) in
    let range : in_range d.kind d.n ≡ true = both-and _ _ (le-leb _ _ s.least) (le-leb _ _ s.most) in
    let fit : samples_fit (samples d table) ≡ true = each-first-fit (3 * rows d) table s.long s.samples in
    subst (λ (text : List ℕ). Lines 0 (lines_of text) (items d title (threes (samples d table)))) (sym parts)
    (title-first d.title.there title _ _ fits
    (size-first d.kind d.n _ _ range
    (bounds-first ALower OfLower (λ p l b h. h) (lowers d) _ _ low
    (bounds-first AnUpper OfUpper (λ p l b h. h) (uppers d) _ _ high
    (rows-lines (samples d table) fit)))))
  where
    parts : head_text d title ++ rows_text (samples d table) ≡
        title_text d.title.there title ++ (size_text d.kind d.n ++ (bounds_text ALower (lowers d) ++ (bounds_text AnUpper (uppers d) ++ rows_text (samples d table))))
    parts = simp append_assoc

-- what is written keeps the specification, with the description fitted to the new file and the same samples
pub written_keeps : (d : Description) (table : List ℤ) (title : List ℕ) (places : ℕ) → could_be_read d table ≡ true → title_fits d.title.there title ≡ true → 3 * rows d ≤ places
    → Keeps (file_text d table title) places (fitted d title) (take (3 * rows d) table)
unfolding fitted
written_keeps d table title places readable fits room =
    let e = fitted d title in
    let s : Sound e table = sound-of e table (fitted-24 d table title ∙ readable) in
    let rs = threes (samples d table) in
    let t = threes-all (rows d) (samples d table) (length-take-le (3 * rows d) table s.long) in
    record {
      items = items d title rs;
      lines = written-lines d table title (sound-of d table readable) fits;
      order = keywords-first d title rs;
      title = one-title d title rs;
      lower = rw (one_lower d title rs) refl;
      upper = rw (one-upper d title rs) refl;
      size = one_size d title rs;
      domain = rw (one_lower d title rs, one-upper d title rs) tt;
      ordered_so = each-every ordered e (λ c. less-ordered _ (s.domains c).order);
      narrow_so = each-every narrow e (λ c. width_narrow _ (s.domains c).narrow);
      agree_so = agreed-agree e d.kind s.agreed;
      room = room;
      count = ap length (all-rows d title rs) ∙ t.0;
      values = t.1 ∙ ap (λ (x : List Row). flatten (map numbers_of x)) (sym (all-rows d title rs));
    }
