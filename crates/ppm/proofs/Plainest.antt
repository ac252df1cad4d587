-- The header in its plainest form says what it was made of, whatever follows it, and the pixels begin right behind it.
use Prim.Native.Nat.{ℕ, ◌+◌, ◌-◌, ◌≤◌, ◌<◌}
use mathlib.Core.Path.{◌≡◌, refl, sym, ap, ap₂, ◌∙◌}
use mathlib.Core.Bool.{true, false}
use mathlib.Core.List.{List, [], ◌∷◌, ◌++◌, append_assoc}
use native.Mathlib.Omega.{arith}
use borrow.Author.Tests.{ne_eqb, le-leb, lt-leb, leb-true, le-ltb}
use lib.Dec.{ltb}
use lib.ListN.{length, take, drop, get_or, length-append}
use lib.Seq.{take_at, drop_at, get_or-append-add}
use Rattle.rules.specs.Decimals.{decimal}
use Rattle.std.specs.Prelude.{Ok}
use Rattle.rules.specs.Reading.Lines.{digit, every, run, starts}
use Rattle.rules.specs.Reading.Numerals.{digits, spell}
use Rattle.rules.proofs.Tests.{and_both, no_true}
use Rattle.rules.proofs.Reading.Runs.{run-append, starts-append}
use Rattle.signature.proofs.Decimals.{decimal-spells, decimal-digits}
use Rattle.scan.specs.RunEnds.{run_end}
use Rattle.ppm.specs.Header.{whitespace, goes_on, gap_length, gap_end, counted, field_between, field_at, most_size, most_maxval, with_maxval, after_height, with_height, after_width, with_width, starts_p6, header_of}
use Rattle.ppm.specs.Written.{header_text}
use Rattle.ppm.specs.declared.header.Part.{Part}
use Rattle.ppm.specs.declared.header.Part.TheVariants.{Width, Height, Maxval}

-- ---- a number, and the byte that ends it

-- a digit belongs to no gap
digit-no-gap : (b : ℕ) → digit b ≡ true → goes_on false b ≡ false
digit-no-gap b e =
    let both = and_both _ _ e in
    let low = leb-true 48 b both.0 in
    rw (ne_eqb b 35 (omega arith), ne_eqb b 32 (omega arith), le-leb 9 b (omega arith), lt-leb b 13 (omega arith))

no_gap : (l : List ℕ) → starts digit l ≡ true → gap_length false l ≡ 0
unfolding starts gap_length
no_gap [] e = refl
no_gap (b ∷ rest) e = rw (digit-no-gap b e)

module _ (n : ℕ) where
  shape : (starts digit (decimal n) ≡ true) × (every digit (decimal n) ≡ true)
  unfolding digits
  shape = and_both _ _ (decimal-digits n)

-- what begins with a digit is not empty
digit-first : (l : List ℕ) → starts digit l ≡ true → 0 < length l
unfolding starts
digit-first [] e = absurd (no_true (sym e))
digit-first (b ∷ rest) e = omega arith

module _ (part : Part) (limit n b : ℕ) (front rest : List ℕ) (small : n ≤ limit) (white : whitespace b ≡ true) (ends : digit b ≡ false) where
  abbrev text : List ℕ
  text = front ++ (decimal n ++ (b ∷ rest))

  -- where its digits end
  abbrev end : ℕ
  end = length front + length (decimal n)

  from : drop (length front) text ≡ decimal n ++ (b ∷ rest)
  from = drop_at front _ (length front) refl

  no-gap-here : gap_end false text (length front) ≡ length front
  no-gap-here = rw from (omega (arith, no_gap (decimal n ++ (b ∷ rest)) (starts-append digit (decimal n) (b ∷ rest) (shape n).0)))

  digits-end : run_end digit text (length front) ≡ end
  unfolding starts
  digits-end = ap (λ l. length front + length (run digit l)) from ∙ ap (λ l. length front + length l) (run-append digit (decimal n) (b ∷ rest) (shape n).1 ends).0

  long : length text ≡ end + 1 + length rest
  long = omega (arith, length-append front (decimal n ++ (b ∷ rest)), length-append (decimal n) (b ∷ rest))

  zeroth : (l : List ℕ) → get_or (l ++ (b ∷ rest)) (length l) 0 ≡ b
  zeroth l = ap (λ k. get_or (l ++ (b ∷ rest)) k 0) (omega arith) ∙ get_or-append-add l (b ∷ rest) 0 0

  ends_there : get_or text end 0 ≡ b
  ends_there = get_or-append-add front (decimal n ++ (b ∷ rest)) (length (decimal n)) 0 ∙ zeroth (decimal n)

  spelt : spell 0 (take (end - length front) (drop (length front) text)) ≡ n
  spelt =
      let count : end - length front ≡ length (decimal n) = omega arith in
      ap₂ (λ k l. spell 0 (take k l)) count from ∙ ap (spell 0) (take_at (decimal n) (b ∷ rest) (length (decimal n)) refl) ∙ decimal-spells n

  between : field_between part limit text (length front) end ≡ Ok (counted n (end + 1))
  unfolding field_between
  between = rw (
    ne_eqb end (length text) (omega (arith, long)),
    ne_eqb end (length front) (omega (arith, digit-first (decimal n) (shape n).0)),
    ends_there,
    white,
    spelt,
    le-leb n limit small,
  )

  -- it is read as it was written, and ends right behind its byte
  pub number_read : field_at part limit text (length front) ≡ Ok (counted n (end + 1))
  unfolding field_at
  number_read = ap₂ (field_between part limit text) no-gap-here (ap (run_end digit text) no-gap-here ∙ digits-end) ∙ between

-- ---- the header

module _ (width height maxval : ℕ) (rest : List ℕ) (w : width ≤ most_size) (h : height ≤ most_size) (m : maxval ≤ most_maxval) where
  -- what stands before each number, and what follows it
  abbrev front₁ : List ℕ
  front₁ = (80 ∷ 54 ∷ 10 ∷ []) ++ (decimal width ++ (32 ∷ []))

  abbrev front₂ : List ℕ
  front₂ = front₁ ++ (decimal height ++ (10 ∷ []))

  abbrev rest₂ : List ℕ
  rest₂ = decimal maxval ++ (10 ∷ rest)

  abbrev rest₁ : List ℕ
  rest₁ = decimal height ++ (10 ∷ rest₂)

  abbrev all : List ℕ
  all = (80 ∷ 54 ∷ 10 ∷ []) ++ (decimal width ++ (32 ∷ rest₁))

  parted₁ : all ≡ front₁ ++ rest₁
  parted₁ = ap (λ l. 80 ∷ 54 ∷ 10 ∷ l) (sym (append_assoc (decimal width) (32 ∷ []) rest₁))

  parted₂ : all ≡ front₂ ++ rest₂
  parted₂ = parted₁ ∙ ap (λ l. front₁ ++ l) (sym (append_assoc (decimal height) (10 ∷ []) rest₂)) ∙ sym (append_assoc front₁ (decimal height ++ (10 ∷ [])) rest₂)

  long₁ : length front₁ ≡ 3 + length (decimal width) + 1
  long₁ = omega (arith, length-append (decimal width) (32 ∷ []))

  long₂ : length front₂ ≡ length front₁ + length (decimal height) + 1
  long₂ = omega (arith, length-append front₁ (decimal height ++ (10 ∷ [])), length-append (decimal height) (10 ∷ []))

  width_read : field_at Width most_size all 3 ≡ Ok (counted width (3 + length (decimal width) + 1))
  width_read = number_read Width most_size width 32 (80 ∷ 54 ∷ 10 ∷ []) rest₁ w refl refl

  height-read : field_at Height most_size all (3 + length (decimal width) + 1) ≡ Ok (counted height (length front₁ + length (decimal height) + 1))
  height-read = ap₂ (field_at Height most_size) parted₁ (sym long₁) ∙ number_read Height most_size height 10 front₁ rest₂ h refl refl

  maxval-read : field_at Maxval most_maxval all (length front₁ + length (decimal height) + 1) ≡ Ok (counted maxval (length front₂ + length (decimal maxval) + 1))
  maxval-read = ap₂ (field_at Maxval most_maxval) parted₂ (sym long₂) ∙ number_read Maxval most_maxval maxval 10 front₂ rest m refl refl

  -- the text with what follows it
  written : header_text width height maxval ++ rest ≡ all
  unfolding header_text
  written =
      let last = decimal maxval ++ (10 ∷ []) in
      ap (λ l. 80 ∷ 54 ∷ 10 ∷ l)
      (append_assoc (decimal width) (32 ∷ (decimal height ++ (10 ∷ last))) rest
      ∙ ap (λ l. decimal width ++ (32 ∷ l)) (append_assoc (decimal height) (10 ∷ last) rest ∙ ap (λ l. decimal height ++ (10 ∷ l)) (append_assoc (decimal maxval) (10 ∷ []) rest)))

  ends-with-it : length front₂ + length (decimal maxval) + 1 ≡ length (header_text width height maxval)
  unfolding header_text
  ends-with-it =
      let last = decimal maxval ++ (10 ∷ []) in
      omega (arith, long₁, long₂, length-append (decimal width) (32 ∷ (decimal height ++ (10 ∷ last))), length-append (decimal height) (10 ∷ last), length-append (decimal maxval) (10 ∷ []))

  enough : ltb (length all) 4 ≡ false
  enough = le-ltb (length all) 4 (omega (arith, length-append (decimal width) (32 ∷ rest₁)))

  pub header_read : header_of (header_text width height maxval ++ rest)
      ≡ Ok (record { width = width; height = height; maxval = maxval; pixels = length (header_text width height maxval) })
  unfolding header_of starts_p6 with_width after_width with_height after_height with_maxval
  header_read = ap header_of written ∙ rw (enough, width_read, height-read, maxval-read, ends-with-it) refl
