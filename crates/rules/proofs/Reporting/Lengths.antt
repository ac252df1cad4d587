-- How long the report's text is: it stands whole in the bytes that it is put into, for it fits 512 places.
use Prim.Native.Nat.{ℕ, ◌+◌, ◌≤◌, ◌<◌}
use mathlib.Core.Path.{◌≡◌, refl, ap, subst}
use mathlib.Core.Bool.{Bool, true, false, cond}
use mathlib.Core.List.{List, [], ◌∷◌}
use native.Mathlib.Omega.{arith}
use borrow.Author.Tests.{leb-true}
use lib.Dec.{leb, eqb}
use lib.ListN.{length, take, drop, length-append, length-take}
use Rattle.rules.specs.Units.{greatest_n, rows_of}
use Rattle.rules.specs.Decimals.{decimal, signed_decimal}
use Rattle.rules.specs.Descriptions.{rows, domain, no_title, bounds_fit}
use Rattle.rules.specs.Reading.Lines.{line_limit, bytes, lines_of, newlines}
use Rattle.rules.specs.Reading.Items.{title_in}
use Rattle.rules.specs.Reading.Grammar.{Line, gather, Keeps}
use Rattle.rules.specs.Reading.Judge.{start}
use Rattle.rules.specs.Reading.{read, samples_of}
use Rattle.rules.specs.Answers.{refusal_number}
use Rattle.rules.specs.Fields.{parted}
use Rattle.rules.specs.Reporting.{report_bytes, report_places, report, line_of, cube_line, domain_line, domain_lines, title_line, refused_line, answer_text, report_text, Reports}
use Rattle.rules.specs.declared.Colour.{Colour}
use Rattle.rules.specs.declared.Colour.TheVariants.{Red, Green, Blue}
use Rattle.rules.specs.declared.Description.{Description}
use Rattle.rules.specs.declared.Domain.{Domain}
use Rattle.rules.specs.declared.Item.{Item}
use Rattle.rules.specs.declared.Kind.{Kind}
use Rattle.rules.specs.declared.Kind.TheVariants.{OneD, ThreeD}
use Rattle.rules.specs.declared.Refusal.{Refusal}
use Rattle.rules.specs.declared.Refusal.TheVariants.{InputTooLong}
use Rattle.rules.specs.declared.Title.{Title}
use Rattle.rules.proofs.Tests.{and_both}
use Rattle.rules.proofs.Reading.Sorts.{title-item}
use Rattle.rules.proofs.Reading.Acceptance.{accepted-keeps}
use Rattle.rules.proofs.Reading.Refusals.{Stopped, at-line, at-end, refused-first, lines-count}
use Rattle.rules.proofs.Reading.Titles.{title-stands, titled-inside}
use Rattle.rules.proofs.Sound.{bounds-within, every-each}
use Rattle.rules.proofs.Reading.Bridge.{gathered, only_one, in-range, bounds-fit}
use Rattle.rules.proofs.Answers.{number-below}
use Rattle.rules.proofs.Decimals.{decimal-within, signed-within}
use Rattle.std.specs.Prelude.{Err, Ok, Some}
use Rattle.rules.specs.Results.{Read, refused_on}

-- the text stands whole in the bytes
pub text-inside : {input out out' : List ℕ} {n : ℕ} → Reports input out n out' → n ≤ length out'
text-inside {input} {out} {out'} {n} p = omega (arith, p.count, ap length p.memory, length-append (report_text input) (drop n out))

-- ---- how long the lines are: names, tabs and newline beside the fields

cube-length : (k : Kind) (n : ℕ) → length (cube_line k n) ≡ 10 + length (decimal n) + length (decimal (rows_of k n))
unfolding cube_line parted bytes
cube-length OneD n = simp length-append (omega arith)
cube-length ThreeD n = simp length-append (omega arith)

domain-length : (c : Colour) (dom : Domain) → length (domain_line c dom) ≤ 15 + length (signed_decimal dom.lower.0) + length (signed_decimal dom.upper.0)
unfolding domain_line parted bytes
domain-length Red dom = simp length-append (omega arith)
domain-length Green dom = simp length-append (omega arith)
domain-length Blue dom = simp length-append (omega arith)

title-length : (input : List ℕ) (t : Title) → length (title_line input t) ≤ 11 + t.length
unfolding title_line parted bytes
title-length input t = split t.there
  where
    split : (there : Bool) → length (cond there (line_of (bytes "title" ∷ bytes "yes" ∷ take t.length (drop t.place input) ∷ [])) (line_of (bytes "title" ∷ bytes "no" ∷ []))) ≤ 11 + t.length
    split true = simp (length-append, length-take) (omega arith)
    split false = omega arith

refused-length : (number line : ℕ) → length (refused_line number line) ≡ 10 + length (decimal number) + length (decimal line)
unfolding refused_line parted bytes
refused-length number line = simp length-append (omega arith)

-- ---- what an accepted file tells: the title lies within it, and every line is short

module _ (file : List ℕ) (places : ℕ) (d : Description) (accepted : read file places ≡ Ok d) where
  kept : Keeps file places d (samples_of (lines_of file))
  kept = accepted-keeps file places d accepted

  pub title-inside : d.title.there ≡ true → d.title.place + d.title.length ≤ length file
  title-inside there =
      let inside = titled-inside file d.title (title-stands file places d (samples_of (lines_of file)) kept there) in
      omega arith

  -- a title is no longer than its line
  title-short : d.title.length ≤ line_limit
  title-short =
      only_one (λ t. t.length ≤ line_limit) (gather title_in kept.items) no_title d.title (omega arith)
      (gathered title_in _ short 0 (lines_of file) kept.items kept.lines) kept.title
    where
      short : (p : ℕ) (l : List ℕ) (i : Item) (t : Title) → title_in i ≡ Some t → Line p l i → t.length ≤ line_limit
      short p l i t e h =
          let k = subst (λ (j : Item). Line p l j) (title-item i t e) h in
          let g = simp length-append at (ap length k.gives.line) in
          omega (arith, ap (λ (x : Title). x.length) k.gives.title_so, k.short)

  n_within : d.n ≤ 65_536
  n_within = by_kind d.kind (leb-true _ _ (and_both (leb 2 d.n) _ (in-range file places d _ kept)).1)
    where
      by_kind : (k : Kind) → d.n ≤ greatest_n k → d.n ≤ 65_536
      by_kind OneD h = h
      by_kind ThreeD h = omega arith

  -- five digits and a sign for each bound
  domain-short : (c : Colour) → length (domain_line c (domain d c)) ≤ 27
  domain-short c =
      let dom = domain d c in
      let b = bounds-within dom (every-each bounds_fit d (bounds-fit file places d _ kept) c) in
      omega (arith, domain-length c dom, signed-within 4 dom.lower.0 (omega arith), signed-within 4 dom.upper.0 (omega arith))

-- ---- the text fits 512 bytes

-- at most five digits for N, and four for the rows, three times which are at most 8,190
accepted-fits : (file : List ℕ) (d : Description) → read file report_places ≡ Ok d → length (answer_text file (Ok d)) ≤ 365
unfolding answer_text domain_lines
accepted-fits file d e =
    let short = domain-short file report_places d e in
    simp length-append
    (omega (
      arith,
      cube-length d.kind d.n,
      decimal-within 4 d.n (omega (arith, n_within file report_places d e)),
      decimal-within 3 (rows d) (omega (arith, (kept file report_places d e).room)),
      short Red,
      short Green,
      short Blue,
      title-length file d.title,
      title-short file report_places d e,
    ))

newlines-within : (s : List ℕ) → newlines s ≤ length s
unfolding newlines
newlines-within [] = omega arith
newlines-within (b ∷ rest) = split (eqb b 10) (newlines-within rest)
  where
    split : (t : Bool) → newlines rest ≤ length rest → cond t (1 + newlines rest) (newlines rest) ≤ length (b ∷ rest)
    split true h = omega arith
    split false h = omega arith

-- a line's number is at most 1 plus all bytes
pub line-within : (file : List ℕ) (places : ℕ) (r : Refusal) (line : ℕ) → read file places ≡ refused_on r line → line ≤ 1 + length file
line-within file places r line refused = split (refused-first file places r line refused)
  where
    split : Stopped places 0 0 start (lines_of file) r line → line ≤ 1 + length file
    split (at-line before l rest is e m x y z) = omega (arith, simp length-append at (ap length e), lines-count file, newlines-within file)
    split (at-end is m x y z) = omega (arith, lines-count file, newlines-within file)

-- two digits for the number, and five for the line
refused-fits : (file : List ℕ) (r : Refusal) (line : ℕ) → line < 100_000 → length (answer_text file (refused_on r line)) ≤ 17
unfolding answer_text
refused-fits file r line h =
    omega (arith, refused-length (refusal_number r) line, decimal-within 1 (refusal_number r) (omega (arith, number-below r)), decimal-within 4 line (omega arith))

pub report-fits : (input : List ℕ) → length (report_text input) ≤ 512
unfolding report_text report
report-fits input = by_length (leb (length input) report_bytes) refl
  where
    by_answer : length input ≤ report_bytes → (r : Read) → read input report_places ≡ r → length (answer_text input r) ≤ 512
    by_answer h (Ok d) e = omega (arith, accepted-fits input d e)
    by_answer h (Err x) e = omega (arith, refused-fits input x.reason x.line (omega (arith, line-within input report_places x.reason x.line e)))

    by_length : (t : Bool) → leb (length input) report_bytes ≡ t → length (answer_text input (cond t (read input report_places) (refused_on InputTooLong 0))) ≤ 512
    by_length true e = by_answer (leb-true _ _ e) (read input report_places) refl
    by_length false e = omega (arith, refused-fits input InputTooLong 0 (omega arith))
