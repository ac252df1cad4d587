-- The bytes that the report program prints: its promise decides them, document 01's file prints as the paper has it, only the first 65,537 bytes of the input
-- matter, and wrong programs are ruled out.
use Prim.Native.Nat.{ℕ, ◌<◌}
use Prim.Native.String.{String}
use mathlib.Core.Path.{◌≡◌, refl, sym, ap, ◌∙◌}
use mathlib.Core.Bool.{Bool, true, false}
use mathlib.Core.List.{List, [], ◌++◌}
use native.Mathlib.Omega.{arith}
use borrow.Author.Tests.{leb-true, leb-false, lt-leb}
use lib.Dec.{leb}
use lib.ListN.{length, take, drop, get_or, replicate}
use lib.Seq.{take_all, length-take-le}
use Rattle.rules.specs.Reading.Lines.{bytes}
use Rattle.rules.specs.Decimals.{decimal_in, decimal, sign, signed_decimal}
use Rattle.rules.specs.Fields.{parted}
use Rattle.rules.specs.Reporting.{report_bytes, report, cube_line, domain_line, domain_lines, title_line, refused_line, answer_text, report_text, Reports}
use Rattle.signature.specs.Cases.{sample_a3, corner, half_below, corner_report, report_a3, half_below_report}
use Rattle.signature.proofs.Cases.{opened}

-- the definitions of what is printed, opened for computation
unfoldable printed : ℕ
unfolding report decimal_in decimal sign signed_decimal parted cube_line domain_line domain_lines title_line refused_line answer_text report_text
printed = 0

-- ---- the promise decides the count and every byte

pub reports-one : {input out out' out'' : List ℕ} {n m : ℕ} → Reports input out n out' → Reports input out m out'' → (n ≡ m) × (out' ≡ out'')
reports-one {input} {out} p q =
    let e = p.count ∙ sym q.count in
    (e, p.memory ∙ ap (λ k. report_text input ++ drop k out) e ∙ sym q.memory)

-- ---- what is printed of some inputs

-- document 01's 3D file
pub report-corner : report_text (bytes corner) ≡ bytes corner_report
unfolding opened printed
report-corner = refl

-- sample A.3, with a title
pub report-a3 : report_text (bytes sample_a3) ≡ bytes report_a3
unfolding opened printed
report-a3 = refl

-- an empty title, and a lower bound below 0
pub report-half-below : report_text (bytes half_below) ≡ bytes half_below_report
unfolding opened printed
report-half-below = refl

-- an empty input
pub report-empty : report_text [] ≡ bytes "refused\t9\t1\n"
unfolding opened printed
report-empty = refl

-- longer input
pub report-long : (input : List ℕ) → report_bytes < length input → report_text input ≡ bytes "refused\t30\t0\n"
unfolding opened printed
report-long input h = rw (lt-leb (length input) report_bytes h)

-- ---- only the first 65,537 bytes matter, so that a buffer one byte longer than the longest input tells it from a longer one

pub first-bytes : (input : List ℕ) → report_text (take 65_537 input) ≡ report_text input
first-bytes input = split (leb (length input) 65_537) refl
  where
    split : (t : Bool) → leb (length input) 65_537 ≡ t → report_text (take 65_537 input) ≡ report_text input
    split true e = ap report_text (take_all 65_537 input (leb-true _ _ e))
    split false e =
        let longer = leb-false (length input) 65_537 e in
        report-long (take 65_537 input) (omega (arith, length-take-le 65_537 input (omega arith))) ∙ sym (report-long input (omega arith))

-- ---- wrong programs

abbrev pub Reporter : Type 0
Reporter = List ℕ → List ℕ → ℕ × List ℕ

-- the promise, of 512 lent bytes
abbrev pub ReportsAll : Reporter → Type 0
ReportsAll f = (input out : List ℕ) → length out ≡ 512 → Reports input out (f input out).0 (f input out).1

abbrev lent : List ℕ
lent = replicate 512 77

abbrev at : ℕ → List ℕ → ℕ
at k xs = get_or xs k 0

module _ (f : Reporter) (keeps : ReportsAll f) where
  -- what it leaves in bytes that hold 77
  abbrev left : String → List ℕ
  left file = (f (bytes file) lent).1

  left_is : (file : String) (text : List ℕ) → report_text (bytes file) ≡ text → left file ≡ text ++ drop (length text) lent
  left_is file text e =
      let k = keeps (bytes file) lent refl in
      k.memory ∙ ap (λ n. report_text (bytes file) ++ drop n lent) k.count ∙ ap (λ t. t ++ drop (length t) lent) e

  pub prints-nothing : ((input out : List ℕ) → (f input out).0 ≡ 0) → ⊥
  unfolding bytes
  prints-nothing never = let z : ◌≡◌ {A = ℕ} 0 12 = sym (never [] lent) ∙ (keeps [] lent refl).count ∙ ap length report-empty in omega arith

  -- lower and upper bound exchanged
  pub exchanges-bounds : take 33 (left half_below) ≡ bytes "cube\t1D\t2\t2\ndomain\tred\t1000\t-500\n" → ⊥
  unfolding bytes
  exchanges-bounds e =
      let z : ◌≡◌ {A = ℕ} 45 49 = sym (ap (λ l. at 23 (take 33 l)) (left_is half_below _ report-half-below)) ∙ ap (at 23) e in
      omega arith

  -- the rows in N's place
  pub rows-for-n : take 12 (left corner) ≡ bytes "cube\t3D\t8\t8\n" → ⊥
  unfolding bytes
  rows-for-n e = let z : ◌≡◌ {A = ℕ} 50 56 = sym (ap (λ l. at 8 (take 12 l)) (left_is corner _ report-corner)) ∙ ap (at 8) e in omega arith

  -- a byte changed behind the text, which has 78 for document 01's 3D file
  pub writes-past-the-text : (at 78 (left corner) ≡ at 78 lent → ⊥) → ⊥
  unfolding bytes
  writes-past-the-text other = other (ap (at 78) (left_is corner _ report-corner))
