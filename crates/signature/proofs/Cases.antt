-- The cases of document 01 come out as the paper says: a test that antt computes over each table.
use Prim.Native.Nat.{ℕ, ◌<◌}
use mathlib.Core.Path.{◌≡◌, refl, ap₂}
use mathlib.Core.Bool.{Bool, true, false, ◌&&◌, false≢true}
use mathlib.Core.List.{List, [], ◌∷◌}
use borrow.Author.Tests.{eqb-true, lt-leb}
use lib.Dec.{eqb}
use lib.IntN.{ℤ}
use lib.ListN.{length}
use lib.Signed.{le_z, le_z_yes}
use Rattle.whole.specs.Nearest.{code}
use Rattle.whole.proofs.Halves as H
use Rattle.whole.proofs.Held.{passed}
use Rattle.rules.specs.Descriptions.{bounds_fit, ordered, narrow, same_domain, one_domain, whole_bounds, agree, common_span, roomy, samples_fit, could_be_read}
use Rattle.rules.specs.Reading.Lines.{bytes, every, run, after, starts, same, on_first, lines_of, words_of}
use Rattle.rules.specs.Reading.Numerals.{digits, spell}
use Rattle.rules.specs.Reading.Numbers.{unsigned, exponent_of, numeral_with, numeral_of, settle, number_of}
use Rattle.rules.specs.Reading.Contents.{keyword_of, word_form, form_of, closes, quoted, title_of, three_of, bounds_of, samples_on, size_of, parameters, content_by}
use Rattle.rules.specs.Reading.Judge.{add, describe, repeats, need, first, domain_fault, given_fault, head_fault, byte_fault, order_fault, take_in, unless, judge, end_fault}
use Rattle.rules.specs.Reading.{read_lines, read, samples_in, samples_of, table_after}
use Rattle.rules.specs.Reporting.{report, report_bytes}
use Rattle.rules.specs.Fields.{parted}
use Rattle.rules.specs.Decimals.{decimal_in, decimal, sign, places_of, after_point, decimals_of}
use Rattle.rules.specs.Writing.{title_text, size_text, bounds_text, row_text, rows_text, head_text, file_text, title_fits, write, bytes_after}
use Rattle.rules.specs.Looking.Interpolation.{offset, position, index, fraction, brought, pair_by, chart, order, climb, path_by, pair, path, code_by}
use Rattle.rules.specs.Looking.Judging.{share_judged, each_judged, sum_judged}
use Rattle.rules.specs.Looking.{within, shown, rows_with, first_half, judged_all, second_half, look_at, look}
use Rattle.rules.specs.Picturing.{each_pixel, picture_with, picture, output_after}
use Rattle.rules.specs.Inverting.{try_next, try_on, search, inverse_at, inverse}
use Rattle.rules.specs.Answers.{refusal_number, read_number, read_line}
use Rattle.rules.proofs.Tests.{and_both}
use Rattle.rules.proofs.Reading.Wordings.{same-eq}
use Rattle.signature.specs.Cases.{Outcome, Case, outcome, marked, numbered, halves, mixed, points, two_depths, written, two_halves, inverses, AllMet, ReadA3}

-- ---- a test that antt computes over a whole table, and what it tells

abbrev same_numbers : List ℤ → List ℤ → Bool
same_numbers [] [] = true
same_numbers [] (y ∷ ys) = false
same_numbers (x ∷ xs) [] = false
same_numbers (x ∷ xs) (y ∷ ys) = le_z x y && (le_z y x && same_numbers xs ys)

numbers-eq : (xs ys : List ℤ) → same_numbers xs ys ≡ true → xs ≡ ys
numbers-eq [] [] e = refl
numbers-eq [] (y ∷ ys) e = absurd (false≢true e)
numbers-eq (x ∷ xs) [] e = absurd (false≢true e)
numbers-eq (x ∷ xs) (y ∷ ys) e =
    let a = and_both (le_z x y) _ e in
    let b = and_both (le_z y x) (same_numbers xs ys) a.1 in
    ap₂ ◌∷◌ (H.≤-antisymm (le_z_yes (passed (le_z x y) a.0)) (le_z_yes (passed (le_z y x) b.0))) (numbers-eq xs ys b.1)

abbrev agrees : Outcome → Outcome → Bool
agrees x y =
    eqb x.number y.number
    && (eqb x.line y.line
    && (same_numbers x.table y.table
    && (same x.codes y.codes
    && (same x.rows y.rows
    && (same_numbers x.weights y.weights
    && (same x.text y.text
    && eqb x.count y.count))))))

outcome-eq : (x y : Outcome) → agrees x y ≡ true → x ≡ y
outcome-eq x y e =
    let a = and_both (eqb x.number y.number) _ e in
    let b = and_both (eqb x.line y.line) _ a.1 in
    let c = and_both (same_numbers x.table y.table) _ b.1 in
    let d = and_both (same x.codes y.codes) _ c.1 in
    let f = and_both (same x.rows y.rows) _ d.1 in
    let g = and_both (same_numbers x.weights y.weights) _ f.1 in
    let h = and_both (same x.text y.text) _ g.1 in
    let number : x.number ≡ y.number = eqb-true _ _ a.0 in
    let line : x.line ≡ y.line = eqb-true _ _ b.0 in
    let table : x.table ≡ y.table = numbers-eq _ _ c.0 in
    let codes : x.codes ≡ y.codes = same-eq _ _ d.0 in
    let rows : x.rows ≡ y.rows = same-eq _ _ f.0 in
    let weights : x.weights ≡ y.weights = numbers-eq _ _ g.0 in
    let text : x.text ≡ y.text = same-eq _ _ h.0 in
    let count : x.count ≡ y.count = eqb-true _ _ h.1 in
    λ i. record { number = number i; line = line i; table = table i; codes = codes i; rows = rows i; weights = weights i; text = text i; count = count i }

abbrev test : List Case → Bool
test [] = true
test (c ∷ cs) = agrees (outcome c.asked) c.expected && test cs

tested : (cs : List Case) → test cs ≡ true → AllMet cs
tested [] e = tt
tested (c ∷ cs) e =
    let a = and_both (agrees (outcome c.asked) c.expected) (test cs) e in
    (outcome-eq (outcome c.asked) c.expected a.0, tested cs a.1)

-- every definition, opened for computation: to unfold one of these is to unfold what its line names
unfoldable words_opened : ℕ
unfolding bytes every run after starts same on_first lines_of words_of
words_opened = 0

unfoldable numbers-opened : ℕ
unfolding unsigned digits exponent_of numeral_with numeral_of spell settle number_of
numbers-opened = 0

unfoldable contents-opened : ℕ
unfolding keyword_of word_form form_of closes quoted title_of three_of parameters bounds_of samples_on size_of content_by
contents-opened = 0

unfoldable lines-opened : ℕ
unfolding need first take_in unless add describe repeats domain_fault given_fault head_fault byte_fault order_fault judge end_fault read_lines read samples_in samples_of table_after
lines-opened = 0

unfoldable tables-opened : ℕ
unfolding bounds_fit ordered narrow same_domain one_domain whole_bounds agree common_span roomy samples_fit could_be_read
tables-opened = 0

unfoldable looks-opened : ℕ
unfolding offset position index fraction brought pair_by chart order climb path_by pair path code_by code within shown rows_with look_at look
looks-opened = 0

unfoldable halves-opened : ℕ
unfolding first_half share_judged each_judged sum_judged judged_all second_half
halves-opened = 0

unfoldable writes-opened : ℕ
unfolding decimal_in decimal sign places_of after_point decimals_of parted title_text size_text bounds_text row_text rows_text head_text file_text title_fits write bytes_after
writes-opened = 0

unfoldable inverses-opened : ℕ
unfolding try_next try_on search inverse_at inverse
inverses-opened = 0

unfoldable pub opened : ℕ
unfolding words_opened numbers-opened contents-opened lines-opened tables-opened looks-opened halves-opened writes-opened inverses-opened each_pixel picture_with picture output_after refusal_number
opened = 0

marked-pass : test marked ≡ true
unfolding opened
marked-pass = refl

numbered-pass : test numbered ≡ true
unfolding opened
numbered-pass = refl

points-pass : test points ≡ true
unfolding opened
points-pass = refl

halves-pass : test halves ≡ true
unfolding opened
halves-pass = refl

two-depths-pass : test two_depths ≡ true
unfolding opened
two-depths-pass = refl

mixed-pass : test mixed ≡ true
unfolding opened
mixed-pass = refl

written-pass : test written ≡ true
unfolding opened
written-pass = refl

two-halves-pass : test two_halves ≡ true
unfolding opened
two-halves-pass = refl

inverses-pass : test inverses ≡ true
unfolding opened
inverses-pass = refl

-- the cases of document 01 that are marked P
pub marked-met : AllMet marked
marked-met = tested marked marked-pass

-- the numbers 1 to 8, 10 to 15, 18 and 20 to 24 are given where document 01 says; 0, 9, 16 and 17 are among the cases marked P
pub numbered-met : AllMet numbered
numbered-met = tested numbered numbered-pass

-- document 02's points with nothing after them
pub points-met : AllMet points
points-met = tested points points-pass

-- document 02's half domains
pub halves-met : AllMet halves
halves-met = tested halves halves-pass

-- document 02's two depths
pub two-depths-met : AllMet two_depths
two-depths-met = tested two_depths two-depths-pass

-- document 02's different domains in 3D
pub mixed-met : AllMet mixed
mixed-met = tested mixed mixed-pass

-- document 02's tables that are written
pub written-met : AllMet written
written-met = tested written written-pass

-- document 02's two halves of a look
pub two-halves-met : AllMet two_halves
two-halves-met = tested two_halves two-halves-pass

-- document 02's inverse on one colour
pub inverses-met : AllMet inverses
inverses-met = tested inverses inverses-pass

-- 30, on line 0
pub report-30 : (input : List ℕ) → report_bytes < length input → (read_number (report input) ≡ 30) × (read_line (report input) ≡ 0)
unfolding report refusal_number
report-30 input h = (rw (lt-leb (length input) report_bytes h), rw (lt-leb (length input) report_bytes h))

pub read-a3 : ReadA3
unfolding opened
read-a3 = record { answer = refl; table = refl }
