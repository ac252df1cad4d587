-- The answer's text, put from the first byte on, is what the promise asks for.
use Prim.Native.Nat.{ℕ, ◌+◌, ◌≤◌, ◌<◌}
use mathlib.Core.Path.{◌≡◌, refl, sym, ap, ◌∙◌}
use mathlib.Core.Bool.{Bool, true, false, cond}
use mathlib.Core.List.{List, ◌++◌}
use native.Mathlib.Omega.{arith}
use borrow.Author.Tests.{le-leb, lt-leb}
use lib.Dec.{leb}
use lib.ListN.{length, drop}
use Rattle.rules.specs.Reading.{read}
use Rattle.rules.specs.Reporting.{report_bytes, report_places, report, answer_text, report_text, Reports}
use Rattle.rules.specs.declared.Description.{Description}
use Rattle.rules.specs.declared.Refusal.TheVariants.{InputTooLong}
use Rattle.rules.proofs.Reading.Bridge.{accepted-in-range}
use Rattle.rules.proofs.Reporting.Lengths.{title-inside, report-fits}
use Rattle.lettering.specs.Putting.{Room, Puts}
use Rattle.reporting.specs.Telling.{Tellable}
use Rattle.std.specs.Prelude.{Ok}
use Rattle.rules.specs.Results.{Read, refused_on}

-- ---- the answer by the input's length, and the text by the answer

module _ (input : List ℕ) where
  pub too_long : report_bytes < length input → refused_on InputTooLong 0 ≡ report input
  unfolding report
  too_long h = rw (lt-leb (length input) report_bytes h)

  pub short-enough : length input ≤ report_bytes → {r : Read} → r ≡ read input report_places → r ≡ report input
  unfolding report
  short-enough h e = rw (le-leb (length input) report_bytes h) e

  pub answered : {r s : Read} → r ≡ report input → r ≡ s → report_text input ≡ answer_text input s
  unfolding report_text
  answered e same = ap (answer_text input) (sym e ∙ same)

  -- an accepted answer is reading's
  pub of-reading : {d : Description} → Ok d ≡ report input → Ok d ≡ read input report_places
  unfolding report
  of-reading {d} e = split (leb (length input) report_bytes) refl e
    where
      split : (b : Bool) → leb (length input) report_bytes ≡ b → Ok d ≡ cond b (read input report_places) (refused_on InputTooLong 0) → Ok d ≡ read input report_places
      split true t h = h
      split false t h = let z : ◌≡◌ {A = ℕ} 0 1 = cc in absurd (omega arith)

  -- what an accepted file's text asks of the description
  pub tellable : {d : Description} → Ok d ≡ report input → Tellable input d
  tellable {d} e =
      let accepted = sym (of-reading e) in
      record {
        range = accepted-in-range input report_places d accepted;
        title = record { within = title-inside input report_places d accepted };
      }

-- ---- the lent bytes

module _ (input : List ℕ) {text : List ℕ} (text_so : report_text input ≡ text) {out : List ℕ} where
  pub room : length out ≡ 512 → Room out 0 text
  room e = record { fits = omega (arith, report-fits input, ap length text_so) }

  pub reports : {r : ℕ} {out' : List ℕ} → Puts out 0 text r out' → Reports input out r out'
  reports {r} p =
      let n : 0 + length text ≡ length text = omega arith in
      record {
        count = p.after ∙ n ∙ ap length (sym text_so);
        memory = p.memory ∙ ap (λ k. text ++ drop k out) (sym p.after) ∙ ap (λ t. t ++ drop r out) (sym text_so);
      }
