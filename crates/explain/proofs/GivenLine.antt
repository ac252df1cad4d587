-- A line that is accepted can be shown like a look, whoever wrote it, and no code lies outside the codes that are shown beside it.
use Prim.Native.Nat.{ℕ, ◌≤◌}
use mathlib.Core.Path.{◌≡◌, refl, sym, ap, subst, ◌∙◌}
use mathlib.Core.Bool.{Bool, true, false}
use mathlib.Core.List.{List}
use native.Mathlib.Omega.{arith}
use lib.IntN.{ℤ}
use Rattle.rules.specs.Units.{depths_of, raw_m, corrected_m, code_in}
use Rattle.rules.specs.Descriptions.{rows, could_be_read}
use Rattle.rules.specs.Looking.Interpolation.{den_of}
use Rattle.rules.specs.Looking.{used, codes_by, judged_all, second_half}
use Rattle.rules.specs.Answers.{refusal_number, second_number}
use Rattle.rules.specs.Promises.{GivesCodes}
use Rattle.rules.specs.declared.Bits.{Bits}
use Rattle.rules.specs.declared.Codes.{Codes}
use Rattle.rules.specs.declared.Colour.{Colour}
use Rattle.rules.specs.declared.Depths.{Depths}
use Rattle.rules.specs.declared.Description.{Description}
use Rattle.rules.specs.declared.Refusal.{Refusal}
use Rattle.rules.specs.declared.Refusal.TheVariants.{RowsOrWeightsWrong}
use Rattle.rules.specs.declared.Shares.{Shares}
use Rattle.rules.proofs.Answers.{refused-not-0, gives-is}
use Rattle.rules.proofs.KnownDepths.{depths-bounds}
use Rattle.rules.proofs.Looking.Demand3.{codes-right}
use Rattle.rules.proofs.Looking.Halves.{second-24, second-26, second-0}
use Rattle.rules.proofs.Looking.Judging.{all-weighable}
use Rattle.colour.specs.Plans.{Readable}
use Rattle.explain.specs.Spans.{shown_span, Seen}
use Rattle.explain.proofs.Between.{right-between}
use Rattle.std.specs.Prelude.{Err, Ok, Some}
use Rattle.rules.specs.declared.Misfit.TheVariants.{NegativeWeight, RowBeyond, WrongSum}
use Rattle.rules.specs.Results.{Judged, SecondHalf}

module _ {d : Description} {table : List ℤ} {bits : Bits} {shares : Shares} {r : SecondHalf} (g : GivesCodes d table bits shares r) where
  -- 26 comes after 24
  pub refused-readable : r ≡ Err RowsOrWeightsWrong → Readable d
  unfolding refusal_number
  refused-readable e = by (could_be_read d table) refl
    where
      by : (b : Bool) → could_be_read d table ≡ b → Readable d
      by true could = (table, could)
      by false could = let numbers = ap second_number (sym e ∙ gives-is g ∙ second-24 d table bits shares could) in absurd (omega (arith, numbers))

  -- ---- accepted

  module _ {codes : Codes} (e : r ≡ Ok codes) (depths : Depths) (known : depths_of bits ≡ Some depths) where
    not-refused : {reason : Refusal} → second_half d table bits shares ≡ Err reason → ⊥
    not-refused {reason} h = refused-not-0 reason (sym (ap second_number h) ∙ ap second_number (sym (gives-is g) ∙ e))

    could : could_be_read d table ≡ true
    could = by (could_be_read d table) refl
      where
        by : (b : Bool) → could_be_read d table ≡ b → could_be_read d table ≡ true
        by true e = e
        by false e = absurd (not-refused (second-24 d table bits shares e))

    fit : judged_all d (raw_m depths) shares ≡ (Ok tt)
    fit = by (judged_all d (raw_m depths) shares) refl
      where
        only : {j : Judged} → judged_all d (raw_m depths) shares ≡ j → (j ≡ (Ok tt) → ⊥) → ⊥
        only h not-fit = not-refused (second-26 d table bits shares depths could known (λ f. not-fit (sym h ∙ f)))

        by : (j : Judged) → judged_all d (raw_m depths) shares ≡ j → judged_all d (raw_m depths) shares ≡ (Ok tt)
        by (Ok _) h = h
        by (Err RowBeyond) h = absurd (only h (λ f. let z : ◌≡◌ {A = ℕ} 0 1 = cc in omega arith))
        by (Err NegativeWeight) h = absurd (only h (λ f. let z : ◌≡◌ {A = ℕ} 0 1 = cc in omega arith))
        by (Err WrongSum) h = absurd (only h (λ f. let z : ◌≡◌ {A = ℕ} 0 1 = cc in omega arith))

    codes_same : codes ≡ codes_by d table depths shares
    codes_same = let q = sym e ∙ gives-is g ∙ second-0 d table bits shares depths could known fit in cc

    -- it can be shown
    pub line-seen : Seen d table depths shares
    line-seen = record {
      could = could;
      deep = (depths-bounds bits depths known).0.0;
      in_table = λ c. (all-weighable d (raw_m depths) shares fit c).in_table;
    }

    -- no colour's code lies outside the codes that are shown beside it
    pub line-between : (c : Colour) → let span = shown_span d table depths shares c in (span.least ≤ code_in codes c) × (code_in codes c ≤ span.greatest)
    line-between c =
        subst (λ x. let span = shown_span d table depths shares c in (span.least ≤ code_in x c) × (code_in x c ≤ span.greatest)) (sym codes_same)
        (right-between table c (rows d) (den_of d (raw_m depths) c) (corrected_m depths) (used d.kind c shares)
        (codes-right d table depths shares could (depths-bounds bits depths known).0.0 c (all-weighable d (raw_m depths) shares fit c)))
