-- What plays no part in `erythmoda_write`: the title's bytes where place 8 is 0, table places past 3·rows, and the eleven numbers' places 9 and 10; nor does it
-- matter which number but 0 marks a title.
use Prim.Native.Nat.{ℕ, suc, ◌*◌, ◌<◌}
use mathlib.Core.Path.{◌≡◌, refl, sym, ap, subst, ◌∙◌}
use mathlib.Core.Logic.{◌↔◌}
use mathlib.Core.Bool.{Bool, true, false, not, true≢false}
use mathlib.Core.List.{List}
use native.Mathlib.Omega.{arith}
use borrow.Author.Tests.{eqb-true, not-false}
use lib.Dec.{eqb}
use lib.IntN.{ℤ, pos, negsuc, nat_abs}
use lib.ListN.{length, take}
use Rattle.whole.specs.Integers.{up}
use Rattle.rules.specs.Descriptions.{no_title, rows}
use Rattle.rules.specs.Writing.{bytes_after, write}
use Rattle.rules.specs.Answers.{write_number, written_length}
use Rattle.rules.specs.Boundary.{bytes_in, called, description_in, described_in, kind_in, number_at, title_at, write_in, WritesC}
use Rattle.rules.specs.declared.Description.{Description}
use Rattle.rules.specs.declared.Kind.{Kind}
use Rattle.rules.specs.declared.Title.{Title}
use Rattle.rules.proofs.Tests.{no-some}
use Rattle.rules.proofs.Boundary.Described.{called-described, called-none}
use Rattle.signature.proofs.Untitled.{retitled}
use Rattle.signature.proofs.Writing.NoPart.{WrittenAlike, later-places, own-title, unmarked}
use Rattle.signature.proofs.Boundary.Crossing.{described-kind, described-none, kind_at}
use Rattle.signature.proofs.Boundary.Writes.{by-description}
use Rattle.std.specs.Prelude.{None, Option, Some}

-- ---- calls that are the same

-- what keeps the promise of one input keeps that of another with the same answer and the same bytes afterwards
same-promise : {eleven other table table₂ : List ℤ} {title words out out' : List ℕ} {number length' : ℕ}
    → write_in eleven table title (length out) ≡ write_in other table₂ words (length out) → bytes_in eleven table title out ≡ bytes_in other table₂ words out
    → WritesC eleven table title out number out' length' → WritesC other table₂ words out number out' length'
same-promise answer memory h =
    record { number_so = h.number_so ∙ ap write_number answer; length_so = h.length_so ∙ ap written_length answer; memory = h.memory ∙ memory }

-- two calls that are the same of the description that eleven numbers give
pub same-of-both : (eleven : List ℤ) {A : Type 0} (refusal : A) (call call₂ : Description → A) → ((d : Description) → described_in eleven ≡ Some d → call d ≡ call₂ d)
    → called refusal call eleven ≡ called refusal call₂ eleven
same-of-both eleven refusal call call₂ so =
    by-description eleven (λ e. called-none refusal call eleven e ∙ sym (called-none refusal call₂ eleven e))
    (λ d e. called-described refusal call eleven e ∙ so d e ∙ sym (called-described refusal call₂ eleven e))

-- another table or title that is written alike, by that description
alike-promised-c : {eleven table table₂ : List ℤ} {title words out out' : List ℕ} {number length' : ℕ}
    → ((d : Description) → described_in eleven ≡ Some d → WrittenAlike d table title d table₂ words)
    → WritesC eleven table title out number out' length' → WritesC eleven table₂ words out number out' length'
alike-promised-c {eleven} {table} {table₂} {title} {words} {out} alike =
    same-promise (same-of-both eleven _ (λ d. write d table title (length out)) (λ d. write d table₂ words (length out)) (λ d e. (alike d e).answer (length out)))
    (same-of-both eleven out (λ d. bytes_after d table title out (write d table title (length out)))
    (λ d. bytes_after d table₂ words out (write d table₂ words (length out)))
    (λ d e. (alike d e).memory out _ ∙ ap (bytes_after d table₂ words out) ((alike d e).answer (length out))))

-- ---- the mark, the title and the table

mark-number : (z : ℤ) → (not (eqb (nat_abs z) 0) ≡ false) ↔ (z ≡ pos 0)
mark-number z = (by z, λ e. ap (λ y. not (eqb (nat_abs y) 0)) e)
  where
    by : (z : ℤ) → not (eqb (nat_abs z) 0) ≡ false → z ≡ pos 0
    by (pos n) e = ap pos (eqb-true n 0 (not-false (eqb n 0) e))
    by (negsuc n) e = let z : suc n ≡ 0 = eqb-true (suc n) 0 (not-false (eqb (suc n) 0) e) in absurd (omega arith)

abbrev title_given : Option Description → Title
title_given None = no_title
title_given (Some d) = d.title

-- the mark is set exactly where place 8 is not 0
pub mark-described : (eleven : List ℤ) (d : Description) → described_in eleven ≡ Some d → (d.title.there ≡ false) ↔ (number_at eleven 8 ≡ pos 0)
mark-described eleven d e = subst (λ (t : Title). (t.there ≡ false) ↔ (number_at eleven 8 ≡ pos 0)) (by (kind_in eleven) refl) (mark-number (number_at eleven 8))
  where
    by : (o : Option Kind) → kind_in eleven ≡ o → title_at eleven ≡ d.title
    by None q = absurd (no-some d (sym e ∙ described-none eleven q))
    by (Some k) q = ap title_given (sym (described-kind eleven k q) ∙ e)

-- where it is 0 the title's bytes are neither written nor judged
pub unmarked-c : {eleven table : List ℤ} {title out out' : List ℕ} {number length' : ℕ} → number_at eleven 8 ≡ pos 0 → (words : List ℕ)
    → WritesC eleven table title out number out' length' → WritesC eleven table words out number out' length'
unmarked-c {eleven} {table} {title} mark words = alike-promised-c (λ d e. unmarked d table title ((mark-described eleven d e).1 mark) words)

-- table places past 3·rows play no part
pub later-places-c : {eleven table table₂ : List ℤ} {title out out' : List ℕ} {number length' : ℕ}
    → ((d : Description) → described_in eleven ≡ Some d → take (3 * rows d) table ≡ take (3 * rows d) table₂)
    → WritesC eleven table title out number out' length' → WritesC eleven table₂ title out number out' length'
later-places-c {eleven} {table} {table₂} {title} same = alike-promised-c (λ d e. later-places d table title table₂ (same d e))

-- ---- the title's place and length

-- eleven numbers that have the same in places 0 to 7, and a title both or neither
pub record SameMarked (eleven other : List ℤ) : Type 0 where
  pub head : (k : ℕ) → k < 8 → number_at eleven k ≡ number_at other k
  pub mark : (number_at eleven 8 ≡ pos 0) ↔ (number_at other 8 ≡ pos 0)

module _ {eleven other : List ℤ} (same : SameMarked eleven other) where
  same-there : (title_at other).there ≡ (title_at eleven).there
  same-there = by (title_at other).there refl (title_at eleven).there refl
    where
      by : (a : Bool) → (title_at other).there ≡ a → (b : Bool) → (title_at eleven).there ≡ b → a ≡ b
      by false p false q = refl
      by true p true q = refl
      by false p true q = absurd (true≢false (sym q ∙ (mark-number (number_at eleven 8)).1 (same.mark.1 ((mark-number (number_at other 8)).0 p))))
      by true p false q = absurd (true≢false (sym p ∙ (mark-number (number_at other 8)).1 (same.mark.0 ((mark-number (number_at eleven 8)).0 q))))

  -- they describe the same, but for the title's place and length
  same-but-title : (k : Kind) → retitled (description_in eleven k) (title_at other) ≡ description_in other k
  same-but-title k i = record {
    kind = k;
    n = up (same.head 1 (omega arith) i);
    red = record { lower = record { 0 = same.head 2 (omega arith) i }; upper = record { 0 = same.head 5 (omega arith) i } };
    green = record { lower = record { 0 = same.head 3 (omega arith) i }; upper = record { 0 = same.head 6 (omega arith) i } };
    blue = record { lower = record { 0 = same.head 4 (omega arith) i }; upper = record { 0 = same.head 7 (omega arith) i } };
    title = title_at other;
  }

  same_kind : kind_in other ≡ kind_in eleven
  same_kind = ap kind_at (sym (same.head 0 (omega arith)))

  module _ (table : List ℤ) (title : List ℕ) where
    alike : (k : Kind) → WrittenAlike (description_in other k) table title (description_in eleven k) table title
    alike k =
        subst (λ d. WrittenAlike d table title (description_in eleven k) table title) (same-but-title k)
        (own-title (description_in eleven k) table title (title_at other) same-there)

    -- a call of either is the same call where it is the same of both descriptions
    same-call : {A : Type 0} (refusal : A) (call : Description → A) → ((k : Kind) → call (description_in other k) ≡ call (description_in eleven k))
        → called refusal call eleven ≡ called refusal call other
    same-call {A} refusal call so = by (kind_in eleven) refl
      where
        by : (o : Option Kind) → kind_in eleven ≡ o → called refusal call eleven ≡ called refusal call other
        by None q = called-none refusal call eleven (described-none eleven q) ∙ sym (called-none refusal call other (described-none other (same_kind ∙ q)))
        by (Some k) q =
            called-described refusal call eleven (described-kind eleven k q)
            ∙ sym (so k)
            ∙ sym (called-described refusal call other (described-kind other k (same_kind ∙ q)))

    same_answer : (places : ℕ) → write_in eleven table title places ≡ write_in other table title places
    same_answer places = same-call _ (λ d. write d table title places) (λ k. (alike k).answer places)

    same_memory : (out : List ℕ) → bytes_in eleven table title out ≡ bytes_in other table title out
    same_memory out =
        same-call out (λ d. bytes_after d table title out (write d table title (length out)))
        (λ k. (alike k).memory out _ ∙ ap (bytes_after (description_in eleven k) table title out) ((alike k).answer (length out)))

  -- so places 9 and 10 play no part, nor which number but 0 marks the title
  pub title-places : {table : List ℤ} {title out out' : List ℕ} {number length' : ℕ} → WritesC eleven table title out number out' length'
      → WritesC other table title out number out' length'
  title-places {table} {title} {out} = same-promise (same_answer table title (length out)) (same_memory table title out)
