use Prim.Native.Nat.{ℕ}
use mathlib.Core.Path.{◌≡◌, refl, sym, ap, subst, ◌∙◌}
use mathlib.Core.Bool.{true}
use mathlib.Core.List.{List, ◌++◌}
use borrow.Author.Tests.{le-leb, lt-leb}
use lib.Dec.{leb}
use lib.IntN.{ℤ}
use lib.ListN.{length, drop}
use Rattle.rules.specs.Units.{depths_of, raw_m}
use Rattle.rules.specs.Descriptions.{could_be_read}
use Rattle.rules.specs.Looking.{correct}
use Rattle.rules.specs.Picturing.{each_pixel, picture, output_after}
use Rattle.rules.specs.Promises.{Pictures}
use Rattle.rules.specs.Results.{Picture}
use Rattle.rules.specs.declared.Bits.{Bits}
use Rattle.rules.specs.declared.Depths.{Depths}
use Rattle.rules.specs.declared.Description.{Description}
use Rattle.rules.specs.declared.Refusal.{Refusal}
use Rattle.rules.proofs.Picturing.Checks.{within_all, picture-24, picture-20, picture-21, picture-22, picture-23, picture-0, corrected-is}
use Rattle.rules.proofs.Answers.{is-pictures}
use Rattle.colour.proofs.Plans.{planned}
use Rattle.colour.proofs.Ratios.{ratio-known}
use Rattle.picture.specs.Filling.{Fillable}
use Rattle.picture.proofs.picture.Goals as goal
use Rattle.std.specs.Prelude.{Err, None, Ok, Option, Some, ok_or}
use Rattle.std.proofs.Common.{rules}

-- The checks run 24, 20, 21, 22, 23; what each has shown goes on to the next, and what all have shown to the plan and the loop that writes.
-- ---- an answer keeps the promise
module _ {d : Description} {table : List ℤ} {bits : Bits} {src dst : List ℕ} where
  -- a refusal that writes nothing
  refuses : {r : Refusal} → picture d table bits src (length dst) ≡ Err r → Pictures d table bits src dst (Err r) dst
  unfolding output_after
  refuses e = is-pictures (sym e) (ap (output_after d table bits src dst) (sym e))

  -- the same, of an answer that `?` passes on
  passes-on : {r : Refusal} {answer : Picture} → answer ≡ Err r → picture d table bits src (length dst) ≡ Err r → Pictures d table bits src dst answer dst
  passes-on same e = subst (λ a. Pictures d table bits src dst a dst) (sym same) (refuses e)

  -- acceptance, with what the rule makes of each pixel in front of what was there
  accepts : {depths : Depths} {dst' : List ℕ} → could_be_read d table ≡ true → depths_of bits ≡ Some depths → Fillable src (length dst) → within_all (raw_m depths) src ≡ true
      → dst' ≡ each_pixel (correct d table depths) src ++ drop (length src) dst → Pictures d table bits src dst (Ok tt) dst'
  unfolding output_after
  accepts {depths} could known s inside made =
      let e = picture-0 d table bits src (length dst) depths could known s.whole s.room inside in
      is-pictures (sym e)
      (made
      ∙ ap (λ l. l ++ drop (length src) dst) (sym (corrected-is d table bits depths could known src inside))
      ∙ ap (output_after d table bits src dst) (sym e))

-- ---- what has been passed
-- 23 is asked of the M of raw codes
asked-within : (codes : List ℕ) (depths : Depths) (most : ℕ) {m : ℕ} → ((m : ℕ) → leb most m ≡ within_all m codes) → m ≡ raw_m depths → leb most m ≡ within_all (raw_m depths) codes
asked-within codes depths most {m} h e = h m ∙ ap (λ x. within_all x codes) e

pub returns-then-not-could_be_read : goal.returns-then-not-could_be_read
returns-then-not-could_be_read c = refuses (picture-24 _ _ _ _ _ (sym c.could_be_read.ensures ∙ c.if-not-could_be_read.true))

-- what is absent is refused for the reason that is given
only-reason : {A E : Type 0} (o : Option A) {given found : E} → Err found ≡ ok_or o given → found ≡ given
only-reason None q = cc
only-reason (Some _) q = cc

pub returns-in_err-depths : goal.returns-in_err-depths
returns-in_err-depths c =
    let same : c.from_residual.result ≡ Err c.in_err-depths.field-0.0 = search rules in
    passes-on
    (same ∙ ap Err (only-reason _ c.in_err-depths.ensures.value))
    (picture-20 _ _ _ _ _ (sym c.could_be_read.ensures ∙ c.if-not-could_be_read.false) (sym c.of.ensures ∙ c.in_err-depths.ensures.ok_part))

pub returns-then-src-ne0 : goal.returns-then-src-ne0
returns-then-src-ne0 c =
    refuses
    (picture-21 _ _ _ _ _ c.in_ok-depths.depths (sym c.could_be_read.ensures ∙ c.if-not-could_be_read.false) (sym c.of.ensures ∙ c.in_ok-depths.ensures.ok_part) c.if-src-ne0.true)

pub returns-then-dst-src : goal.returns-then-dst-src
returns-then-dst-src c =
    refuses
    (picture-22 _ _ _ _ _ c.in_ok-depths.depths (sym c.could_be_read.ensures ∙ c.if-not-could_be_read.false) (sym c.of.ensures ∙ c.in_ok-depths.ensures.ok_part) c.if-src-ne0.false c.if-dst-src.true)

pub returns-then-greatest : goal.returns-then-greatest
returns-then-greatest c =
    refuses
    (picture-23 _ _ _ _ _ c.in_ok-depths.depths (sym c.could_be_read.ensures ∙ c.if-not-could_be_read.false) (sym c.of.ensures ∙ c.in_ok-depths.ensures.ok_part) c.if-src-ne0.false c.if-dst-src.false
    (sym (asked-within c.args.src.now c.in_ok-depths.depths _ c.greatest-2.ensures c.greatest.ensures) ∙ lt-leb _ _ c.if-greatest.true))

pub plan_of-requires-clause-in_terms : goal.plan_of-requires-clause-in_terms
plan_of-requires-clause-in_terms c = ratio-known c.args.bits c.in_ok-depths.depths (sym c.of.ensures ∙ c.in_ok-depths.ensures.ok_part)

pub correct_all-requires-clause-depths_value : goal.correct_all-requires-clause-depths_value
correct_all-requires-clause-depths_value c = (
  planned c.args.d c.args.bits (sym c.could_be_read.ensures ∙ c.if-not-could_be_read.false) (sym c.of.ensures ∙ c.in_ok-depths.ensures.ok_part) c.plan_of.ensures,
  (refl, sym (asked-within c.args.src.now c.in_ok-depths.depths _ c.greatest-2.ensures c.greatest.ensures) ∙ le-leb _ _ c.if-greatest.false),
)

pub returns : goal.returns
returns c =
    let could = sym c.could_be_read.ensures ∙ c.if-not-could_be_read.false in
    let known = sym c.of.ensures ∙ c.in_ok-depths.ensures.ok_part in
    accepts could known (record { whole = c.if-src-ne0.false; room = c.if-dst-src.false })
    (sym (asked-within c.args.src.now c.in_ok-depths.depths _ c.greatest-2.ensures c.greatest.ensures) ∙ le-leb _ _ c.if-greatest.false)
    (c.correct_all.ensures (planned c.args.d c.args.bits could known c.plan_of.ensures) refl)
