-- How a question ends: as the look or the half of one does, and refused where a depth is unknown.
use mathlib.Core.Path.{◌≡◌, refl, sym, ap, subst, ◌∙◌}
use mathlib.Core.Bool.{Bool, true, false, cond}
use mathlib.Core.List.{List}
use mathlib.Core.Logic.{inl}
use lib.IntN.{ℤ}
use Rattle.rules.specs.Descriptions.{could_be_read}
use Rattle.rules.specs.Looking.{second_half, look}
use Rattle.rules.specs.Units.{depths_of}
use Rattle.rules.specs.declared.Bits.{Bits}
use Rattle.rules.specs.declared.Codes.{Codes}
use Rattle.rules.specs.declared.Description.{Description}
use Rattle.rules.specs.declared.Shares.{Shares}
use Rattle.rules.proofs.Looking.Checks.{look-20, look-24}
use Rattle.rules.proofs.Looking.Halves.{second-20, second-24}
use Rattle.desk.specs.Outcomes.{EndsAs}
use Rattle.desk.specs.declared.outcomes.Outcome.{Outcome}
use Rattle.desk.specs.declared.outcomes.Outcome.TheVariants.{Done, Refused, Failed}
use Rattle.desk.proofs.Ends.{ends_as}
use Rattle.explain.specs.Questions.{looked_as, given_as, held_as, asked_as}
use Rattle.std.specs.Prelude.{Option, Some, None}
use Rattle.explain.specs.declared.question.Question.{Question}

-- ---- by an answer that is the one which is due, of a look or of a half

module _ {A : Type 0} (endsAs : A → Outcome) {answer due : A} (is : answer ≡ due) where
  pub ends-refused : {r : Outcome} → r ≡ Refused → endsAs answer ≡ Refused → EndsAs (endsAs due) r
  ends-refused refused e = inl (refused ∙ sym e ∙ ap endsAs is)

  pub ends-shown : (written : Bool) (r : Outcome) → r ≡ cond written Done Failed → endsAs answer ≡ Done → EndsAs (endsAs due) r
  ends-shown written r shown e = subst (λ o. EndsAs o r) (sym e ∙ ap endsAs is) (ends_as written Done r shown)

-- ---- at a depth that is unknown, whether or not the table could have been read

either : (b : Bool) {o : Outcome} → (b ≡ true → o ≡ Refused) → (b ≡ false → o ≡ Refused) → o ≡ Refused
either true could could-not = could refl
either false could could-not = could-not refl

module _ (d : Description) (table : List ℤ) (bits : Bits) {r : Outcome} (refused : r ≡ Refused) (unknown : depths_of bits ≡ None) where
  pub look-unknown : (raw : Codes) → EndsAs (looked_as (look d table bits raw)) r
  unfolding looked_as
  look-unknown raw =
      inl (refused ∙ sym (either (could_be_read d table) (λ could. ap looked_as (look-20 d table bits raw could unknown)) (λ could. ap looked_as (look-24 d table bits raw could))))

  pub line-unknown : (shares : Shares) → EndsAs (given_as (second_half d table bits shares)) r
  unfolding given_as
  line-unknown shares =
      inl (refused ∙ sym (either (could_be_read d table) (λ could. ap given_as (second-20 d table bits shares could unknown)) (λ could. ap given_as (second-24 d table bits shares could))))

-- ---- a pixel that is held, and one that no depth has

module _ (ends : Codes → Outcome) {p : Option Codes} (r : Outcome) where
  pub ends_held : (raw : Codes) → p ≡ Some raw → EndsAs (ends raw) r → EndsAs (held_as ends p) r
  unfolding held_as
  ends_held raw e h = subst (λ x. EndsAs (held_as ends x) r) (sym e) h

  pub ends-beyond : p ≡ None → r ≡ Refused → EndsAs (held_as ends p) r
  unfolding held_as
  ends-beyond e h = subst (λ x. EndsAs (held_as ends x) r) (sym e) (inl h)

-- ---- any question, by its case

pub ends_asked : (d : Description) (table : List ℤ) (r : Outcome) {question case : Question} → question ≡ case → EndsAs (asked_as d table case) r → EndsAs (asked_as d table question) r
ends_asked d table r e h = subst (λ q. EndsAs (asked_as d table q) r) (sym e) h
