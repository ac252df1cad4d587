-- A failure to finish is a failure, whatever the pictures' outcome; and who is refused has nothing left.
use Prim.Native.Nat.{ℕ}
use mathlib.Core.Path.{◌≡◌, refl}
use mathlib.Core.Bool.{Bool, true, false, cond, ◌&&◌}
use mathlib.Core.Logic.{inl, inr}
use native.Mathlib.Omega.{arith}
use lib.Dec.{ltb}
use Rattle.std.specs.Prelude.{Result, Ok, Err, ⊤}
use Rattle.desk.specs.Outcomes.{EndsAs}
use Rattle.desk.specs.declared.outcomes.Outcome.{Outcome}
use Rattle.desk.specs.declared.outcomes.Outcome.TheVariants.{Done, Refused, Failed}
use Rattle.correct.specs.Outcomes.{ended, is_left, outcome_by, outcome_of, refusal}
use Rattle.correct.specs.declared.outcomes.Fate.{Fate}
use Rattle.correct.specs.declared.outcomes.Fate.TheVariants.{Missing, Unfit, Stopped, Broken}
use Rattle.correct.specs.declared.outcomes.Story.{Story}

pub failed-as : (o : Outcome) {r : Outcome} → EndsAs Failed r → EndsAs o r
failed-as o (inl e) = inr e
failed-as o (inr e) = inr e

-- ---- who is refused has nothing left

failed-never : Failed ≡ Refused → ⊥
failed-never e = let z : ◌≡◌ {A = ℕ} 0 1 = cc in omega arith

done-never : Done ≡ Refused → ⊥
done-never e = let z : ◌≡◌ {A = ℕ} 0 1 = cc in omega arith

not_left : (left : Bool) → cond left Failed Refused ≡ Refused → left ≡ false
not_left true e = absurd (failed-never e)
not_left false e = refl

not_some : (some : Bool) → cond some Done Refused ≡ Refused → some ≡ false
not_some true e = absurd (done-never e)
not_some false e = refl

nothing-stays : (stays : Bool) → (stays && false) ≡ false
nothing-stays true = refl
nothing-stays false = refl

module _ (stays : Bool) (story : Story) where
  -- where the input ends before a picture, none is written, whole or in part
  none_left : story.last ≡ Err Missing → ended story.whole ≡ Refused → is_left stays story ≡ false
  unfolding ended is_left
  none_left g e = rw (g, not_some (ltb 0 story.whole) e) (nothing-stays stays)

  clean-by : (last : Result ⊤ Fate) → story.last ≡ last → outcome_by stays story last ≡ Refused → is_left stays story ≡ false
  unfolding refusal
  clean-by (Ok done) g e = absurd (failed-never e)
  clean-by (Err Missing) g e = none_left g e
  clean-by (Err Unfit) g e = not_left (is_left stays story) e
  clean-by (Err Stopped) g e = not_left (is_left stays story) e
  clean-by (Err Broken) g e = absurd (failed-never e)

  pub refused-clean : outcome_of stays story ≡ Refused → is_left stays story ≡ false
  unfolding outcome_of
  refused-clean e = clean-by story.last refl e
