-- The description that check promises crosses as eleven numbers; what it accepts has an N in range.
use native.Mathlib.Omega.{arith}
use mathlib.Core.Path.{◌≡◌, refl, sym, subst, ◌∙◌}
use mathlib.Core.List.{List}
use Prim.Native.Nat.{ℕ, ◌<◌}
use lib.ListN.{length}
use Rattle.rules.specs.Units.{place_limit}
use Rattle.rules.specs.Reading.{check, read}
use Rattle.rules.specs.Boundary.{Crossable}
use Rattle.rules.proofs.Answers.{checks-is}
use Rattle.rules.proofs.Reading.Bridge.{accepted-in-range}
use Rattle.rules.proofs.Boundary.Fits.{description-fits}
use Rattle.crossing.specs.Layout.{Countable}
use Rattle.erythmoda.proofs.erythmoda_check.Goals as goal
use Rattle.std.specs.Prelude.{Err, Ok}
use Rattle.rules.specs.Results.{Read}

countable : (file : List ℕ) → Countable (check file)
unfolding check
countable file = by (read file place_limit) refl
  where
    by : (r : Read) → read file place_limit ≡ r → Countable r
    by (Ok d) e = accepted-in-range file place_limit d e
    by (Err x) e = tt

-- a machine holds no file of 2 to the 63 bytes
pub eleven_of-requires : goal.eleven_of-requires
unfolding check
eleven_of-requires c =
    let held : length c.args.file.now < 9_223_372_036_854_775_808 = omega (arith, c.well_formed.0.1) in
    subst Crossable (sym (c.description_of.ensures ∙ c.check-answer.ensures.description)) (description-fits c.args.file.now place_limit held)

pub places_needed-requires : goal.places_needed-requires
places_needed-requires c =
    subst Countable (sym (checks-is c.check-answer.ensures)) (countable _)
