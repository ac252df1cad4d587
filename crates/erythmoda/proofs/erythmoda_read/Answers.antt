-- The description that reading promises crosses as eleven numbers.
use native.Mathlib.Omega.{arith}
use mathlib.Core.Path.{sym, subst, ◌∙◌}
use Prim.Native.Nat.{◌<◌}
use lib.ListN.{length}
use Rattle.rules.specs.Boundary.{Crossable}
use Rattle.rules.proofs.Boundary.Fits.{description-fits}
use Rattle.erythmoda.proofs.erythmoda_read.Goals as goal

-- a machine holds no file of 2 to the 63 bytes
pub eleven_of-requires : goal.eleven_of-requires
eleven_of-requires c =
    let held : length c.args.file.now < 9_223_372_036_854_775_808 = omega (arith, c.well_formed.0.1) in
    subst Crossable (sym (c.description_of.ensures ∙ c.read-answer.ensures.description)) (description-fits c.args.file.now (length c.args.table.now) held)
