-- A job that is found agrees with its maxvals.
use mathlib.Core.Path.{sym}
use Rattle.correct.proofs.Agreeing.{job-agrees}
use Rattle.correct.proofs.pictures.pass_frame.Goals as goal

pub pass_job-requires : goal.pass_job-requires
pass_job-requires c = record { agrees = job-agrees c.args.frame c.args.wanted c.requires.sized_frame (sym c.in-Ok.ensures) }
