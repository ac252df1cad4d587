-- What a picture needs: its frame, the output's maxval, and what both maxvals say of the codes.
use Rattle.std.specs.Prelude.{ℕ, ◌≡◌, Option, Some, None, Result, Ok, Err}
use Rattle.rules.specs.Units.{bits_of}
use Rattle.rules.specs.declared.Bits.{Bits}
use Rattle.rules.specs.declared.Depths.{Depths}
use Rattle.ppm.specs.Header.{SizedFrame}
use Rattle.ppm.specs.Scales.{scale_of}
use Rattle.ppm.specs.declared.depth.Scale.{Scale}
use Rattle.ppm.specs.declared.header.Frame.{Frame}
use Rattle.desk.specs.declared.arguments.Unfit.{Unfit}
use Rattle.desk.specs.declared.arguments.Unfit.TheVariants.{TooGreat, Unclear}
use Rattle.correct.specs.declared.jobs.Job.{Job}
use Rattle.correct.specs.declared.jobs.NoDepth.{NoDepth}
use Rattle.correct.specs.declared.jobs.NoDepth.TheVariants.{Picture, Output}
use Rattle.correct.specs.declared.jobs.Scales.{Scales}

-- the depths of the picture and of the output
abbrev pub bits_in : Scales → Bits
bits_in s = bits_of s.raw.depth.bits s.corrected.depth.bits

abbrev pub depths_in : Scales → Depths
depths_in s = record { raw = s.raw.depth; corrected = s.corrected.depth }

-- what the option says: nothing, a number, or one that is too great or unclear
abbrev pub Wanted : Type 0
Wanted = Result (Option ℕ) Unfit

-- the output's maxval: the number that is wanted, one above all depths for a number that is too great, and else the picture's
abbrev pub maxval_wanted : Wanted → ℕ → ℕ
maxval_wanted (Ok None) picture = picture
maxval_wanted (Ok (Some n)) picture = n
maxval_wanted (Err TooGreat) picture = 65_536
maxval_wanted (Err Unclear) picture = picture

-- ---- a picture's job

abbrev pub with_corrected : Frame → ℕ → Scale → Option Scale → Result Job NoDepth
with_corrected frame maxval raw (Some corrected) = Ok (record { frame = frame; maxval = maxval; scales = record { raw = raw; corrected = corrected } })
with_corrected frame maxval raw None = Err Output

unfoldable pub with_raw : Frame → ℕ → Scale → Result Job NoDepth
with_raw frame maxval raw = with_corrected frame maxval raw (scale_of maxval)

abbrev pub with_picture : Frame → ℕ → Option Scale → Result Job NoDepth
with_picture frame maxval (Some raw) = with_raw frame maxval raw
with_picture frame maxval None = Err Picture

-- the picture's maxval is tried first
unfoldable pub job_of : Frame → Wanted → Result Job NoDepth
job_of frame wanted = with_picture frame (maxval_wanted wanted frame.maxval) (scale_of frame.maxval)

-- the scales are those of the maxvals: of the picture's header, and of the one that is written; and the frame is within its limits
pub record Agrees (job : Job) : Type 0 where
  pub raw : scale_of job.frame.maxval ≡ Some job.scales.raw
  pub corrected : scale_of job.maxval ≡ Some job.scales.corrected
  pub sized : SizedFrame job.frame
