-- How the work ends: by what became of the pictures, and whether something of them is left in the output.
use Rattle.std.specs.Prelude.{ℕ, ◌≡◌, Bool, true, false, cond, ◌&&◌, ◌||◌, ◌⊎◌, ltb, Result, Ok, Err, ⊤}
use Rattle.ppm.specs.declared.header.Frame.{Frame}
use Rattle.desk.specs.declared.outcomes.Outcome.{Outcome}
use Rattle.desk.specs.declared.outcomes.Outcome.TheVariants.{Done, Refused, Failed}
use Rattle.correct.specs.Jobs.{Wanted, job_of}
use Rattle.correct.specs.declared.headers.NoHeader.{NoHeader}
use Rattle.correct.specs.declared.headers.NoHeader.TheVariants as H
use Rattle.correct.specs.declared.jobs.Job.{Job}
use Rattle.correct.specs.declared.jobs.NoDepth.{NoDepth}
use Rattle.correct.specs.declared.outcomes.Fate.{Fate}
use Rattle.correct.specs.declared.outcomes.Fate.TheVariants.{Missing, Unfit, Stopped, Broken}
use Rattle.correct.specs.declared.outcomes.Story.{Story}
use Rattle.correct.specs.declared.pieces.Stop.{Stop}
use Rattle.correct.specs.declared.pieces.Stop.TheVariants as P

-- ---- a picture

-- one whose header is written: it is whole, or stops at a pixel, or the system could not read or write
abbrev pub fate_at : Stop → Fate
fate_at (P.Cut pixel) = Stopped
fate_at (P.TooGreat pixel excess) = Stopped
fate_at (P.Unread pixel error) = Broken
fate_at (P.Unwritten error) = Broken

unfoldable pub fate_of : Result ⊤ Stop → Result ⊤ Fate
fate_of (Ok done) = Ok tt
fate_of (Err stop) = Err (fate_at stop)

-- one whose header stands: without two depths nothing of it is written; with them its header is, or cannot be
abbrev pub BecomesOf : Result Job NoDepth → Result ⊤ Fate → Type 0
BecomesOf (Ok job) r = (r ≡ Err Broken) ⊎ ((passed : Result ⊤ Stop) × (r ≡ fate_of passed))
BecomesOf (Err none) r = r ≡ Err Unfit

-- one that has no header
abbrev pub fate_without : NoHeader → Fate
fate_without (H.Wrong fault) = Unfit
fate_without H.TooLong = Unfit
fate_without H.Empty = Missing
fate_without (H.Unread error) = Broken

-- any, by what came of reading its header
abbrev pub Becomes : Wanted → Result Frame NoHeader → Result ⊤ Fate → Type 0
Becomes wanted (Ok frame) r = BecomesOf (job_of frame wanted) r
Becomes wanted (Err none) r = r ≡ Err (fate_without none)

-- ---- all pictures

-- part of a picture is written
abbrev pub is_part : Fate → Bool
is_part Missing = false
is_part Unfit = false
is_part Stopped = true
is_part Broken = false

abbrev pub in_part : Result ⊤ Fate → Bool
in_part (Ok done) = false
in_part (Err fate) = is_part fate

-- something of the pictures is left, where the output stays: a whole one, or a part
unfoldable pub is_left : Bool → Story → Bool
is_left stays story = stays && (ltb 0 story.whole || in_part story.last)

-- pictures that are wrong are refused where nothing of them is left; else the work has failed
unfoldable pub refusal : Bool → Story → Outcome
refusal stays story = cond (is_left stays story) Failed Refused

-- the input ends: it has to have a picture
unfoldable pub ended : ℕ → Outcome
ended whole = cond (ltb 0 whole) Done Refused

-- after the most pictures that are counted, and where the system could not read or write, the work has failed
abbrev pub outcome_at : Bool → Story → Fate → Outcome
outcome_at stays story Missing = ended story.whole
outcome_at stays story Unfit = refusal stays story
outcome_at stays story Stopped = refusal stays story
outcome_at stays story Broken = Failed

abbrev pub outcome_by : Bool → Story → Result ⊤ Fate → Outcome
outcome_by stays story (Ok done) = Failed
outcome_by stays story (Err fate) = outcome_at stays story fate

unfoldable pub outcome_of : Bool → Story → Outcome
outcome_of stays story = outcome_by stays story story.last
