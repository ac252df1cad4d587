-- The job of a picture agrees with its maxvals; so its depths are known, and the header that is written is short.
use Prim.Native.Nat.{ℕ, ◌≤◌}
use mathlib.Core.Path.{◌≡◌, refl, ap₂, subst}
use mathlib.Core.List.{[], ◌∷◌, ◌++◌}
use native.Mathlib.Omega.{arith}
use lib.ListN.{length, length-append}
use Rattle.std.specs.Prelude.{Option, Some, None, Result, Ok, Err}
use Rattle.rules.specs.Decimals.{decimal}
use Rattle.rules.specs.Units.{depths_of, together}
use Rattle.rules.proofs.Decimals.{decimal-within}
use Rattle.rules.proofs.KnownDepths.{depth-bounds}
use Rattle.ppm.specs.Header.{SizedFrame, most_size, most_maxval}
use Rattle.ppm.specs.Scales.{scale_of, ScaleFits}
use Rattle.ppm.specs.Written.{header_text}
use Rattle.ppm.specs.declared.depth.Scale.{Scale}
use Rattle.ppm.specs.declared.header.Frame.{Frame}
use Rattle.ppm.proofs.Scaling.{scale-fits}
use Rattle.correct.specs.Headers.{longest_header}
use Rattle.correct.specs.Jobs.{Wanted, Agrees, bits_in, depths_in, job_of, maxval_wanted, with_corrected, with_picture, with_raw}
use Rattle.correct.specs.declared.jobs.Job.{Job}
use Rattle.correct.specs.declared.jobs.NoDepth.{NoDepth}

-- ---- a job that is found agrees

abbrev Agreed : Result Job NoDepth → Type 0
Agreed (Ok job) = Agrees job
Agreed (Err none) = Unit {0}

module _ (frame : Frame) (sized : SizedFrame frame) (maxval : ℕ) where
  output-agrees : (raw : Scale) → scale_of frame.maxval ≡ Some raw → (x : Option Scale) → scale_of maxval ≡ x → Agreed (with_corrected frame maxval raw x)
  output-agrees raw g (Some corrected) e = record { raw = g; corrected = e; sized = sized }
  output-agrees raw g None e = tt

  picture-agrees : (x : Option Scale) → scale_of frame.maxval ≡ x → Agreed (with_picture frame maxval x)
  unfolding with_raw
  picture-agrees (Some raw) e = output-agrees raw e (scale_of maxval) refl
  picture-agrees None e = tt

pub job-agrees : (frame : Frame) (wanted : Wanted) {job : Job} → SizedFrame frame → job_of frame wanted ≡ Ok job → Agrees job
unfolding job_of
job-agrees frame wanted sized e = subst Agreed e (picture-agrees frame sized (maxval_wanted wanted frame.maxval) (scale_of frame.maxval) refl)

-- ---- the header's length

pub header-most : (width height maxval : ℕ) → width ≤ most_size → height ≤ most_size → maxval ≤ most_maxval → length (header_text width height maxval) ≤ longest_header
unfolding header_text
header-most width height maxval w h m =
    let last = decimal maxval ++ (10 ∷ []) in
    let later = decimal height ++ (10 ∷ last) in
    omega (
      arith,
      length-append (decimal width) (32 ∷ later),
      length-append (decimal height) (10 ∷ last),
      length-append (decimal maxval) (10 ∷ []),
      decimal-within 9 width (omega arith),
      decimal-within 9 height (omega arith),
      decimal-within 4 maxval (omega arith),
    )

module _ {job : Job} (agrees : Agrees job) where
  of_raw : ScaleFits job.frame.maxval job.scales.raw
  of_raw = scale-fits job.frame.maxval _ agrees.raw

  of_corrected : ScaleFits job.maxval job.scales.corrected
  of_corrected = scale-fits job.maxval _ agrees.corrected

  -- the picture's greatest code is its maxval
  pub raw-greatest : job.scales.raw.depth.greatest ≡ job.frame.maxval
  raw-greatest = of_raw.greatest

  -- both depths are known
  pub agrees-known : depths_of (bits_in job.scales) ≡ Some (depths_in job.scales)
  agrees-known = ap₂ together of_raw.depth of_corrected.depth

  -- the header that is written is no longer than the longest
  pub header-short : length (header_text job.frame.width job.frame.height job.maxval) ≤ longest_header
  header-short = header-most _ _ job.maxval agrees.sized.0 agrees.sized.1 (omega (arith, (depth-bounds job.scales.corrected.depth.bits job.scales.corrected.depth of_corrected.depth).1, of_corrected.greatest))
