-- When a header is known for good, one whose sizes are within their limits, and how long the one that is written can be.
use Rattle.std.specs.Prelude.{ℕ, Bool, true, false, Result, Ok, Err}
use Rattle.ppm.specs.Header.{SizedFrame}
use Rattle.ppm.specs.declared.header.Fault.{Fault}
use Rattle.ppm.specs.declared.header.Fault.TheVariants.{NotP6, EndsEarly, Malformed, Beyond}
use Rattle.ppm.specs.declared.header.Frame.{Frame}
use Rattle.correct.specs.declared.headers.NoHeader.{NoHeader}

-- a fault that more bytes cannot mend: any but that they end
abbrev lasting : Fault → Bool
lasting (NotP6 kind) = true
lasting EndsEarly = false
lasting (Malformed part) = true
lasting (Beyond part) = true

-- more bytes cannot change what a header says
abbrev pub settled : Result Frame Fault → Bool
settled (Ok frame) = true
settled (Err fault) = lasting fault

abbrev pub SizedHeading : Result Frame NoHeader → Type 0
SizedHeading (Ok frame) = SizedFrame frame
SizedHeading (Err none) = Unit {0}

-- P6 and a newline, a width and a height of at most 10 digits and a maxval of at most 5, each with a byte after it
abbrev pub longest_header : ℕ
longest_header = 31
