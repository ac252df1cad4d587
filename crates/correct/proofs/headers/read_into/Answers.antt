-- What is answered is the bytes' header, which keeps its limits.
use mathlib.Core.Path.{◌≡◌, sym, subst}
use Rattle.std.specs.Prelude.{Result, Ok, Err, MatchResult, IsErrAnd}
use Rattle.ppm.specs.Header.{Sized}
use Rattle.ppm.specs.declared.header.Fault.{Fault}
use Rattle.ppm.specs.declared.header.Frame.{Frame}
use Rattle.ppm.proofs.Sizes.{header-sized}
use Rattle.correct.specs.Headers.{SizedHeading}
use Rattle.correct.specs.declared.headers.NoHeader.{NoHeader}
use Rattle.correct.proofs.headers.read_into.Goals as goal

-- a header that stands is handed on as it is
handed-on : (h : Result Frame Fault) (r : Result Frame NoHeader) (P : Fault → NoHeader → Type 0) → Sized h → MatchResult h (λ frame. r ≡ Ok frame) (λ fault. IsErrAnd r (P fault)) → SizedHeading r
handed-on (Ok frame) r P s e = subst SizedHeading (sym e) s
handed-on (Err fault) (Ok frame) P s e = absurd e
handed-on (Err fault) (Err none) P s e = tt

pub returns-then-is_settled : goal.returns-then-is_settled
returns-then-is_settled c = handed-on c.header_of-header.result _ _ (subst Sized (sym c.header_of-header.ensures) (header-sized _)) c.map_err.ensures.cases
