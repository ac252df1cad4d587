use Rattle.rules.specs.Units.{sample_places}
use Rattle.lettering.proofs.LastDigits.{Shortened}
use Rattle.lettering.proofs.decimals.fraction_of.Given as goal

-- The invariant: the places that are kept, of the digits that are left, are the text. The measure is the places.
abbrev pub invariant-loop-digits : goal.invariant-loop-digits
invariant-loop-digits l = Shortened sample_places l.units l.places l.digits

abbrev pub decreases-loop-digits : goal.decreases-loop-digits
decreases-loop-digits l = l.places
