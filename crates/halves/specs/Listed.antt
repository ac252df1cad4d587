-- The rows and weights of a colour as the code keeps them: in 1D with two that carry nothing.
use Rattle.std.specs.Prelude.{List, [], ◌∷◌, ◌++◌, pos, ◌≤ℤ◌}
use Rattle.rules.specs.Looking.Interpolation.{share}
use Rattle.rules.specs.Looking.{used}
use Rattle.rules.specs.Demands.{Each}
use Rattle.rules.specs.declared.Colour.{Colour}
use Rattle.rules.specs.declared.Kind.{Kind}
use Rattle.rules.specs.declared.Kind.TheVariants.{OneD, ThreeD}
use Rattle.rules.specs.declared.Share.{Share}
use Rattle.rules.specs.declared.Shares.{Shares}
use Rattle.halves.specs.declared.fours.Four.{Four}

abbrev pub listed : Four → List Share
listed f = f.first ∷ f.second ∷ f.third ∷ f.fourth ∷ []

abbrev pub four_of : Kind → Colour → Shares → List Share
four_of OneD c s = used OneD c s ++ (share 0 0 ∷ share 0 0 ∷ [])
four_of ThreeD c s = used ThreeD c s

abbrev pub NotNegative : List Share → Type 0
NotNegative ss = Each (λ s. pos 0 ≤ℤ s.weight) ss
