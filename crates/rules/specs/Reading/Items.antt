-- What the lines of a file give.
use Rattle.std.specs.Prelude.{ℕ, List, [], ◌∷◌, ℤ, None, Option, Some}
use Rattle.rules.specs.Reading.Lines.{bytes}
use Rattle.rules.specs.declared.Bounds.{Bounds}
use Rattle.rules.specs.declared.Item.{Item}
use Rattle.rules.specs.declared.Item.TheVariants.{Nothing, OfTitle, OfLower, OfUpper, OfSize, OfRow}
use Rattle.rules.specs.declared.Keyword.{Keyword}
use Rattle.rules.specs.declared.Keyword.TheVariants.{ATitle, ALower, AnUpper, ASize}
use Rattle.rules.specs.declared.Kind.TheVariants.{OneD, ThreeD}
use Rattle.rules.specs.declared.Row.{Row}
use Rattle.rules.specs.declared.Size.{Size}
use Rattle.rules.specs.declared.Title.{Title}

-- the five keywords
abbrev pub named : Keyword → List ℕ
named ATitle = bytes "TITLE"
named ALower = bytes "DOMAIN_MIN"
named AnUpper = bytes "DOMAIN_MAX"
named (ASize OneD) = bytes "LUT_1D_SIZE"
named (ASize ThreeD) = bytes "LUT_3D_SIZE"

-- the title, bounds, size or row of an item, if it is one
abbrev pub title_in : Item → Option Title
title_in Nothing = None
title_in (OfTitle t) = Some t
title_in (OfLower b) = None
title_in (OfUpper b) = None
title_in (OfSize s) = None
title_in (OfRow r) = None

abbrev pub lower_in : Item → Option Bounds
lower_in Nothing = None
lower_in (OfTitle t) = None
lower_in (OfLower b) = Some b
lower_in (OfUpper b) = None
lower_in (OfSize s) = None
lower_in (OfRow r) = None

abbrev pub upper_in : Item → Option Bounds
upper_in Nothing = None
upper_in (OfTitle t) = None
upper_in (OfLower b) = None
upper_in (OfUpper b) = Some b
upper_in (OfSize s) = None
upper_in (OfRow r) = None

abbrev pub size_in : Item → Option Size
size_in Nothing = None
size_in (OfTitle t) = None
size_in (OfLower b) = None
size_in (OfUpper b) = None
size_in (OfSize s) = Some s
size_in (OfRow r) = None

abbrev pub row_in : Item → Option Row
row_in Nothing = None
row_in (OfTitle t) = None
row_in (OfLower b) = None
row_in (OfUpper b) = None
row_in (OfSize s) = None
row_in (OfRow r) = Some r

-- red, green, blue
abbrev pub numbers_of : Row → List ℤ
numbers_of r = r.red.0 ∷ r.green.0 ∷ r.blue.0 ∷ []
