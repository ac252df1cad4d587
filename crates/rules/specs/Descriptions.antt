-- Document 01, "Units and places" and "Answers by number": the description, the rules on its domains, and what 24 means.
use Rattle.std.specs.Prelude.{ℕ, ◌*◌, ◌/◌, ◌%◌, ◌≤◌, ◌<◌, ◌≡◌, Bool, true, false, cond, ◌&&◌, ◌||◌, List, [], ◌∷◌, eqb, leb, ℤ, pos, nat_abs, ◌-ℤ◌, length, take, get_or, ◌<ℤ◌}
use Rattle.std.specs.Int.Signed.{lt_z, le_z}
use Rattle.whole.specs.Integers.{up}
use Rattle.rules.specs.Units.{sample_limit, bound_one, bound_limit, width_limit, greatest_n, in_range, rows_of}
use Rattle.rules.specs.declared.Bounds.{Bounds}
use Rattle.rules.specs.declared.Colour.{Colour}
use Rattle.rules.specs.declared.Colour.TheVariants.{Red, Green, Blue}
use Rattle.rules.specs.declared.Description.{Description}
use Rattle.rules.specs.declared.Domain.{Domain}
use Rattle.rules.specs.declared.Kind.{Kind}
use Rattle.rules.specs.declared.Kind.TheVariants.{OneD, ThreeD}
use Rattle.rules.specs.declared.Size.{Size}
use Rattle.rules.specs.declared.Title.{Title}

-- ---- what a description is made of

abbrev pub alike : ℕ → Bounds
alike n = record { red = record { 0 = pos n }; green = record { 0 = pos n }; blue = record { 0 = pos n } }

-- absent DOMAIN_MIN: 0 0 0
abbrev pub lowest : Bounds
lowest = alike 0

-- absent DOMAIN_MAX: 1 1 1
abbrev pub highest : Bounds
highest = alike bound_one

abbrev pub no_title : Title
no_title = record { there = false; place = 0; length = 0 }

-- a title, three lower and three upper bounds and a size make a description
abbrev pub description : Title → Bounds → Bounds → Size → Description
description t lo hi s = record {
  kind = s.kind;
  n = s.n;
  red = record { lower = lo.red; upper = hi.red };
  green = record { lower = lo.green; upper = hi.green };
  blue = record { lower = lo.blue; upper = hi.blue };
  title = t;
}

-- the description of a refusal: zeros, kind 1D, no title
abbrev pub zeros : Description
zeros = description no_title (alike 0) (alike 0) (record { kind = OneD; n = 0 })

abbrev pub rows : Description → ℕ
rows d = rows_of d.kind d.n

abbrev pub domain : Description → Colour → Domain
domain d Red = d.red
domain d Green = d.green
domain d Blue = d.blue

-- the width w of a domain, upper less lower, in thousandths
abbrev pub width : Domain → ℕ
width dom = up (dom.upper.0 -ℤ dom.lower.0)

-- ---- the rules on the domains

abbrev pub every_colour : (Domain → Bool) → Description → Bool
every_colour good d = good d.red && (good d.green && good d.blue)

-- both bounds lie from -10 to 10
unfoldable pub bounds_fit : Domain → Bool
bounds_fit dom = leb (nat_abs dom.lower.0) bound_limit && leb (nat_abs dom.upper.0) bound_limit

-- the lower bound is below the upper: else 10
unfoldable pub ordered : Domain → Bool
ordered dom = lt_z dom.lower.0 dom.upper.0

-- at most 10 wide: else 11
unfoldable pub narrow : Domain → Bool
narrow dom = le_z (dom.upper.0 -ℤ dom.lower.0) (pos width_limit)

abbrev pub same : ℤ → ℤ → Bool
same a b = le_z a b && le_z b a

unfoldable pub same_domain : Domain → Domain → Bool
same_domain a b = same a.lower.0 b.lower.0 && same a.upper.0 b.upper.0

-- the three colours have one domain
unfoldable pub one_domain : Description → Bool
one_domain d = same_domain d.green d.red && same_domain d.blue d.red

-- both bounds are whole numbers
unfoldable pub whole_bounds : Domain → Bool
whole_bounds dom = eqb (nat_abs dom.lower.0 % bound_one) 0 && eqb (nat_abs dom.upper.0 % bound_one) 0

-- Document 02, Req 07: in 3D the three colours have one domain, or all six bounds are whole numbers: else 12
unfoldable pub agree : Kind → Description → Bool
agree OneD d = true
agree ThreeD d = one_domain d || every_colour whole_bounds d

-- the table has 3·rows places: else 13
unfoldable pub roomy : ℕ → Description → Bool
roomy places d = leb (3 * rows d) places

-- ---- the span of a colour

-- the width W of a domain in whole units
abbrev pub units : Domain → ℕ
units dom = width dom / bound_one

-- 3D has one span: w, in thousandths, where the domains are one, and Wr·Wg·Wb where they differ
unfoldable pub common_span : Description → ℕ
common_span d = cond (one_domain d) (width d.red) (units d.red * units d.green * units d.blue)

-- in 1D it is the width w of the colour's own domain
abbrev pub span_in : Kind → Description → Colour → ℕ
span_in OneD d c = width (domain d c)
span_in ThreeD d c = common_span d

-- M times it is what the weights of a colour add up to
abbrev pub span : Description → Colour → ℕ
span d c = span_in d.kind d c

-- ---- 24

-- samples lie from -1000 to 1000
unfoldable pub samples_fit : List ℤ → Bool
samples_fit [] = true
samples_fit (s ∷ ss) = leb (nat_abs s) sample_limit && samples_fit ss

-- what reading could have given: N and bounds in their ranges, none of 10, 11, 12 and 13 true, and each of the 3·rows numbers within ±1000
unfoldable pub could_be_read : Description → List ℤ → Bool
could_be_read d table =
    in_range d.kind d.n
    && (every_colour bounds_fit d
    && (every_colour ordered d
    && (every_colour narrow d
    && (agree d.kind d
    && (roomy (length table) d
    && samples_fit (take (3 * rows d) table))))))

-- ---- 24, as a property: what a description and a table have that could have been read

pub record DomainFits (dom : Domain) : Type 0 where
  pub low : nat_abs dom.lower.0 ≤ bound_limit
  pub high : nat_abs dom.upper.0 ≤ bound_limit
  pub order : dom.lower.0 <ℤ dom.upper.0
  pub narrow : width dom ≤ width_limit

pub record WholeBounds (dom : Domain) : Type 0 where
  pub lower : nat_abs dom.lower.0 % bound_one ≡ 0
  pub upper : nat_abs dom.upper.0 % bound_one ≡ 0

-- in 3D
pub data Agreed (d : Description) : Type 0 where
  one : ((c : Colour) → domain d c ≡ d.red) → Agreed d
  whole : ((c : Colour) → WholeBounds (domain d c)) → Agreed d

pub record Sound (d : Description) (table : List ℤ) : Type 0 where
  pub least : 2 ≤ d.n
  pub most : d.n ≤ greatest_n d.kind
  pub domains : (c : Colour) → DomainFits (domain d c)
  pub agreed : d.kind ≡ ThreeD → Agreed d
  pub long : 3 * rows d ≤ length table
  pub samples : (k : ℕ) → k < 3 * rows d → nat_abs (get_or table k (pos 0)) ≤ sample_limit
