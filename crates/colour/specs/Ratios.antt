-- The two M in lowest terms: what S has to be taken times and parted by to become a corrected code.
use Rattle.std.specs.Prelude.{◌*◌, ◌/◌, ◌≤◌, ◌<◌, ◌≡◌}
use Rattle.whole.specs.Divisors.{gcd}
use Rattle.rules.specs.Units.{raw_m, corrected_m}
use Rattle.rules.specs.declared.Depths.{Depths}
use Rattle.colour.specs.Limits.{bottom_limit, product_limit}
use Rattle.colour.specs.declared.ratio.Ratio.{Ratio}

-- the M of corrected codes over that of raw codes
unfoldable pub ratio_of : Depths → Ratio
ratio_of depths =
    let common = gcd (corrected_m depths) (raw_m depths) in
    record { top = corrected_m depths / common; bottom = raw_m depths / common }

-- p / q is exactly that, and how great it is
pub record InTerms (r : Ratio) (depths : Depths) : Type 0 where
  pub exact : r.top * raw_m depths ≡ corrected_m depths * r.bottom
  pub some : 0 < r.bottom
  pub bottom_most : r.bottom ≤ bottom_limit
  pub product_most : r.top * raw_m depths ≤ product_limit
