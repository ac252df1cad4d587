-- The place of a colour's code, and what is asked of rows and weights whose sum is shown.
use Rattle.std.specs.Prelude.{ℕ, ◌≤◌, ◌<◌, ◌≡◌, true, List, ℤ}
use Rattle.rules.specs.Units.{raw_m}
use Rattle.rules.specs.Descriptions.{rows, could_be_read}
use Rattle.rules.specs.Looking.Interpolation.{den_of, index_at, fraction_at}
use Rattle.rules.specs.Looking.{used}
use Rattle.rules.specs.Demands.{Weighable}
use Rattle.rules.specs.declared.Colour.{Colour}
use Rattle.rules.specs.declared.Depths.{Depths}
use Rattle.rules.specs.declared.Description.{Description}
use Rattle.rules.specs.declared.Shares.{Shares}
use Rattle.colour.specs.declared.place.Place.{Place}

-- the rule's own index, and its fraction over the D of the weights
abbrev pub place_at : Description → ℕ → Colour → ℕ → Place
place_at d m c code = record { index = index_at d m c code; fraction = fraction_at d m c code }

-- the table could have been read, the raw depth has codes, and each colour's rows and weights may be weighed
pub record Summed (d : Description) (table : List ℤ) (depths : Depths) (shares : Shares) : Type 0 where
  pub could : could_be_read d table ≡ true
  pub deep : 0 < raw_m depths
  pub most : raw_m depths ≤ 65535
  pub weighable : (c : Colour) → Weighable (rows d) (den_of d (raw_m depths) c) (used d.kind c shares)
