-- Document 02, Req 03: what the theorems on the wall chart speak of, and the order as it was defined before it.
use Rattle.std.specs.Prelude.{ℕ, ◌≡◌, Bool, true, cond, leb}
use Rattle.rules.specs.Looking.Interpolation.{Order, rgb, rbg, grb, gbr, brg, bgr}
use Rattle.rules.specs.declared.Colour.{Colour}
use Rattle.rules.specs.declared.Colour.TheVariants.{Red, Green, Blue}

-- a test that one order passes, and no other
pub record ExactlyOne (test : Order → Bool) : Type 0 where
  pub one : Order
  pub passes : test one ≡ true
  pub no_other : (o : Order) → test o ≡ true → o ≡ one

-- the order by choices within choices
unfoldable pub order_before : (Colour → ℕ) → Order
order_before f =
    cond (leb (f Green) (f Red))
    (cond (leb (f Blue) (f Green)) rgb
    (cond (leb (f Blue) (f Red)) rbg
    brg))
    (cond (leb (f Blue) (f Red)) grb
    (cond (leb (f Blue) (f Green)) gbr
    bgr))
