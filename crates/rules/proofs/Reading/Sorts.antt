-- An item of a sort is made by that sort's constructor.
use mathlib.Core.Path.{◌≡◌, sym, ap}
use Rattle.rules.specs.Reading.Items.{title_in, lower_in, upper_in, size_in, row_in}
use Rattle.rules.specs.declared.Item.{Item}
use Rattle.rules.specs.declared.Item.TheVariants.{Nothing, OfTitle, OfLower, OfUpper, OfSize, OfRow}
use Rattle.rules.specs.declared.Bounds.{Bounds}
use Rattle.rules.specs.declared.Row.{Row}
use Rattle.rules.specs.declared.Size.{Size}
use Rattle.rules.specs.declared.Title.{Title}
use Rattle.rules.proofs.Tests.{no-some}
use Rattle.std.specs.Prelude.{None, Option, Some}

-- an item of another sort gives none
pub none-picked : {A : Type 0} (a : A) (X : Type 0) → ◌≡◌ {A = Option A} None (Some a) → X
none-picked a X e = absurd (no-some a (sym e))

pub title-item : (i : Item) (a : Title) → title_in i ≡ Some a → i ≡ OfTitle a
title-item Nothing a e = none-picked a _ e
title-item (OfTitle x) a e = let q : x ≡ a = cc in ap OfTitle q
title-item (OfLower x) a e = none-picked a _ e
title-item (OfUpper x) a e = none-picked a _ e
title-item (OfSize x) a e = none-picked a _ e
title-item (OfRow x) a e = none-picked a _ e

pub lower-item : (i : Item) (a : Bounds) → lower_in i ≡ Some a → i ≡ OfLower a
lower-item Nothing a e = none-picked a _ e
lower-item (OfTitle x) a e = none-picked a _ e
lower-item (OfLower x) a e = let q : x ≡ a = cc in ap OfLower q
lower-item (OfUpper x) a e = none-picked a _ e
lower-item (OfSize x) a e = none-picked a _ e
lower-item (OfRow x) a e = none-picked a _ e

pub upper-item : (i : Item) (a : Bounds) → upper_in i ≡ Some a → i ≡ OfUpper a
upper-item Nothing a e = none-picked a _ e
upper-item (OfTitle x) a e = none-picked a _ e
upper-item (OfLower x) a e = none-picked a _ e
upper-item (OfUpper x) a e = let q : x ≡ a = cc in ap OfUpper q
upper-item (OfSize x) a e = none-picked a _ e
upper-item (OfRow x) a e = none-picked a _ e

pub size-item : (i : Item) (a : Size) → size_in i ≡ Some a → i ≡ OfSize a
size-item Nothing a e = none-picked a _ e
size-item (OfTitle x) a e = none-picked a _ e
size-item (OfLower x) a e = none-picked a _ e
size-item (OfUpper x) a e = none-picked a _ e
size-item (OfSize x) a e = let q : x ≡ a = cc in ap OfSize q
size-item (OfRow x) a e = none-picked a _ e

pub row-item : (i : Item) (a : Row) → row_in i ≡ Some a → i ≡ OfRow a
row-item Nothing a e = none-picked a _ e
row-item (OfTitle x) a e = none-picked a _ e
row-item (OfLower x) a e = none-picked a _ e
row-item (OfUpper x) a e = none-picked a _ e
row-item (OfSize x) a e = none-picked a _ e
row-item (OfRow x) a e = let q : x ≡ a = cc in ap OfRow q
