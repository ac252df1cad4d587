use mathlib.Core.Path.{◌≡◌}
use mathlib.Core.List.{◌++◌}
use Rattle.rules.specs.Reading.Lines.{bytes}
use Rattle.rules.specs.Writing.{bounds_text}
use Rattle.rules.specs.declared.Bounds.{Bounds}
use Rattle.rules.specs.declared.Keyword.TheVariants.{ALower, AnUpper}
use Rattle.lettering.proofs.Pens.{adds-both, room-after}
use Rattle.lettering.proofs.Texts.{first-room}
use Rattle.writing.specs.Rows.{finer, text_of}
use Rattle.writing.proofs.LineTexts.{bounds-text}
use Rattle.writing.proofs.lines.put_domain.Goals as goal

-- The two lines, each by its keyword and the bounds in finer units.
-- the lines as they are put
lower-line : (b x : Bounds) → x ≡ b → bounds_text ALower b ≡ bytes "DOMAIN_MIN " ++ text_of (finer x)
unfolding bytes
lower-line b x e = rw e (bounds-text ALower b)

upper-line : (b x : Bounds) → x ≡ b → bounds_text AnUpper b ≡ bytes "DOMAIN_MAX " ++ text_of (finer x)
unfolding bytes
upper-line b x e = rw e (bounds-text AnUpper b)

pub put_bounds-requires : goal.put_bounds-requires
unfolding bytes
put_bounds-requires c =
    record { bounds_fit = rw c.lowers.ensures c.requires.bounds_fit.0; room = first-room _ _ (rw (lower-line _ _ c.lowers.ensures) at c.requires.room) }

pub put_bounds-requires-2 : goal.put_bounds-requires-2
unfolding bytes
put_bounds-requires-2 c =
    let room = rw (lower-line _ _ c.lowers.ensures, upper-line _ _ c.uppers.ensures) at c.requires.room in
    record { bounds_fit = rw c.uppers.ensures c.requires.bounds_fit.1; room = room-after _ c.put_bounds.ensures room }

pub returns : goal.returns
unfolding bytes
returns c =
    rw (lower-line _ _ c.lowers.ensures, upper-line _ _ c.uppers.ensures)
    (adds-both c.put_bounds.ensures c.put_bounds-2.ensures)
