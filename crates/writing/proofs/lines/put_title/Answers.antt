use mathlib.Core.Path.{◌≡◌, ap}
use mathlib.Core.List.{[], ◌∷◌, ◌++◌, append_assoc}
use native.Mathlib.Omega.{arith}
use Rattle.rules.specs.Reading.Lines.{bytes}
use Rattle.rules.specs.Fields.{parted}
use Rattle.rules.specs.Writing.{title_text}
use Rattle.lettering.proofs.Pens.{adds-nothing}
use Rattle.writing.proofs.lines.put_title.Goals as goal

-- Without the mark there is nothing to put; with it the title's bytes stand between what begins and what ends its line.
pub returns-else-there : goal.returns-else-there
unfolding title_text
returns-else-there c =
    let none : let a = c.args in title_text a.there a.title.now ≡ [] = rw c.if-there.false in
    rw none (adds-nothing _ (omega (arith, c.requires.fits)))

pub put_between-requires : goal.put_between-requires
unfolding bytes title_text parted
put_between-requires c =
    let text : let a = c.args in title_text a.there a.title.now ≡ bytes "TITLE \"" ++ (a.title.now ++ bytes "\"\n") = rw c.if-there.true (ap (λ t. bytes "TITLE \"" ++ t) (append_assoc c.args.title.now (34 ∷ []) (10 ∷ []))) in
    rw text at c.requires

pub returns-then-there : goal.returns-then-there
unfolding bytes title_text parted
returns-then-there c =
    let text : let a = c.args in title_text a.there a.title.now ≡ bytes "TITLE \"" ++ (a.title.now ++ bytes "\"\n") = rw c.if-there.true (ap (λ t. bytes "TITLE \"" ++ t) (append_assoc c.args.title.now (34 ∷ []) (10 ∷ []))) in
    rw text c.put_between.ensures
