use mathlib.Core.Path.{ap, ◌∙◌}
use borrow.Author.Tests.{le-leb, lt-leb}
use Rattle.pointing.specs.Pointing.{aimed_in, spot_in}
use Rattle.pointing.specs.declared.aims.Aim.{Aim}
use Rattle.pointing.proofs.aims.spot_in.Goals as goal

pub returns-then-l-gt-LINE_LIMIT : goal.returns-then-l-gt-LINE_LIMIT
unfolding spot_in
returns-then-l-gt-LINE_LIMIT c = rw (lt-leb _ _ c.if-l-gt-LINE_LIMIT.true) c.rest_from.ensures

pub returns : goal.returns
unfolding spot_in
returns c = rw (le-leb _ _ c.if-l-gt-LINE_LIMIT.false) (c.aimed_in.ensures ∙ ap (λ (a : Aim). aimed_in a c.args.l.now) c.aim_of.ensures)
