use mathlib.Core.Path.{◌∙◌}
use Rattle.text.proofs.SameBytes.{bytewise}
use Rattle.text.proofs.keywords.is_named.Goals as goal

pub returns : goal.returns
returns c = c.eq.ensures ∙ bytewise c.args.w.now c.args.name.now
