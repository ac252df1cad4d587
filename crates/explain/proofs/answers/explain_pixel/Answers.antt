use Rattle.explain.proofs.Ends.{ends_held, ends-beyond}
use Rattle.explain.proofs.answers.explain_pixel.Goals as goal

pub returns-in-Some : goal.returns-in-Some
returns-in-Some c = ends_held _ c.explain_held.result c.in-Some.raw c.in-Some.is c.explain_held.ensures

pub returns-in-None : goal.returns-in-None
returns-in-None c = ends-beyond _ c.refuse_beyond.result c.in-None.is c.refuse_beyond.ensures
