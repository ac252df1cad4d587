use Rattle.explain.specs.Questions.{asked_as}
use Rattle.explain.proofs.Ends.{ends_asked}
use Rattle.explain.proofs.answers.explain.Goals as goal

pub returns-in-Pixel : goal.returns-in-Pixel
unfolding asked_as
returns-in-Pixel c = ends_asked _ _ c.explain_pixel.result c.in-Pixel.is c.explain_pixel.ensures

pub returns-in-LineOf : goal.returns-in-LineOf
unfolding asked_as
returns-in-LineOf c = ends_asked _ _ c.keep_pixel.result c.in-LineOf.is c.keep_pixel.ensures

pub returns-in-Line : goal.returns-in-Line
unfolding asked_as
returns-in-Line c = ends_asked _ _ c.explain_line.result c.in-Line.is c.explain_line.ensures
