use mathlib.Core.Path.{ap, ◌∙◌}
use Rattle.rules.specs.Reading.Contents.{bounds_of, content_by, size_of}
use Rattle.rules.specs.declared.Item.TheVariants.{OfLower, OfSize, OfUpper}
use Rattle.content.proofs.Mapped.{mapped}
use Rattle.content.proofs.keyed_content.Goals as goal

pub returns-in-ATitle : goal.returns-in-ATitle
unfolding content_by
returns-in-ATitle c = rw c.in-ATitle.is c.title_of.ensures

pub returns-in-ALower : goal.returns-in-ALower
unfolding content_by
returns-in-ALower c =
    rw c.in-ALower.is (mapped c.bounds_on.result c.map.result OfLower _ (λ a i p. p) c.map.ensures.cases
    ∙ c.bounds_on.ensures OfLower ∙ ap (bounds_of OfLower) c.after_first_word-rest.ensures.rest)

pub returns-in-AnUpper : goal.returns-in-AnUpper
unfolding content_by
returns-in-AnUpper c =
    rw c.in-AnUpper.is (mapped c.bounds_on-in-AnUpper.result c.map-in-AnUpper.result OfUpper _ (λ a i p. p) c.map-in-AnUpper.ensures.cases
    ∙ c.bounds_on-in-AnUpper.ensures OfUpper ∙ ap (bounds_of OfUpper) c.after_first_word-rest.ensures.rest)

pub returns-in-ASize : goal.returns-in-ASize
unfolding content_by
returns-in-ASize c =
    rw c.in-ASize.is (mapped c.size_on.result c.map-in-ASize.result OfSize _ (λ a i p. p) c.map-in-ASize.ensures.cases
    ∙ c.size_on.ensures ∙ ap (size_of _) c.after_first_word-rest.ensures.rest)
