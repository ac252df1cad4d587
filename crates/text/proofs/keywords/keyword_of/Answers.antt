use mathlib.Core.Path.{sym, ◌∙◌}
use Rattle.rules.specs.Reading.Contents.{keyword_of}
use Rattle.rules.specs.Reading.Lines.{bytes}
use Rattle.text.proofs.keywords.keyword_of.Goals as goal

-- Each keyword in turn, in the order of the rules; a word that a test has passed by is not that keyword.
pub returns-then-is_named : goal.returns-then-is_named
unfolding keyword_of bytes
returns-then-is_named c = rw (sym c.is_named.ensures ∙ c.if-is_named.true)

pub returns-then-is_named-2 : goal.returns-then-is_named-2
unfolding keyword_of bytes
returns-then-is_named-2 c = rw (sym c.is_named.ensures ∙ c.if-is_named.false, sym c.is_named-2.ensures ∙ c.if-is_named-2.true)

pub returns-then-is_named-3 : goal.returns-then-is_named-3
unfolding keyword_of bytes
returns-then-is_named-3 c = rw (sym c.is_named.ensures ∙ c.if-is_named.false, sym c.is_named-2.ensures ∙ c.if-is_named-2.false, sym c.is_named-3.ensures ∙ c.if-is_named-3.true)

pub returns-then-is_named-4 : goal.returns-then-is_named-4
unfolding keyword_of bytes
returns-then-is_named-4 c = rw (sym c.is_named.ensures ∙ c.if-is_named.false, sym c.is_named-2.ensures ∙ c.if-is_named-2.false, sym c.is_named-3.ensures ∙ c.if-is_named-3.false, sym c.is_named-4.ensures ∙ c.if-is_named-4.true)

pub returns-then-is_named-5 : goal.returns-then-is_named-5
unfolding keyword_of bytes
returns-then-is_named-5 c = rw (sym c.is_named.ensures ∙ c.if-is_named.false, sym c.is_named-2.ensures ∙ c.if-is_named-2.false, sym c.is_named-3.ensures ∙ c.if-is_named-3.false, sym c.is_named-4.ensures ∙ c.if-is_named-4.false, sym c.is_named-5.ensures ∙ c.if-is_named-5.true)

pub returns : goal.returns
unfolding keyword_of bytes
returns c = rw (sym c.is_named.ensures ∙ c.if-is_named.false, sym c.is_named-2.ensures ∙ c.if-is_named-2.false, sym c.is_named-3.ensures ∙ c.if-is_named-3.false, sym c.is_named-4.ensures ∙ c.if-is_named-4.false, sym c.is_named-5.ensures ∙ c.if-is_named-5.false)
