-- Each verb in turn, in the order of the definition; a word that a test has passed by is not that verb.
use mathlib.Core.Path.{sym, ◌∙◌}
use Rattle.rules.specs.Reading.Lines.{bytes}
use Rattle.command.specs.Verbs.{verb_of}
use Rattle.command.proofs.verbs.verb_of.Goals as goal

pub returns-then-is_named : goal.returns-then-is_named
unfolding verb_of bytes
returns-then-is_named c = rw (sym c.is_named.ensures ∙ c.if-is_named.true)

pub returns-then-is_named-2 : goal.returns-then-is_named-2
unfolding verb_of bytes
returns-then-is_named-2 c = rw (sym c.is_named.ensures ∙ c.if-is_named.false, sym c.is_named-2.ensures ∙ c.if-is_named-2.true)

pub returns-then-is_named-3 : goal.returns-then-is_named-3
unfolding verb_of bytes
returns-then-is_named-3 c =
    rw (
      sym c.is_named.ensures ∙ c.if-is_named.false,
      sym c.is_named-2.ensures ∙ c.if-is_named-2.false,
      sym c.is_named-3.ensures ∙ c.if-is_named-3.true,
    )

pub returns-then-is_named-4 : goal.returns-then-is_named-4
unfolding verb_of bytes
returns-then-is_named-4 c =
    rw (
      sym c.is_named.ensures ∙ c.if-is_named.false,
      sym c.is_named-2.ensures ∙ c.if-is_named-2.false,
      sym c.is_named-3.ensures ∙ c.if-is_named-3.false,
      sym c.is_named-4.ensures ∙ c.if-is_named-4.true,
    )

pub returns-then-is_named-5 : goal.returns-then-is_named-5
unfolding verb_of bytes
returns-then-is_named-5 c =
    rw (
      sym c.is_named.ensures ∙ c.if-is_named.false,
      sym c.is_named-2.ensures ∙ c.if-is_named-2.false,
      sym c.is_named-3.ensures ∙ c.if-is_named-3.false,
      sym c.is_named-4.ensures ∙ c.if-is_named-4.false,
      sym c.is_named-5.ensures ∙ c.if-is_named-5.true,
    )

pub returns-then-is_named-6 : goal.returns-then-is_named-6
unfolding verb_of bytes
returns-then-is_named-6 c =
    rw (
      sym c.is_named.ensures ∙ c.if-is_named.false,
      sym c.is_named-2.ensures ∙ c.if-is_named-2.false,
      sym c.is_named-3.ensures ∙ c.if-is_named-3.false,
      sym c.is_named-4.ensures ∙ c.if-is_named-4.false,
      sym c.is_named-5.ensures ∙ c.if-is_named-5.false,
      sym c.is_named-6.ensures ∙ c.if-is_named-6.true,
    )

pub returns-then-is_named-7 : goal.returns-then-is_named-7
unfolding verb_of bytes
returns-then-is_named-7 c =
    rw (
      sym c.is_named.ensures ∙ c.if-is_named.false,
      sym c.is_named-2.ensures ∙ c.if-is_named-2.false,
      sym c.is_named-3.ensures ∙ c.if-is_named-3.false,
      sym c.is_named-4.ensures ∙ c.if-is_named-4.false,
      sym c.is_named-5.ensures ∙ c.if-is_named-5.false,
      sym c.is_named-6.ensures ∙ c.if-is_named-6.false,
      sym c.is_named-7.ensures ∙ c.if-is_named-7.true,
    )

pub returns-then-asks_help : goal.returns-then-asks_help
unfolding verb_of bytes
returns-then-asks_help c =
    rw (
      sym c.is_named.ensures ∙ c.if-is_named.false,
      sym c.is_named-2.ensures ∙ c.if-is_named-2.false,
      sym c.is_named-3.ensures ∙ c.if-is_named-3.false,
      sym c.is_named-4.ensures ∙ c.if-is_named-4.false,
      sym c.is_named-5.ensures ∙ c.if-is_named-5.false,
      sym c.is_named-6.ensures ∙ c.if-is_named-6.false,
      sym c.is_named-7.ensures ∙ c.if-is_named-7.false,
      sym c.asks_help.ensures ∙ c.if-asks_help.true,
    )

pub returns : goal.returns
unfolding verb_of bytes
returns c =
    rw (
      sym c.is_named.ensures ∙ c.if-is_named.false,
      sym c.is_named-2.ensures ∙ c.if-is_named-2.false,
      sym c.is_named-3.ensures ∙ c.if-is_named-3.false,
      sym c.is_named-4.ensures ∙ c.if-is_named-4.false,
      sym c.is_named-5.ensures ∙ c.if-is_named-5.false,
      sym c.is_named-6.ensures ∙ c.if-is_named-6.false,
      sym c.is_named-7.ensures ∙ c.if-is_named-7.false,
      sym c.asks_help.ensures ∙ c.if-asks_help.false,
    )
