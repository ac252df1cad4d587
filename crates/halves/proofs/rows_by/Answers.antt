use borrow.Author.Tests.{not-false}
use mathlib.Core.Path.{sym, ap, ◌∙◌}
use Rattle.rules.specs.Looking.{shown}
use Rattle.rules.proofs.Looking.Halves.{rows-23, rows-0}
use Rattle.halves.proofs.rows_by.Goals as goal
use Rattle.std.specs.Prelude.{Ok}

pub returns-then-not-codes_within : goal.returns-then-not-codes_within
returns-then-not-codes_within c table p e =
    let a = c.before.before.args in
    sym (rows-23 p.d a.m a.pixel (sym c.before.codes_within.ensures ∙ c.if-not-codes_within.true))

pub returns : goal.returns
returns c table p e =
    let within = c.before in
    let a = within.before.before.args in
    ap Ok (c.shares_of.ensures table p ∙ ap (λ m. shown p.d m a.pixel p.d.kind) (sym e))
    ∙ sym (rows-0 p.d a.m a.pixel (sym within.before.codes_within.ensures ∙ not-false _ within.if-not-codes_within.false-raw))
