use mathlib.Core.Path.{◌≡◌, sym, ◌∙◌}
use mathlib.Core.Bool.{◌||◌}
use Rattle.rules.specs.Reading.Lines.{minus_byte, plus_byte, starts}
use Rattle.numbers.proofs.Words.{sign-skipped}
use Rattle.numbers.proofs.sign_length.Goals as goal
use Rattle.numbers.proofs.sign_length.Goals.{then-starts_with, else-starts_with}

pub returns : goal.returns
returns c =
    let w = c.args.w.now in
    let signed : c.if-starts_with.result ≡ (starts plus_byte w || starts minus_byte w) =
    elim c.if-starts_with.branch [
      | then-starts_with t ↦ t.result-is ∙ t.if-starts_with.true ∙ sym (rw (sym c.starts_with.ensures ∙ t.if-starts_with.true))
      | else-starts_with t ↦ t.result-is ∙ t.starts_with-else-starts_with.ensures ∙ sym (rw (sym c.starts_with.ensures ∙ t.if-starts_with.false))
    ]
    in
    let s = sign-skipped w c.if-starts_with.result signed in
    record { skips = s.0; within = s.1 }
