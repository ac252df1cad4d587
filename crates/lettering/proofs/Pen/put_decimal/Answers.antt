use mathlib.Core.Path.{◌≡◌, ap, ◌∙◌}
use Rattle.rules.specs.Decimals.{decimal}
use Rattle.rules.proofs.Decimals.{decimal-one}
use Rattle.lettering.specs.Digits.{last_digits}
use Rattle.lettering.proofs.LastDigits.{all_digits}
use Rattle.lettering.proofs.Pen.put_decimal.Goals as goal

-- One digit is put at once; of more the last are put, as many as there are.
pub put_byte-requires : goal.put_byte-requires
put_byte-requires c = rw (decimal-one _ c.if-n-lt10.true) at c.requires

pub returns-then-n-lt10 : goal.returns-then-n-lt10
returns-then-n-lt10 c = rw (decimal-one _ c.if-n-lt10.true) c.put_byte.ensures

pub put_last-requires : goal.put_last-requires
put_last-requires c =
    let text : let n = c.args.n in last_digits c.count_digits.result n ≡ decimal n = ap (λ k. last_digits k c.args.n) c.count_digits.ensures ∙ all_digits c.args.n in
    rw text c.requires

pub returns : goal.returns
returns c =
    let text : let n = c.args.n in last_digits c.count_digits.result n ≡ decimal n = ap (λ k. last_digits k c.args.n) c.count_digits.ensures ∙ all_digits c.args.n in
    rw text at c.put_last.ensures
