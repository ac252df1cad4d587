-- Eleven numbers that name a kind, and a number that names a colour, are searched by their description and their colour.
use mathlib.Core.Path.{◌≡◌, sym, ap, ◌∙◌}
use Rattle.std.specs.Prelude.{Some}
use Rattle.rules.specs.Answers.{inverse_number, inverse_code, inverse_count}
use Rattle.rules.specs.Boundary.{described_in, colour_in, inverse_in}
use Rattle.rules.proofs.Answers.{inverts-is}
use Rattle.erythmoda.proofs.inverse_in.Goals as goal

pub returns : goal.returns
returns c =
    let described : described_in c.args.description.now ≡ Some c.in_ok-d.d = sym c.described.ensures ∙ c.in_ok-d.ensures.ok_part in
    let coloured : colour_in c.args.colour ≡ Some c.in_ok-colour.colour = sym c.colour_of.ensures ∙ c.in_ok-colour.ensures.ok_part in
    let so : c.inverse.result ≡ inverse_in c.args.description.now c.args.table.now c.args.bits c.args.colour c.args.wanted c.args.tolerance =
    rw (described, coloured) (inverts-is c.inverse.ensures) in
    record { number = ap inverse_number so; code = ap inverse_code so; count = ap inverse_count so }
