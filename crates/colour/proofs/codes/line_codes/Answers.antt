use Rattle.rules.specs.declared.Colour.TheVariants.{Red, Green, Blue}
use Rattle.colour.proofs.Totals.{each-colour}
use Rattle.colour.proofs.codes.line_codes.Goals as goal

-- Each colour's own two rows.
pub pair_code-requires : goal.pair_code-requires
pair_code-requires c = let p = c.requires in record { by_index = (p.by_index.0, p.by_index.1 Red); shares_fit = p.shares_fit Red }

pub pair_code-requires-2 : goal.pair_code-requires-2
pair_code-requires-2 c = let p = c.requires in record { by_index = (p.by_index.0, p.by_index.1 Green); shares_fit = p.shares_fit Green }

pub pair_code-requires-3 : goal.pair_code-requires-3
pair_code-requires-3 c = let p = c.requires in record { by_index = (p.by_index.0, p.by_index.1 Blue); shares_fit = p.shares_fit Blue }

pub returns : goal.returns
returns c = λ m f. each-colour _ (c.pair_code.ensures m (f Red)) (c.pair_code-2.ensures m (f Green)) (c.pair_code-3.ensures m (f Blue))
