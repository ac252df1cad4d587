use mathlib.Core.Path.{ap, ◌∙◌}
use mathlib.Core.List.{◌++◌}
use lib.ListN.{length, drop}
use Rattle.picture.proofs.ThreePasses.{one-d-so, lined-so}
use Rattle.picture.proofs.Keeping.{kept-so, kept-corrects}
use Rattle.picture.proofs.kept.correct_kept.Goals as goal

-- Every raw code of each colour is kept before the first pixel is looked up.
pub keep_codes-requires-clause-lined : goal.keep_codes-requires-clause-lined
keep_codes-requires-clause-lined c = lined-so c.requires.planned c.requires.kind_value c.line_of.ensures

pub keep_codes-requires-2-clause-lined : goal.keep_codes-requires-2-clause-lined
keep_codes-requires-2-clause-lined c = lined-so c.requires.planned c.requires.kind_value c.line_of-2.ensures

pub keep_codes-requires-3-clause-lined : goal.keep_codes-requires-3-clause-lined
keep_codes-requires-3-clause-lined c = lined-so c.requires.planned c.requires.kind_value c.line_of-3.ensures

pub look_up-requires-clause-listed : goal.look_up-requires-clause-listed
look_up-requires-clause-listed c =
    let p = c.requires.planned in
    let one_d = c.requires.kind_value in
    record {
      count = c.args.count;
      below = c.requires.by_index;
      reds_long = (c.keep_codes.ensures (lined-so p one_d c.line_of.ensures)).long;
      greens_long = (c.keep_codes-2.ensures (lined-so p one_d c.line_of-2.ensures)).long;
      blues_long = (c.keep_codes-3.ensures (lined-so p one_d c.line_of-3.ensures)).long;
    }

pub returns : goal.returns
returns c =
    let a = c.args in
    let one_d = c.requires.kind_value in
    λ p.
    c.look_up.ensures
    ∙ ap (λ l. l ++ drop (length a.src.now) a.dst.now)
    (kept-corrects p.d a.table.now p.depths (one-d-so p one_d)
    (kept-so p one_d c.line_of.ensures (c.keep_codes.ensures (lined-so p one_d c.line_of.ensures)))
    (kept-so p one_d c.line_of-2.ensures (c.keep_codes-2.ensures (lined-so p one_d c.line_of-2.ensures)))
    (kept-so p one_d c.line_of-3.ensures (c.keep_codes-3.ensures (lined-so p one_d c.line_of-3.ensures)))
    a.src.now c.requires.by_index)
