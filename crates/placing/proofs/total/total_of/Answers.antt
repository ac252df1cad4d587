use Rattle.placing.proofs.Sums.{listed-fit, is-total, total-most}
use Rattle.placing.proofs.total.total_of.Goals as goal

pub four_total-requires : goal.four_total-requires
four_total-requires c = let s = c.before in listed-fit s.requires s.args.c c.four_of.result c.four_of.ensures

pub returns : goal.returns
returns c =
    let found = c.before in
    let s = found.before in
    let four = found.four_of.result in
    let e = found.four_of.ensures in
    record { result_value = is-total s.requires s.args.c four e c.four_total.ensures; result_bound = total-most s.requires s.args.c four e c.four_total.ensures }
