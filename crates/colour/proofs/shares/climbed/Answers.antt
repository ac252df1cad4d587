use Rattle.rules.specs.Looking.Interpolation.{climb}
use Rattle.colour.proofs.shares.climbed.Goals as goal

pub returns : goal.returns
unfolding climb
returns c =
    let c5 = c.before in
    let c4 = c5.before in
    let c3 = c4.before in
    let c2 = c3.before in
    rw (c2.before.share_of.ensures, c2.share_of-2.ensures, c3.share_of-3.ensures, c4.share_of-4.ensures, c5.share_of-5.ensures, c.share_of-6.ensures)
