use mathlib.Core.Path.{subst}
use Rattle.rules.specs.Promises.{Checks}
use Rattle.checking.proofs.Checked.{tellable}
use Rattle.checking.proofs.write_answer.Goals as goal
use Rattle.rules.specs.Results.{Read}

pub write_accepted-requires : goal.write_accepted-requires
write_accepted-requires c =
    let file = c.args.file.now in
    tellable file (subst (λ (r : Read). Checks file r) c.in-Ok.is c.requires)
