use Rattle.ppm.specs.Header.{field_at}
use Rattle.ppm.proofs.header.field_at.Goals as goal

pub returns : goal.returns
unfolding field_at
returns c =
    record { says = rw (← c.gap_end-start.ensures.ends, ← c.run_end-end.ensures.ends) c.field_between.ensures.says; within = c.field_between.ensures.within }
