use Rattle.rules.specs.Reading.Lines.{bytes}
use Rattle.reporting.proofs.Lines.{cube-1d, cube-3d}
use Rattle.reporting.proofs.put_cube.Goals as goal

pub put_counts-requires : goal.put_counts-requires
unfolding bytes
put_counts-requires c =
    rw (cube-1d _ _ _ c.count_rows-rows.ensures c.in-OneD.is) at c.requires.room

pub put_counts-requires-in-ThreeD : goal.put_counts-requires-in-ThreeD
unfolding bytes
put_counts-requires-in-ThreeD c =
    rw (cube-3d _ _ _ c.count_rows-rows.ensures c.in-ThreeD.is) at c.requires.room

pub returns-in-OneD : goal.returns-in-OneD
unfolding bytes
returns-in-OneD c =
    rw (cube-1d _ _ _ c.count_rows-rows.ensures c.in-OneD.is) c.put_counts.ensures

pub returns-in-ThreeD : goal.returns-in-ThreeD
unfolding bytes
returns-in-ThreeD c =
    rw (cube-3d _ _ _ c.count_rows-rows.ensures c.in-ThreeD.is) c.put_counts-in-ThreeD.ensures
