use Rattle.rules.specs.Reading.Judge.{order_fault}
use Rattle.reading.proofs.checks.order_fault.Goals as goal

pub returns-in-Idle : goal.returns-in-Idle
unfolding order_fault
returns-in-Idle c = rw c.in-Idle.is

pub returns-in-Neither : goal.returns-in-Neither
unfolding order_fault
returns-in-Neither c = rw c.in-Neither.is
