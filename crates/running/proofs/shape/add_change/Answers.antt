-- `add_change` meets its contract: a turn adds the change to one cell more. Assumes nothing.
use Rattle.running.proofs.ChangeAdded.{none-added, sum-fits, one-added}
use Rattle.running.proofs.shape.add_change.Goals as goal

pub loop-i-init : goal.loop-i-init
loop-i-init c = none-added _ _

pub overflow_add-cells : goal.overflow_add-cells
overflow_add-cells c = sum-fits _ _ c.requires _ c.loop-i-test.true c.loop-i.invariant

pub loop-i-preserved : goal.loop-i-preserved
loop-i-preserved c = one-added _ _ c.requires _ c.loop-i-test.true c.loop-i.invariant
