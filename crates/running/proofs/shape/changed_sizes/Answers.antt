-- `changed_sizes` meets its contract: a turn adds the size of one cell more. Assumes nothing.
use native.Mathlib.Omega.{arith}
use Rattle.running.proofs.ChangeAdded.{none-sized, size-most, size-worked, one-sized, sizes-bound}
use Rattle.running.proofs.shape.changed_sizes.Goals as goal

pub loop-i-init : goal.loop-i-init
loop-i-init c = none-sized

pub overflow_add-total : goal.overflow_add-total
overflow_add-total c =
    let i = c.loop-i.i in
    let h = c.loop-i-test.true in
    omega (arith, c.unsigned_abs-total.ensures.value, size-worked _ _ c.requires i h, size-most _ _ c.requires i h, c.loop-i.invariant, sizes-bound _ _ c.requires i (omega arith))

pub loop-i-preserved : goal.loop-i-preserved
loop-i-preserved c =
    let i = c.loop-i.i in
    let h = c.loop-i-test.true in
    omega (arith, c.unsigned_abs-total.ensures.value, size-worked _ _ c.requires i h, c.loop-i.invariant, one-sized _ _ c.requires i h)
