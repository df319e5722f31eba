-- `add_waiting` meets its contract: the two words are changed one after the other. Assumes nothing.
use Prim.Native.Nat.{◌+◌, ◌*◌}
use mathlib.Core.Path.{◌≡◌}
use native.Mathlib.Omega.{arith}
use Rattle.cells.specs.Cells.{estimate_bit}
use Rattle.running.specs.Helpers.{waiting_cell}
use Rattle.running.proofs.WaitingAdded.{loss-fits, next_fits, both-added}
use Rattle.running.proofs.shape.add_waiting.Goals as goal

pub overflow_mul-change-2 : goal.overflow_mul-change-2
overflow_mul-change-2 c = loss-fits _ _ _ c.requires c.of.ensures

pub overflow_add-change-3 : goal.overflow_add-change-3
unfolding estimate_bit
overflow_add-change-3 c =
    let at : 24 * c.unit.result + c.class.result ≡ waiting_cell c.args.registration = omega arith in
    next_fits _ _ _ c.requires c.of.ensures at c.told-change _

pub returns : goal.returns
unfolding estimate_bit
returns c =
    let at : 24 * c.unit.result + c.class.result ≡ waiting_cell c.args.registration = omega arith in
    both-added _ _ _ c.requires c.of.ensures at c.told-change
