-- `measure_after` meets its contract: a slice that was tested is not far from the limits.
use Rattle.running.proofs.Near.{near-ready}
use Rattle.running.proofs.meters.measure_after.Goals as goal

pub size_after-size-requires-clause-near : goal.size_after-size-requires-clause-near
size_after-size-requires-clause-near c = near-ready c.args.cells.now c.requires.ready
