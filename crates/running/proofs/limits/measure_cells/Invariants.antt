-- After i cells their sizes are added up, unless one is large.
use Rattle.running.proofs.WithinLimits.{Added}
use Rattle.running.proofs.limits.measure_cells.Given as goal

abbrev pub invariant-loop-cell : goal.invariant-loop-cell
invariant-loop-cell l = Added l.cells l.cell-index l.bits l.total
