-- `unit_sums` meets its contract. The loop's invariant: n and a are those of the pairs of cells passed. Assumes nothing.
use Prim.Native.Nat.{◌*◌}
use Rattle.correction.proofs.PairSums.{Passed}
use Rattle.correction.proofs.sums.unit_sums.Given as goal

abbrev pub invariant-loop-pair : goal.invariant-loop-pair
invariant-loop-pair l = Passed l.cells l.weights (2 * l.pair) l.net l.weighted
