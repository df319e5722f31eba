-- `round_unit` meets its contract. The loop's invariant: the pairs of cells passed are rounded, and the droppings are theirs. Assumes nothing.
use Prim.Native.Nat.{◌*◌, ◌≤◌}
use mathlib.Core.Path.{◌≡◌}
use lib.IntN.{nat_abs}
use lib.ListN.{take}
use Rattle.integers.specs.Rounding.{nearest_wh}
use Rattle.correction.specs.Correction.{net_of}
use Rattle.correction.specs.Helpers.{dropped_from}
use Rattle.correction.proofs.Filled.{Filled}
use Rattle.correction.proofs.rounding.round_unit.Given as goal

abbrev pub invariant-loop-pair : goal.invariant-loop-pair
invariant-loop-pair l = record {
  rounded : Filled nearest_wh l.cells l.rounded (2 * l.pair);
  droppings-are : l.droppings ≡ net_of 0 (take (2 * l.pair) (dropped_from 0 l.cells));
  droppings-bound : nat_abs l.droppings ≤ 500 * l.pair;
}
