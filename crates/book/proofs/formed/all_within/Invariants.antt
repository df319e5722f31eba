-- `all_within` is the test of every number of the slice: `all` tells of those before an index. Assumes nothing.
use Prim.Native.Nat.{◌≤◌}
use mathlib.Core.Path.{◌≡◌}
use lib.ListN.{length, take}
use Rattle.std.specs.List.{list_all}
use Rattle.book.specs.Helpers.{within}
use Rattle.book.proofs.formed.all_within.Given as goal

abbrev pub invariant-loop-x : goal.invariant-loop-x
invariant-loop-x l = (l.x-index ≤ length l.xs) × (l.all ≡ list_all (within l.most l.other) (take l.x-index l.xs))
