-- `lower_bound` is the place of m: it is at least `low` and at most `low + left`, and `left` comes down to 1. Assumes nothing.
use Prim.Native.Nat.{◌+◌, ◌≤◌}
use Rattle.book.specs.Rows.{rows_of}
use Rattle.book.specs.Helpers.{place_of}
use Rattle.book.proofs.rows.lower_bound.Given as goal

abbrev pub invariant-loop-left : goal.invariant-loop-left
invariant-loop-left l = (l.low ≤ place_of l.m (rows_of l.n l.rows)) × (place_of l.m (rows_of l.n l.rows) ≤ l.low + l.left) × (l.low + l.left ≤ l.n) × (1 ≤ l.left)

abbrev pub decreases-loop-left : goal.decreases-loop-left
decreases-loop-left l = l.left
