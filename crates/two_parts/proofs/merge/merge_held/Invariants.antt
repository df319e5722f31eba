-- `merge_held` merges the parts: each turn puts the last row left in its place. Assumes nothing.
use Rattle.two_parts.proofs.Merging.{Merging}
use Rattle.two_parts.proofs.merge.merge_held.Given as goal

abbrev pub invariant-loop-left : goal.invariant-loop-left
invariant-loop-left l = Merging l.first l.later l.initial.rows l.held l.left l.at l.rows

abbrev pub decreases-loop-left : goal.decreases-loop-left
decreases-loop-left l = l.at
