-- `merge_held` merges the parts: none held is left. Assumes nothing.
use native.Mathlib.Omega.{arith}
use Rattle.two_parts.proofs.Merging.{all_placed}
use Rattle.two_parts.proofs.merge.merge_held.Goals as goal

pub returns : goal.returns
returns c = all_placed _ _ _ _ c.requires.ready c.requires.copied c.loop-left.invariant (omega arith)
