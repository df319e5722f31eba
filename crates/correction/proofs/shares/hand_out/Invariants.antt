-- `hand_out` meets its contract. The units' loop keeps `HandedOut`. The inner loop's invariant: the units that come before are those counted
-- and those among the units to come. Assumes nothing.
use Prim.Native.Nat.{◌≤◌}
use Rattle.correction.proofs.HandedOut.{HandedOut, CountedTo}
use Rattle.correction.proofs.shares.hand_out.Given as goal

abbrev pub invariant-loop-other : goal.invariant-loop-other
invariant-loop-other l = (l.before ≤ l.other-index) × CountedTo l.fractions.times_w l.unit l.before l.other-index

abbrev pub invariant-units : goal.invariant-units
invariant-units l = HandedOut l.lack l.fractions.times_w l.initial.volumes l.volumes l.left l.unit
