-- `share_down` meets its contract. The loop's invariant: the floors and fractions of the units passed are filled in. Assumes nothing.
use Prim.Native.Nat.{ℕ}
use mathlib.Core.List.{List}
use lib.IntN.{ℤ}
use Rattle.correction.specs.declared.UnitSums.{UnitSums}
use Rattle.correction.specs.Correction.{share_floor, share_fraction}
use Rattle.correction.proofs.Filled.{Filled}
use Rattle.correction.proofs.shares.share_down.Given as goal

-- the floors and fractions of the first i units are filled in
pub record Done (u w : ℤ) (sums : List UnitSums) (floors : List ℤ) (fractions : List ℕ) (i : ℕ) : Type 0 where
  pub floors-done : Filled (share_floor u w) sums floors i
  pub fractions-done : Filled (share_fraction u w) sums fractions i

abbrev pub invariant-loop-unit : goal.invariant-loop-unit
invariant-loop-unit l = Done l.within.corrected.unallocated l.within.corrected.weighted l.sums l.floors l.times_w l.unit
