-- What the number of an outcome tells of it.
use mathlib.Core.Path.{◌≡◌}
use native.Mathlib.Omega.{arith}
use Rattle.refusals.specs.declared.Refusal.{Refusal}
use Rattle.refusals.specs.declared.Refusal.TheVariants.{BookIllFormed, ArgumentOutOfRange, QualityRefused, MeterUnknown, IssueNotAbove, CapacityReached, VolumesShort, TakeUnset, ShapeOfDefaultMissing, WeightedBelowOne, ToleranceExceeded, TotalsShort, CellsShort, ListMisshapen}
use Rattle.refusals.specs.Causes.{accepted}
use Rattle.refusals.specs.Refusal.{number_of}

-- no refusal has the number of an acceptance
pub not-accepted : (r : Refusal) → number_of r ≡ accepted → ⊥
not-accepted BookIllFormed e = omega arith
not-accepted ArgumentOutOfRange e = omega arith
not-accepted QualityRefused e = omega arith
not-accepted MeterUnknown e = omega arith
not-accepted IssueNotAbove e = omega arith
not-accepted CapacityReached e = omega arith
not-accepted VolumesShort e = omega arith
not-accepted TakeUnset e = omega arith
not-accepted ShapeOfDefaultMissing e = omega arith
not-accepted WeightedBelowOne e = omega arith
not-accepted ToleranceExceeded e = omega arith
not-accepted TotalsShort e = omega arith
not-accepted CellsShort e = omega arith
not-accepted ListMisshapen e = omega arith
