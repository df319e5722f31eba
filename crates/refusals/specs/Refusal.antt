-- "Causes": a refusal as code speaks of it, and the number that the table gives it.
use Rattle.std.specs.Prelude.{ℕ, Result, Ok, Err}
use Rattle.refusals.specs.declared.Refusal.{Refusal}
use Rattle.refusals.specs.declared.Refusal.TheVariants.{BookIllFormed, ArgumentOutOfRange, QualityRefused, MeterUnknown, IssueNotAbove, CapacityReached, VolumesShort, TakeUnset, ShapeOfDefaultMissing, WeightedBelowOne, ToleranceExceeded, TotalsShort, CellsShort, ListMisshapen}
use Rattle.refusals.specs.Causes.{accepted, book_ill_formed, argument_out_of_range, quality_refused, meter_unknown, issue_not_above, capacity_reached, volumes_short, take_unset, shape_of_default_missing, weighted_below_one, tolerance_exceeded, totals_short, cells_short, list_misshapen}

-- "Number": that of a refusal
abbrev pub number_of : Refusal → ℕ
number_of BookIllFormed = book_ill_formed
number_of ArgumentOutOfRange = argument_out_of_range
number_of QualityRefused = quality_refused
number_of MeterUnknown = meter_unknown
number_of IssueNotAbove = issue_not_above
number_of CapacityReached = capacity_reached
number_of VolumesShort = volumes_short
number_of TakeUnset = take_unset
number_of ShapeOfDefaultMissing = shape_of_default_missing
number_of WeightedBelowOne = weighted_below_one
number_of ToleranceExceeded = tolerance_exceeded
number_of TotalsShort = totals_short
number_of CellsShort = cells_short
number_of ListMisshapen = list_misshapen

-- "Acceptance is 0": the number that an outcome gives, whatever an acceptance gives beside it
abbrev pub number_given : {A : Type 0} → Result A Refusal → ℕ
number_given (Ok a) = accepted
number_given (Err refusal) = number_of refusal
