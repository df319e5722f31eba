-- The four counts add up to the number of meters.
use Prim.Native.Nat.{ℕ, ◌+◌}
use mathlib.Core.Path.{◌≡◌}
use mathlib.Core.List.{List, [], ◌∷◌}
use native.Mathlib.Omega.{arith}
use lib.ListN.{length}
use Rattle.book.specs.Rows.{Row}
use Rattle.cells.specs.declared.Source.{Source}
use Rattle.cells.specs.declared.Source.TheVariants.{Actual, Estimated, Defaulted, Idle}
use Rattle.cells.specs.declared.Counts.{Counts}
use Rattle.cells.specs.Energy.{source_of, count_for, counts_of}

abbrev pub in_all : Counts → ℕ
in_all c = c.actual + c.estimated + c.defaulted + c.idle

one_each : (x : Source) → in_all (count_for x) ≡ 1
unfolding count_for
one_each Actual = omega arith
one_each Estimated = omega arith
one_each Defaulted = omega arith
one_each Idle = omega arith

pub counts-total : (meters : List Row) → in_all (counts_of meters) ≡ length meters
unfolding counts_of
counts-total [] = omega arith
counts-total (r ∷ meters) = omega (arith, one_each (source_of r.registration r.reading), counts-total meters)
