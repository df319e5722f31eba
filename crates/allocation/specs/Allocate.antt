-- "Allocate: reads the book, changes nothing in it, writes the first 32 words of a lent signed 64-bit slice".
use Rattle.std.specs.Prelude.{ℕ, zero, suc, Bool, not, List, map, ltb, ℤ, pos, length}
use Rattle.refusals.specs.Causes.{refuse, accepted, book_ill_formed, volumes_short, take_unset, shape_of_default_missing}
use Rattle.book.specs.declared.Settings.{Settings}
use Rattle.book.specs.Settings.{take_is_set}
use Rattle.book.specs.Rows.{Row}
use Rattle.book.specs.Book.{Book, used_rows, well_formed}
use Rattle.cells.specs.declared.Counts.{Counts}
use Rattle.cells.specs.Energy.{counts_of, no_counts, any_lacks_shape}
use Rattle.cells.specs.Cells.{units, cells_of, count_from}
use Rattle.correction.specs.declared.UnitSums.{UnitSums}
use Rattle.correction.specs.Correction.{unallocated_of, weighted_total, sums_of, sums_cause}
use Rattle.correction.specs.Volumes.{volumes_of, with_volumes}
use Rattle.allocation.specs.declared.Allocated.{Allocated}
use Rattle.allocation.specs.Losses.{all_droppings, no_droppings}

-- a unit's n and a, worked from the rows
unfoldable pub unit_sums : Settings → List Row → ℕ → UnitSums
unit_sums s meters unit = sums_of (cells_of s.shapes meters unit) s.weights

-- those of the 32 units, in unit order
unfoldable pub all_unit_sums : Settings → List Row → List UnitSums
all_unit_sums s meters = map (unit_sums s meters) (count_from 0 units)

-- causes 8 to 11, of settings, of whether a shape is missing, and of the sums of the units
abbrev pub cause_from : Settings → Bool → List UnitSums → ℕ
cause_from s lacks sums =
    refuse (not (take_is_set s)) take_unset
    (refuse lacks shape_of_default_missing
    (sums_cause s.take_wh s.tolerance sums))

unfoldable pub meters_cause : Settings → List Row → ℕ
meters_cause s meters = cause_from s (any_lacks_shape s.shapes meters) (all_unit_sums s meters)

unfoldable pub allocation_cause : Book → List ℤ → ℕ
allocation_cause b volumes =
    refuse (not (well_formed b)) book_ill_formed
    (refuse (ltb (length volumes) units) volumes_short
    (meters_cause b.settings (used_rows b)))

-- the answer that has these figures
abbrev pub answer_of : ℕ → ℤ → ℤ → Counts → List ℤ → Allocated
answer_of number u w counts droppings =
    record {
      number = number;
      unallocated = u;
      weighted = w;
      actual = counts.actual;
      estimated = counts.estimated;
      defaulted = counts.defaulted;
      idle = counts.idle;
      droppings = droppings;
    }

-- "An accepted allocation returns U, W and four counts", and "per unit, import droppings minus export droppings"
abbrev pub figures_from : Settings → List UnitSums → Counts → List ℤ → Allocated
figures_from s sums counts droppings = answer_of accepted (unallocated_of s.take_wh sums) (weighted_total sums) counts droppings

unfoldable pub figures_of : Settings → List Row → Allocated
figures_of s meters = figures_from s (all_unit_sums s meters) (counts_of meters) (all_droppings s.shapes meters)

-- "number; U, W, counts 0", and droppings "0 on a refusal"
abbrev pub refused_with : ℕ → Allocated
refused_with cause = answer_of cause (pos 0) (pos 0) no_counts no_droppings

-- what an allocation leaves: its answer, the book and the volume slice
pub record Allocation : Type 0 where
  pub answer : Allocated
  pub book : Book
  pub volumes : List ℤ

unfoldable pub allocation_outcome : ℕ → Book → List ℤ → Allocation
allocation_outcome zero b slice =
    record {
      answer = figures_of b.settings (used_rows b);
      book = b;
      volumes = with_volumes (volumes_of b.settings.take_wh (all_unit_sums b.settings (used_rows b))) slice;
    }
allocation_outcome (suc k) b slice = record { answer = refused_with (suc k); book = b; volumes = slice }

unfoldable pub allocate_call : Book → List ℤ → Allocation
allocate_call b slice = allocation_outcome (allocation_cause b slice) b slice
