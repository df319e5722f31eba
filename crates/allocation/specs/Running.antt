-- Document 02, request 4: "Allocation works from this slice". The allocation of running cells, however they came to stand in the slice.
use Rattle.std.specs.Prelude.{ℕ, zero, suc, ◌≤◌, ◌<◌, ◌≡◌, Bool, false, ◌&&◌, ◌||◌, List, [], ◌∷◌, map, ltb, eqb, ℤ, pos, nat_abs, ◌+ℤ◌, ◌-ℤ◌, ◌*ℤ◌, length, get_or, take, drop}
use Rattle.std.specs.Int.Signed.{lt_z}
use Rattle.refusals.specs.Causes.{refuse, volumes_short}
use Rattle.integers.specs.Sum.{sum}
use Rattle.integers.specs.Rounding.{dropped_thousandths}
use Rattle.book.specs.declared.Settings.{Settings}
use Rattle.book.specs.Limits.{shape_missing}
use Rattle.cells.specs.declared.Counts.{Counts}
use Rattle.cells.specs.Cells.{units, count_from}
use Rattle.running.specs.Words.{cell_words, waiting_words}
use Rattle.running.specs.Running.{Running, lent_cause}
use Rattle.correction.specs.declared.UnitSums.{UnitSums}
use Rattle.correction.specs.Slice.{unit_cells, rounded_cells}
use Rattle.correction.specs.Correction.{over_losses, sums_of, unallocated_of, weighted_total, share_numerator}
use Rattle.correction.specs.Volumes.{volumes_of, with_volumes}
use Rattle.allocation.specs.declared.Allocated.{Allocated}
use Rattle.allocation.specs.declared.AllocationAnswer.{AllocationAnswer}
use Rattle.allocation.specs.Allocate.{cause_from, figures_from, refused_with}

-- n and a of the 32 units, in unit order
unfoldable pub slice_sums : Settings → List ℤ → List UnitSums
slice_sums s cells = map (λ unit. sums_of (rounded_cells cells unit) s.weights) (count_from 0 units)

-- "9 is a waiting number above 0 whose shape is missing"
unfoldable pub any_waits : List ℕ → List ℤ → Bool
any_waits [] numbers = false
any_waits (shape ∷ shapes) [] = false
any_waits (shape ∷ shapes) (number ∷ numbers) = (eqb shape shape_missing && lt_z (pos 0) number) || any_waits shapes numbers

abbrev pub slice_lacks : List ℕ → List ℤ → Bool
slice_lacks shapes cells = any_waits shapes (drop waiting_words cells)

-- "the four counts"
abbrev pub number_at : List ℤ → ℕ → ℕ
number_at cells word = nat_abs (get_or cells word (pos 0))

unfoldable pub slice_counts : List ℤ → Counts
slice_counts cells =
    record {
      actual = number_at cells cell_words;
      estimated = number_at cells (suc cell_words);
      defaulted = number_at cells (suc (suc cell_words));
      idle = number_at cells (suc (suc (suc cell_words)));
    }

-- "droppings still come from loss cells only": what rounding a unit's loss cells drops, import minus export
unfoldable pub slice_dropped : List ℤ → ℕ → ℤ
slice_dropped cells unit = over_losses (λ class. dropped_thousandths (get_or (unit_cells cells unit) class (pos 0)))

unfoldable pub slice_droppings : List ℤ → List ℤ
slice_droppings cells = map (slice_dropped cells) (count_from 0 units)

-- 7, and then 8 to 11, of settings and a slice that were tested
unfoldable pub slice_cause : Settings → List ℤ → List ℤ → ℕ
slice_cause s cells volumes =
    refuse (ltb (length volumes) units) volumes_short
    (cause_from s (slice_lacks s.shapes cells) (slice_sums s cells))

-- the answer and the volume slice afterwards, by the cause: figures and volumes worked from the slice, or on a refusal its number and the volumes as they were
unfoldable pub slice_answer : ℕ → Settings → List ℤ → Allocated
slice_answer zero s cells = figures_from s (slice_sums s cells) (slice_counts cells) (slice_droppings cells)
slice_answer (suc k) s cells = refused_with (suc k)

unfoldable pub slice_volumes : ℕ → Settings → List ℤ → List ℤ → List ℤ
slice_volumes zero s cells volumes = with_volumes (volumes_of s.take_wh (slice_sums s cells)) volumes
slice_volumes (suc k) s cells volumes = volumes

-- 13, 1, and then those of the slice
unfoldable pub running_allocation_cause : Running → List ℤ → ℕ
running_allocation_cause r volumes = lent_cause r (slice_cause r.book.settings r.cells volumes)

-- what an allocation leaves: its answer, the book with its cells as they were, and the volume slice
pub record RunningAllocation : Type 0 where
  pub answer : Allocated
  pub running : Running
  pub volumes : List ℤ

unfoldable pub allocate_running : Running → List ℤ → RunningAllocation
allocate_running r volumes =
    record {
      answer = slice_answer (running_allocation_cause r volumes) r.book.settings r.cells;
      running = r;
      volumes = slice_volumes (running_allocation_cause r volumes) r.book.settings r.cells volumes;
    }

-- request 3 of such a slice: "exact losses are then those cells unrounded"
unfoldable pub slice_rounded : List ℤ → ℕ → ℤ
slice_rounded cells unit = over_losses (λ class. get_or (rounded_cells cells unit) class (pos 0))

unfoldable pub slice_exact : List ℤ → ℕ → ℤ
slice_exact cells unit = over_losses (λ class. get_or (unit_cells cells unit) class (pos 0))

-- what an accepted allocation of a slice, however filled, is promised to have: the exact sum, the distance from the shares worked from the cells, and losses that reconcile
pub record SliceSettled (s : Settings) (cells : List ℤ) (answer : Allocated) (after : List ℤ) : Type 0 where
  pub total : sum (take units after) ≡ s.take_wh
  pub distance : (unit : ℕ) → unit < units
      → nat_abs
      (get_or after unit (pos 0) *ℤ weighted_total (slice_sums s cells)
      -ℤ get_or (map (share_numerator (unallocated_of s.take_wh (slice_sums s cells)) (weighted_total (slice_sums s cells))) (slice_sums s cells)) unit (pos 0))
      < nat_abs (weighted_total (slice_sums s cells))
  pub reconciled : (unit : ℕ) → unit < units
      → pos 1000 *ℤ slice_rounded cells unit +ℤ get_or answer.droppings unit (pos 0) ≡ slice_exact cells unit
  pub bounded : (unit : ℕ) → unit < units → nat_abs (get_or answer.droppings unit (pos 0)) ≤ 6000

-- the promise of the allocate call: the answer, the rows, the cells and the volume slice afterwards are those of its outcome
pub record RunningAllocationGives (o : RunningAllocation) (r : AllocationAnswer) (rows_after : List ℕ) (cells_after volumes_after : List ℤ) : Type 0 where
  pub answer : r.answer ≡ o.answer
  pub settings : r.settings ≡ o.running.book.settings
  pub rows : rows_after ≡ o.running.book.rows
  pub cells : cells_after ≡ o.running.cells
  pub volumes : volumes_after ≡ o.volumes
