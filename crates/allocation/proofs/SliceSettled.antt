-- What an accepted allocation of a slice of running cells leaves, however the slice was filled: volumes that add up to the Take and are less than 1 Wh from the shares worked from the cells, and droppings that make up the losses.
use Prim.Native.Nat.{ℕ, zero, suc}
use mathlib.Core.Path.{◌≡◌, refl, sym, ◌∙◌}
use mathlib.Core.Bool.{not}
use mathlib.Core.List.{List}
use lib.Dec.{ltb}
use lib.IntN.{ℤ, pos}
use lib.ListN.{length, get_or-map}
use Rattle.refusals.specs.Causes.{accepted}
use Rattle.refusals.proofs.Passed.{passed}
use Rattle.integers.specs.Rounding.{nearest_wh}
use Rattle.book.specs.declared.Settings.{Settings}
use Rattle.cells.specs.Cells.{units}
use Rattle.cells.proofs.Counting.{counted-at}
use Rattle.running.specs.Running.{Running, is_short, running_formed}
use Rattle.correction.specs.Slice.{unit_cells, rounded_cells}
use Rattle.correction.specs.Volumes.{volumes_of, with_volumes}
use Rattle.allocation.specs.Allocate.{cause_from}
use Rattle.allocation.specs.Running.{slice_sums, slice_lacks, slice_dropped, slice_droppings, slice_cause, slice_answer, slice_volumes, running_allocation_cause, allocate_running, slice_rounded, slice_exact, SliceSettled}
use Rattle.allocation.proofs.Losses.{losses-joined, droppings-bounded}
use Rattle.allocation.proofs.Settled.{settled-total, settled-distance}
use Rattle.allocation.proofs.SliceSteps.{slice-sums-length}

-- settings and a slice that no cause from 7 on applies to
module _ (s : Settings) (cells volumes : List ℤ) (h : slice_cause s cells volumes ≡ accepted) where
  pass : cause_from s (slice_lacks s.shapes cells) (slice_sums s cells) ≡ accepted
  unfolding slice_cause
  pass = (passed (ltb (length volumes) units) _ _ h).1

  written : slice_volumes accepted s cells volumes ≡ with_volumes (volumes_of s.take_wh (slice_sums s cells)) volumes
  unfolding slice_volumes
  written = refl

  slice-settled : SliceSettled s cells (slice_answer accepted s cells) (slice_volumes accepted s cells volumes)
  unfolding slice_answer slice_droppings slice_dropped slice_rounded slice_exact rounded_cells nearest_wh
  slice-settled =
      let lacks = slice_lacks s.shapes cells in
      let sums = slice_sums s cells in
      record {
        total = settled-total s lacks sums (slice-sums-length s cells) pass volumes written;
        distance = settled-distance s lacks sums (slice-sums-length s cells) pass volumes written;
        reconciled = λ unit p.
            rw (counted-at (slice_dropped cells) units unit (pos 0) p)
            (losses-joined _ _ (λ class loss. get_or-map nearest_wh (unit_cells cells unit) class (pos 0)));
        bounded = λ unit p. rw (counted-at (slice_dropped cells) units unit (pos 0) p) (droppings-bounded _);
      }

-- an accepted allocation of a book with its slice
module _ (r : Running) (volumes : List ℤ) (h : (allocate_running r volumes).answer.number ≡ accepted) where
  -- the number given is the cause
  no-cause : running_allocation_cause r volumes ≡ accepted
  unfolding allocate_running slice_answer
  no-cause = sym (by (running_allocation_cause r volumes)) ∙ h
    where
      by : (cause : ℕ) → (slice_answer cause r.book.settings r.cells).number ≡ cause
      by zero = refl
      by (suc k) = refl

  slice-accepted : slice_cause r.book.settings r.cells volumes ≡ accepted
  unfolding running_allocation_cause
  slice-accepted =
      let long = passed (is_short r.cells) _ _ no-cause in
      (passed (not (running_formed r)) _ _ long.1).1

  pub running-settled : SliceSettled r.book.settings r.cells (allocate_running r volumes).answer (allocate_running r volumes).volumes
  unfolding allocate_running
  running-settled = rw no-cause (slice-settled r.book.settings r.cells volumes slice-accepted)
