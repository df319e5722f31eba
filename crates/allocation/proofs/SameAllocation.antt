-- "its allocation is the old one": running cells that are a sum over the rows are allocated as document 01 allocates the rows.
use Prim.Native.Nat.{ℕ, zero, suc, ◌≤◌}
use mathlib.Core.Path.{◌≡◌, refl, ap, ◌∙◌}
use mathlib.Core.Bool.{true, and-true}
use mathlib.Core.List.{List, ◌++◌}
use native.Mathlib.Omega.{arith}
use borrow.Author.Tests.{le-ltb}
use lib.IntN.{ℤ}
use lib.ListN.{length, length-append}
use Rattle.book.specs.Limits.{categories}
use Rattle.book.specs.Book.{Book, used_rows, well_formed}
use Rattle.running.specs.Words.{slice_words}
use Rattle.running.specs.Running.{Running, cells_for, within_limits, running_formed}
use Rattle.running.proofs.CellsFor.{cells-for-length}
use Rattle.allocation.specs.Allocate.{meters_cause, allocation_cause, figures_of, allocation_outcome, allocate_call}
use Rattle.allocation.specs.Running.{slice_cause, slice_answer, slice_volumes, running_allocation_cause, allocate_running}
use Rattle.allocation.proofs.FromRows.{sums_same, counts_same, droppings-same}
use Rattle.allocation.proofs.WaitingRows.{lacks-same}

module _ (b : Book) (later : List ℤ) (long : length b.settings.shapes ≡ categories) where
  abbrev kept : List ℤ
  kept = cells_for b.settings.shapes (used_rows b) ++ later

  abbrev running : Running
  running = record { book = b; cells = kept }

  module _ (within : within_limits kept ≡ true) (volumes : List ℤ) where
    same-cause : running_allocation_cause running volumes ≡ allocation_cause b volumes
    unfolding running_allocation_cause allocation_cause running_formed slice_cause meters_cause
    same-cause =
        let room : slice_words ≤ length kept = omega (arith, cells-for-length b.settings.shapes (used_rows b), length-append (cells_for b.settings.shapes (used_rows b)) later) in
        rw (le-ltb (length kept) slice_words room, within, and-true (well_formed b), lacks-same b.settings.shapes long (used_rows b) later, sums_same b.settings (used_rows b) later)

    answer-by : (cause : ℕ) → slice_answer cause b.settings kept ≡ (allocation_outcome cause b volumes).answer
    unfolding slice_answer allocation_outcome figures_of
    answer-by zero =
        rw (sums_same b.settings (used_rows b) later, counts_same b.settings.shapes (used_rows b) later, droppings-same b.settings.shapes (used_rows b) later)
    answer-by (suc k) = refl

    volumes-by : (cause : ℕ) → slice_volumes cause b.settings kept volumes ≡ (allocation_outcome cause b volumes).volumes
    unfolding slice_volumes allocation_outcome
    volumes-by zero = rw (sums_same b.settings (used_rows b) later)
    volumes-by (suc k) = refl

    pub same_answer : (allocate_running running volumes).answer ≡ (allocate_call b volumes).answer
    unfolding allocate_running allocate_call
    same_answer = ap (λ (cause : ℕ). slice_answer cause b.settings kept) same-cause ∙ answer-by (allocation_cause b volumes)

    pub same-volumes : (allocate_running running volumes).volumes ≡ (allocate_call b volumes).volumes
    unfolding allocate_running allocate_call
    same-volumes = ap (λ (cause : ℕ). slice_volumes cause b.settings kept volumes) same-cause ∙ volumes-by (allocation_cause b volumes)
