-- What an accepted allocation leaves: the figures and volumes of its book, which add up to the Take and are less than 1 Wh from the exact shares, and droppings that make up the exact losses.
use Prim.Native.Nat.{ℕ, zero, suc, ◌<◌}
use mathlib.Core.Path.{◌≡◌, refl, sym, ap, subst, ◌∙◌}
use mathlib.Core.List.{List}
use mathlib.Core.Bool.{Bool, not}
use lib.ListN.{length, get_or, take}
use lib.IntN.{ℤ, pos, nat_abs, ◌-ℤ◌, ◌*ℤ◌}
use lib.Dec.{ltb}
use borrow.Author.Tests.{not-false}
use Rattle.refusals.specs.Causes.{accepted}
use Rattle.refusals.proofs.Passed.{passed}
use Rattle.integers.specs.Sum.{sum}
use Rattle.book.specs.Book.{Book, used_rows, well_formed}
use Rattle.cells.specs.Cells.{units}
use Rattle.cells.specs.Energy.{any_lacks_shape}
use Rattle.cells.proofs.Counting.{counted-length}
use Rattle.cells.proofs.RowBounds.{book-bounds}
use Rattle.correction.specs.declared.UnitSums.{UnitSums}
use Rattle.correction.specs.Correction.{weighted_total}
use Rattle.correction.specs.Volumes.{volumes_of, with_volumes}
use Rattle.correction.proofs.Apportioned.{numerators_of}
use Rattle.allocation.specs.declared.Allocated.{Allocated}
use Rattle.allocation.specs.Losses.{LossesReconciled}
use Rattle.allocation.specs.Allocate.{unit_sums, all_unit_sums, cause_from, allocation_cause, Allocation, figures_of, allocation_outcome, allocate_call, meters_cause}
use Rattle.allocation.proofs.Losses.{losses-reconciled}
use Rattle.allocation.proofs.Settled.{settled-volumes, settled-total, settled-distance}

-- the number given is the cause
pub number-given : (b : Book) (slice : List ℤ) → (allocate_call b slice).answer.number ≡ allocation_cause b slice
unfolding allocate_call allocation_outcome figures_of
number-given b slice = by (allocation_cause b slice)
  where
    by : (cause : ℕ) → (allocation_outcome cause b slice).answer.number ≡ cause
    by zero = refl
    by (suc k) = refl

-- causes 8 to 11 of an accepted allocation
meters-pass : (b : Book) (slice : List ℤ) → allocation_cause b slice ≡ accepted → meters_cause b.settings (used_rows b) ≡ accepted
unfolding allocation_cause
meters-pass b slice h =
    let formed = passed (not (well_formed b)) _ _ h in
    (passed (ltb (length slice) units) _ _ formed.1).1

-- the sums of a book's units
abbrev pub sums_of : Book → List UnitSums
sums_of b = all_unit_sums b.settings (used_rows b)

module _ (b : Book) (slice : List ℤ) (h : (allocate_call b slice).answer.number ≡ accepted) where
  no-cause : allocation_cause b slice ≡ accepted
  no-cause = sym (number-given b slice) ∙ h

  outcome-is : allocate_call b slice ≡ allocation_outcome accepted b slice
  unfolding allocate_call
  outcome-is = ap (λ (cause : ℕ). allocation_outcome cause b slice) no-cause

  abbrev lacks : Bool
  lacks = any_lacks_shape b.settings.shapes (used_rows b)

  pass : cause_from b.settings lacks (sums_of b) ≡ accepted
  unfolding meters_cause
  pass = meters-pass b slice no-cause

  written : (allocate_call b slice).volumes ≡ with_volumes (volumes_of b.settings.take_wh (sums_of b)) slice
  unfolding allocation_outcome
  written = ap (λ (o : Allocation). o.volumes) outcome-is

  long : length (sums_of b) ≡ units
  unfolding all_unit_sums
  long = counted-length (unit_sums b.settings (used_rows b)) units

  pub accepted-answer : (allocate_call b slice).answer ≡ figures_of b.settings (used_rows b)
  unfolding allocation_outcome
  accepted-answer = ap (λ (o : Allocation). o.answer) outcome-is

  -- and its droppings are as promised
  pub accepted-losses : LossesReconciled b.settings.shapes (used_rows b) (allocate_call b slice).answer.droppings
  unfolding allocation_cause figures_of
  accepted-losses =
      let formed = not-false (well_formed b) (passed (not (well_formed b)) _ _ no-cause).0 in
      subst (λ (a : Allocated). LossesReconciled b.settings.shapes (used_rows b) a.droppings) (sym accepted-answer)
      (losses-reconciled b.settings.shapes (book-bounds b formed))

  pub accepted-volumes : take units (allocate_call b slice).volumes ≡ volumes_of b.settings.take_wh (sums_of b)
  accepted-volumes = settled-volumes b.settings lacks (sums_of b) long pass slice written

  pub accepted-total : sum (take units (allocate_call b slice).volumes) ≡ b.settings.take_wh
  accepted-total = settled-total b.settings lacks (sums_of b) long pass slice written

  pub accepted-distance : (unit : ℕ) → unit < units
      → nat_abs (get_or (allocate_call b slice).volumes unit (pos 0) *ℤ weighted_total (sums_of b) -ℤ get_or (numerators_of b.settings.take_wh (sums_of b)) unit (pos 0))
      < nat_abs (weighted_total (sums_of b))
  accepted-distance = settled-distance b.settings lacks (sums_of b) long pass slice written
