-- The ways of an allocation of settings and a slice that were tested: one for each cause from 7 to 9, and one for a correction that is refused or accepted.
use Prim.Native.Nat.{ℕ, zero, suc, ◌≤◌, ◌<◌}
use mathlib.Core.Path.{◌≡◌, refl, sym, ap, ◌∙◌}
use mathlib.Core.Bool.{true, false}
use mathlib.Core.List.{List}
use borrow.Author.Tests.{lt-ltb, le-ltb}
use lib.IntN.{ℤ}
use lib.ListN.{length}
use Rattle.std.proofs.Common.{Result, Ok, Err}
use Rattle.refusals.specs.Causes.{accepted}
use Rattle.refusals.specs.declared.Refusal.{Refusal}
use Rattle.refusals.specs.declared.Refusal.TheVariants.{VolumesShort, TakeUnset, ShapeOfDefaultMissing}
use Rattle.refusals.specs.Refusal.{number_of}
use Rattle.refusals.proofs.Numbers.{not-accepted}
use Rattle.book.specs.declared.Settings.{Settings}
use Rattle.book.specs.Settings.{take_is_set}
use Rattle.cells.specs.Cells.{units}
use Rattle.correction.specs.declared.Corrected.{Corrected}
use Rattle.correction.specs.Correction.{sums_cause}
use Rattle.correction.specs.Outcome.{CorrectionGives, written_by, volumes_written}
use Rattle.allocation.specs.declared.Figures.{Figures}
use Rattle.allocation.specs.Allocate.{refused_with}
use Rattle.allocation.specs.Running.{slice_lacks, slice_sums, slice_counts, slice_droppings, slice_cause, slice_answer, slice_volumes}
use Rattle.allocation.specs.Helpers.{allocated_of, AllocatedBy}

module _ (s : Settings) (cells slice : List ℤ) where
  -- a refusal gives its number and writes nothing
  pub refused-by : (r : Refusal) {cause : ℕ} → cause ≡ number_of r → AllocatedBy cause s cells slice (allocated_of (Err r)) slice
  unfolding slice_answer slice_volumes
  refused-by r {cause} e = by cause e
    where
      by : (n : ℕ) → n ≡ number_of r → AllocatedBy n s cells slice (allocated_of (Err r)) slice
      by zero h = absurd (not-accepted r (sym h))
      by (suc k) h = record { answer-is = ap refused_with (sym h); volumes-are = refl }

  pub slice-short : length slice < units → AllocatedBy (slice_cause s cells slice) s cells slice (allocated_of (Err VolumesShort)) slice
  unfolding slice_cause
  slice-short h = refused-by VolumesShort (rw (lt-ltb (length slice) units h))

  module _ (long : units ≤ length slice) where
    pub slice-unset : take_is_set s ≡ false → AllocatedBy (slice_cause s cells slice) s cells slice (allocated_of (Err TakeUnset)) slice
    unfolding slice_cause
    slice-unset h = refused-by TakeUnset (rw (le-ltb (length slice) units long, h))

    module _ (set : take_is_set s ≡ true) where
      pub slice-waits : slice_lacks s.shapes cells ≡ true → AllocatedBy (slice_cause s cells slice) s cells slice (allocated_of (Err ShapeOfDefaultMissing)) slice
      unfolding slice_cause
      slice-waits h = refused-by ShapeOfDefaultMissing (rw (le-ltb (length slice) units long, set, h))

      module _ (shaped : slice_lacks s.shapes cells ≡ false) where
        from-sums : slice_cause s cells slice ≡ sums_cause s.take_wh s.tolerance (slice_sums s cells)
        unfolding slice_cause
        from-sums = rw (le-ltb (length slice) units long, set, shaped)

        volumes-by : (cause : ℕ) → written_by cause s.take_wh (slice_sums s cells) slice ≡ slice_volumes cause s cells slice
        unfolding written_by slice_volumes
        volumes-by zero = refl
        volumes-by (suc k) = refl

        written : {r : Result Corrected Refusal} {after : List ℤ} → CorrectionGives s.take_wh s.tolerance (slice_sums s cells) slice r after → after ≡ slice_volumes (slice_cause s cells slice) s cells slice
        unfolding volumes_written
        written given = given.volumes ∙ volumes-by _ ∙ ap (λ (cause : ℕ). slice_volumes cause s cells slice) (sym from-sums)

        pub slice-refused : (r : Refusal) {after : List ℤ} → CorrectionGives s.take_wh s.tolerance (slice_sums s cells) slice (Err r) after
            → AllocatedBy (slice_cause s cells slice) s cells slice (allocated_of (Err r)) after
        slice-refused r given =
            let by = refused-by r (from-sums ∙ sym given.number) in
            record { answer-is = by.answer-is; volumes-are = written given }

        pub slice-accepted : (x : Figures) {after : List ℤ} → CorrectionGives s.take_wh s.tolerance (slice_sums s cells) slice (Ok x.corrected) after
            → x.counts ≡ slice_counts cells → x.droppings ≡ slice_droppings cells
            → AllocatedBy (slice_cause s cells slice) s cells slice (allocated_of (Ok x)) after
        unfolding slice_answer
        slice-accepted x given counts droppings =
            let none : slice_cause s cells slice ≡ accepted = from-sums ∙ sym given.number in
            record { answer-is = rw (none, given.figures, counts, droppings) refl; volumes-are = written given }
