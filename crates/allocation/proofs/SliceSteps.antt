-- The sums and the correction of a slice of running cells that was tested: what the correction needs, and that it is the correction of the sums of the slice.
use Prim.Native.Nat.{◌≤◌}
use mathlib.Core.Path.{◌≡◌}
use mathlib.Core.Bool.{true}
use mathlib.Core.List.{List, map, map-map}
use borrow.Author.Tests.{leb-true}
use lib.IntN.{ℤ}
use lib.ListN.{length}
use mir.Syntax.{w64}
use mir.Val.{to_z, of_z}
use mir.ValLaws.{to_z-of_z}
use Rattle.std.proofs.Common.{Result}
use Rattle.refusals.specs.declared.Refusal.{Refusal}
use Rattle.book.specs.declared.Settings.{Settings}
use Rattle.book.specs.Settings.{settings_formed}
use Rattle.book.proofs.WellFormed.{formed-settings}
use Rattle.cells.specs.Cells.{units, count_from}
use Rattle.cells.proofs.Counting.{counted-length}
use Rattle.running.specs.Running.{within_limits}
use Rattle.running.proofs.WithinLimits.{within-each}
use Rattle.correction.specs.declared.UnitSums.{UnitSums}
use Rattle.correction.specs.declared.Corrected.{Corrected}
use Rattle.correction.specs.Correction.{sums_of}
use Rattle.correction.specs.Slice.{rounded_cells}
use Rattle.correction.specs.Outcome.{CorrectionGives}
use Rattle.correction.specs.Helpers.{CorrectArguments}
use Rattle.correction.proofs.SliceBounds.{sums-arguments}
use Rattle.allocation.specs.Running.{slice_sums}
use Rattle.allocation.proofs.Bounds.{take-limited, take-fits}

pub slice-sums-length : (s : Settings) (cells : List ℤ) → length (slice_sums s cells) ≡ units
unfolding slice_sums
slice-sums-length s cells = counted-length (λ unit. sums_of (rounded_cells cells unit) s.weights) units

-- the table of rounded cells and the sums, as the code has them
module _ (s : Settings) (cells : List ℤ) (formed : settings_formed s ≡ true) {table : List (List ℤ)} (rounded : table ≡ map (rounded_cells cells) (count_from 0 units))
    {sums : List UnitSums} (e : sums ≡ map (λ row. sums_of row s.weights) table) where
  sums-are : sums ≡ slice_sums s cells
  unfolding slice_sums
  sums-are = rw (e, rounded) (map-map _ _ (count_from 0 units))

  take-read : to_z w64 (of_z w64 s.take_wh) ≡ s.take_wh
  take-read = to_z-of_z w64 s.take_wh (take-fits s formed)

  pub correct-arguments : within_limits cells ≡ true → {volumes : List ℤ} → units ≤ length volumes → CorrectArguments (to_z w64 (of_z w64 s.take_wh)) s.tolerance sums volumes
  unfolding slice_sums
  correct-arguments within long =
      let settings = formed-settings s formed in
      rw (take-read, sums-are)
      (record {
        sums-within = sums-arguments cells (within-each cells within).sizes-most s.weights settings.weights-formed s.take_wh (take-limited s formed);
        tolerance-bound = leb-true s.tolerance 1000 settings.tolerance-formed;
        volumes-long = long;
      })

  pub corrected_as : {volumes after : List ℤ} {r : Result Corrected Refusal} → CorrectionGives (to_z w64 (of_z w64 s.take_wh)) s.tolerance sums volumes r after
      → CorrectionGives s.take_wh s.tolerance (slice_sums s cells) volumes r after
  corrected_as given = rw (take-read, sums-are) at given
