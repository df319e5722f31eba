-- What a correction gives, from a Take, a tolerance and the sums of the 32 units, whatever they were worked from.
use Rattle.std.specs.Prelude.{ℕ, zero, suc, ◌≡◌, List, ℤ, Result, IfOk}
use Rattle.refusals.specs.declared.Refusal.{Refusal}
use Rattle.refusals.specs.Refusal.{number_given}
use Rattle.correction.specs.declared.UnitSums.{UnitSums}
use Rattle.correction.specs.declared.Corrected.{Corrected}
use Rattle.correction.specs.Correction.{unallocated_of, weighted_total, sums_cause}
use Rattle.correction.specs.Volumes.{volumes_of, with_volumes}

-- U and W
abbrev pub corrected_of : ℤ → List UnitSums → Corrected
corrected_of take_wh sums = record { unallocated = unallocated_of take_wh sums; weighted = weighted_total sums }

-- the volume slice afterwards, by the cause: as it was on a refusal
unfoldable pub written_by : ℕ → ℤ → List UnitSums → List ℤ → List ℤ
written_by zero take_wh sums slice = with_volumes (volumes_of take_wh sums) slice
written_by (suc k) take_wh sums slice = slice

unfoldable pub volumes_written : ℤ → ℕ → List UnitSums → List ℤ → List ℤ
volumes_written take_wh tolerance sums slice = written_by (sums_cause take_wh tolerance sums) take_wh sums slice

-- the promise of a correction: the number of its cause, U and W of an accepted one, and the volume slice afterwards
pub record CorrectionGives (take_wh : ℤ) (tolerance : ℕ) (sums : List UnitSums) (before : List ℤ) (r : Result Corrected Refusal) (after : List ℤ) : Type 0 where
  pub number : number_given r ≡ sums_cause take_wh tolerance sums
  pub figures : IfOk r (λ x. x ≡ corrected_of take_wh sums)
  pub volumes : after ≡ volumes_written take_wh tolerance sums before
