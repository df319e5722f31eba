-- What a correction gives: its ways, one for any refusal, one for each cause and one for acceptance, and that the volumes of an accepted one add up to the Take and are less than 1 Wh from the exact shares.
use Prim.Native.Nat.{ℕ, zero, suc, ◌<◌}
use mathlib.Core.Path.{◌≡◌, refl, sym, ap, ◌∙◌}
use mathlib.Core.Bool.{true, false}
use mathlib.Core.List.{List}
use native.Mathlib.Omega.{arith}
use lib.IntN.{ℤ, pos, nat_abs, ◌-ℤ◌, ◌*ℤ◌}
use lib.ListN.{length, get_or, take, drop, get_or-append}
use lib.Seq.{take_at}
use lib.Signed.{◌<ℤ◌, lt_z}
use Rattle.std.proofs.Common.{Ok, Err}
use Rattle.refusals.specs.Causes.{accepted}
use Rattle.refusals.specs.declared.Refusal.{Refusal}
use Rattle.refusals.specs.declared.Refusal.TheVariants.{WeightedBelowOne, ToleranceExceeded}
use Rattle.refusals.specs.Refusal.{number_of}
use Rattle.refusals.proofs.Passed.{passed}
use Rattle.refusals.proofs.Numbers.{not-accepted}
use Rattle.integers.specs.Sum.{sum}
use Rattle.integers.proofs.Linear.{linear}
use Rattle.integers.proofs.Order.{lt-false}
use Rattle.cells.specs.Cells.{units}
use Rattle.correction.specs.declared.UnitSums.{UnitSums}
use Rattle.correction.specs.declared.Corrected.{Corrected}
use Rattle.correction.specs.Correction.{unallocated_of, weighted_total, exceeds_tolerance, sums_cause}
use Rattle.correction.specs.Volumes.{volumes_of, with_volumes}
use Rattle.correction.specs.Outcome.{corrected_of, written_by, volumes_written, CorrectionGives}
use Rattle.correction.proofs.Apportioned.{numerators_of}
use Rattle.correction.proofs.VolumesOf.{volumes-length, volumes-total, volumes-distance}

module _ (take_wh : ℤ) (tolerance : ℕ) (sums : List UnitSums) where
  -- where cause 10 does not apply
  above_zero : sums_cause take_wh tolerance sums ≡ accepted → pos 0 <ℤ weighted_total sums
  unfolding sums_cause
  above_zero h = omega (linear, lt-false (weighted_total sums) (pos 1) (passed _ _ _ h).0)

  -- the ways
  module _ (slice : List ℤ) where
    written-refused : (k : ℕ) → (k ≡ accepted → ⊥) → slice ≡ written_by k take_wh sums slice
    unfolding written_by
    written-refused zero h = absurd (h refl)
    written-refused (suc k) h = refl

    pub way-refused : (r : Refusal) → number_of r ≡ sums_cause take_wh tolerance sums → CorrectionGives take_wh tolerance sums slice (Err r) slice
    unfolding volumes_written
    way-refused r e = record { number = e; figures = tt; volumes = written-refused _ (λ z. not-accepted r (e ∙ z)) }

    pub way-below : lt_z (weighted_total sums) (pos 1) ≡ true → CorrectionGives take_wh tolerance sums slice (Err WeightedBelowOne) slice
    unfolding sums_cause
    way-below h = way-refused WeightedBelowOne (rw h)

    pub way-exceeds : lt_z (weighted_total sums) (pos 1) ≡ false → exceeds_tolerance tolerance (unallocated_of take_wh sums) (weighted_total sums) ≡ true
        → CorrectionGives take_wh tolerance sums slice (Err ToleranceExceeded) slice
    unfolding sums_cause
    way-exceeds above h = way-refused ToleranceExceeded (rw (above, h))

    pub way-accepted : {x : Corrected} {after : List ℤ} → sums_cause take_wh tolerance sums ≡ accepted
        → x ≡ corrected_of take_wh sums → after ≡ with_volumes (volumes_of take_wh sums) slice → CorrectionGives take_wh tolerance sums slice (Ok x) after
    unfolding volumes_written written_by
    way-accepted h e v = record { number = sym h; figures = e; volumes = rw h v }

  -- an accepted correction
  module _ (no-cause : sums_cause take_wh tolerance sums ≡ accepted) (slice : List ℤ) where
    pub corrected-slice : volumes_written take_wh tolerance sums slice ≡ with_volumes (volumes_of take_wh sums) slice
    unfolding volumes_written written_by
    corrected-slice = rw no-cause

    module _ (long : length sums ≡ units) where
      volumes-long : length (volumes_of take_wh sums) ≡ units
      volumes-long = volumes-length take_wh sums ∙ long

      pub corrected-volumes : take units (volumes_written take_wh tolerance sums slice) ≡ volumes_of take_wh sums
      unfolding with_volumes
      corrected-volumes = ap (take units) corrected-slice ∙ take_at (volumes_of take_wh sums) (drop units slice) units volumes-long

      pub corrected-total : sum (take units (volumes_written take_wh tolerance sums slice)) ≡ take_wh
      corrected-total = ap sum corrected-volumes ∙ volumes-total take_wh sums (above_zero no-cause)

      pub corrected-distance : (unit : ℕ) → unit < units
          → nat_abs (get_or (volumes_written take_wh tolerance sums slice) unit (pos 0) *ℤ weighted_total sums -ℤ get_or (numerators_of take_wh sums) unit (pos 0)) < nat_abs (weighted_total sums)
      unfolding with_volumes
      corrected-distance unit p =
          rw (corrected-slice, get_or-append (volumes_of take_wh sums) (drop units slice) (pos 0) unit (omega (arith, volumes-long)))
          (volumes-distance take_wh sums (above_zero no-cause) unit (omega arith))
