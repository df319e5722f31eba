-- What is left where no cause after 9 applies to the sums of the units: volumes that add up to the Take and are less than 1 Wh from the exact shares.
use Prim.Native.Nat.{ℕ, ◌<◌}
use mathlib.Core.Path.{◌≡◌, sym, ap, ◌∙◌}
use mathlib.Core.Bool.{Bool, not}
use mathlib.Core.List.{List}
use lib.IntN.{ℤ, pos, nat_abs, ◌-ℤ◌, ◌*ℤ◌}
use lib.ListN.{length, get_or, take}
use Rattle.refusals.specs.Causes.{accepted}
use Rattle.refusals.proofs.Passed.{passed}
use Rattle.integers.specs.Sum.{sum}
use Rattle.book.specs.declared.Settings.{Settings}
use Rattle.book.specs.Settings.{take_is_set}
use Rattle.cells.specs.Cells.{units}
use Rattle.correction.specs.declared.UnitSums.{UnitSums}
use Rattle.correction.specs.Correction.{weighted_total, sums_cause}
use Rattle.correction.specs.Volumes.{volumes_of, with_volumes}
use Rattle.correction.specs.Outcome.{volumes_written}
use Rattle.correction.proofs.Apportioned.{numerators_of}
use Rattle.correction.proofs.Outcome.{corrected-distance, corrected-slice, corrected-total, corrected-volumes}
use Rattle.allocation.specs.Allocate.{cause_from}

-- of causes 8 to 11, what comes after 8 and 9
sums-pass : (s : Settings) (lacks : Bool) (sums : List UnitSums) → cause_from s lacks sums ≡ accepted → sums_cause s.take_wh s.tolerance sums ≡ accepted
sums-pass s lacks sums h =
    let set = passed (not (take_is_set s)) _ _ h in
    (passed lacks _ _ set.1).1

module _ (s : Settings) (lacks : Bool) (sums : List UnitSums) (long : length sums ≡ units) (h : cause_from s lacks sums ≡ accepted) (slice : List ℤ) {after : List ℤ}
    (written : after ≡ with_volumes (volumes_of s.take_wh sums) slice) where
  -- the sums are corrected
  corrected : sums_cause s.take_wh s.tolerance sums ≡ accepted
  corrected = sums-pass s lacks sums h

  slice_is : after ≡ volumes_written s.take_wh s.tolerance sums slice
  slice_is = written ∙ sym (corrected-slice s.take_wh s.tolerance sums corrected slice)

  pub settled-volumes : take units after ≡ volumes_of s.take_wh sums
  settled-volumes = ap (take units) slice_is ∙ corrected-volumes s.take_wh s.tolerance sums corrected slice long

  pub settled-total : sum (take units after) ≡ s.take_wh
  settled-total = ap (λ (v : List ℤ). sum (take units v)) slice_is ∙ corrected-total s.take_wh s.tolerance sums corrected slice long

  pub settled-distance : (unit : ℕ) → unit < units
      → nat_abs (get_or after unit (pos 0) *ℤ weighted_total sums -ℤ get_or (numerators_of s.take_wh sums) unit (pos 0)) < nat_abs (weighted_total sums)
  settled-distance unit p = rw slice_is (corrected-distance s.take_wh s.tolerance sums corrected slice long unit p)
