-- The source of a meter's energy by its status.
use Prim.Native.Nat.{ℕ}
use mathlib.Core.Path.{◌≡◌, refl}
use mathlib.Core.Bool.{Bool, true, false, ◌&&◌, cond}
use lib.Dec.{eqb}
use Rattle.words.specs.Registration.{status_of}
use Rattle.words.specs.Reading.{no_reading}
use Rattle.cells.specs.declared.Source.TheVariants.{Defaulted, Idle}
use Rattle.cells.specs.declared.Status.TheVariants.{Disconnected, DeEnergised, Energised}
use Rattle.cells.specs.Energy.{energised, de_energised, reading_source, used_de_energised, source_of}
use Rattle.cells.specs.Helpers.{status_in, source_for}

pub source-by-status : (registration reading : ℕ) → source_of registration reading ≡ source_for (status_in registration) reading
unfolding source_of status_in
source-by-status registration reading = by (eqb (status_of registration) energised) (eqb (status_of registration) de_energised)
  where
    by : (on off : Bool) → cond on (cond (eqb reading no_reading) Defaulted (reading_source reading)) (cond (off && used_de_energised reading) (reading_source reading) Idle)
        ≡ source_for (cond on Energised (cond off DeEnergised Disconnected)) reading
    by true off = refl
    by false true = refl
    by false false = refl

pub ruleset by_status = (source-by-status)
