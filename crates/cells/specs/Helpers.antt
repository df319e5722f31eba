-- What the functions of this crate are held to: what a meter comes to, and what it gives to a sum over the rows.
use Rattle.std.specs.Prelude.{ℕ, cond, List, ℤ, pos, eqb, Option, None, Some, unwrap_or}
use Rattle.words.specs.Registration.{status_of}
use Rattle.words.specs.Reading.{no_reading}
use Rattle.book.specs.declared.Held.{Held}
use Rattle.book.specs.Limits.{shape_missing}
use Rattle.cells.specs.declared.Use.{Use}
use Rattle.cells.specs.declared.Status.{Status}
use Rattle.cells.specs.declared.Status.TheVariants.{Disconnected, DeEnergised, Energised}
use Rattle.cells.specs.declared.Source.{Source}
use Rattle.cells.specs.declared.Source.TheVariants.{Defaulted, Idle}
use Rattle.cells.specs.Energy.{energised, de_energised, reading_source, used_de_energised, source_of, energy_wh, lacks_shape}

-- the status of a registration: a number that is none of the three, which no registration in range has, is taken as disconnected
unfoldable pub status_in : ℕ → Status
status_in registration = cond (eqb (status_of registration) energised) Energised (cond (eqb (status_of registration) de_energised) DeEnergised Disconnected)

-- the source of a meter of this status
abbrev pub source_for : Status → ℕ → Source
source_for Disconnected reading = Idle
source_for DeEnergised reading = cond (used_de_energised reading) (reading_source reading) Idle
source_for Energised reading = cond (eqb reading no_reading) Defaulted (reading_source reading)

-- a shape in Wh, if it is set
abbrev pub shape_if_set : ℕ → Option ℕ
shape_if_set shape = cond (eqb shape shape_missing) None (Some shape)

-- what a meter comes to under these shapes: no energy where it lacks its shape
abbrev pub use_of : List ℕ → ℕ → ℕ → Use
use_of shapes registration reading =
    record {
      source = source_of registration reading;
      wh = cond (lacks_shape shapes registration reading) None (Some (energy_wh shapes registration reading));
    }

-- the energy of such a use in Wh
abbrev pub wh_of : Use → ℕ
wh_of used = unwrap_or used.wh 0

-- what a meter that holds these words gives to a sum over the rows, and 0 for a meter that has no row
unfoldable pub held_gives : (ℕ → ℕ → ℤ) → Option Held → ℤ
held_gives f None = pos 0
held_gives f (Some held) = f held.registration held.reading
