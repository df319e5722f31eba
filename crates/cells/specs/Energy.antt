-- "The energy of a meter".
use Rattle.std.specs.Prelude.{ℕ, ◌+◌, Bool, false, not, ◌&&◌, cond, List, [], ◌∷◌, eqb, get_or}
use Rattle.std.specs.List.{list_any}
use Rattle.words.specs.Registration.{status_of, category_of}
use Rattle.words.specs.Reading.{no_reading, consumption_of, quality_of, is_actual}
use Rattle.book.specs.Limits.{shape_missing}
use Rattle.book.specs.Rows.{Row}
use Rattle.cells.specs.declared.Counts.{Counts}
use Rattle.cells.specs.declared.Source.{Source}
use Rattle.cells.specs.declared.Source.TheVariants.{Actual, Estimated, Defaulted, Idle}

-- "status [..] (0 disconnected, 1 de-energised, 2 energised)"
abbrev pub de_energised : ℕ
de_energised = 1

abbrev pub energised : ℕ
energised = 2

-- `Source` is where the energy of a meter comes from, as the four counts have it: "actual [..], estimated [..], defaulted, idle"

-- a reading in use, by its code: "e is 0 for codes 0–6 and 1 for every other code"; of E2 and E6 (document 02, request 2) "e becomes 0 for them, they count as actual"
unfoldable pub reading_source : ℕ → Source
reading_source word = cond (is_actual (quality_of word)) Actual Estimated

-- "de-energised, its reading if the code is 0–6, E2 or E6, else none": if it is actual
unfoldable pub used_de_energised : ℕ → Bool
used_de_energised word = not (eqb word no_reading) && is_actual (quality_of word)

-- "energised with a reading, that reading; energised without, the shape of its category (defaulted); de-energised, its reading if [..]; disconnected, none. "None" is idle": of a meter's registration and reading words
unfoldable pub source_of : ℕ → ℕ → Source
source_of registration reading =
    cond (eqb (status_of registration) energised)
    (cond (eqb reading no_reading) Defaulted (reading_source reading))
    (cond (eqb (status_of registration) de_energised && used_de_energised reading) (reading_source reading) Idle)

-- "the shape of its category"
abbrev pub shape_of : List ℕ → ℕ → ℕ
shape_of shapes registration = get_or shapes (category_of registration) shape_missing

-- the energy of a shape in Wh; a missing shape gives none (cause 9 refuses an allocation or a totals call that would use one)
unfoldable pub shape_wh : ℕ → ℕ
shape_wh shape = cond (eqb shape shape_missing) 0 shape

-- "The energy of a meter", in Wh, under these shapes, by where it comes from
unfoldable pub energy_from : List ℕ → ℕ → ℕ → Source → ℕ
energy_from shapes registration reading Actual = consumption_of reading
energy_from shapes registration reading Estimated = consumption_of reading
energy_from shapes registration reading Defaulted = shape_wh (shape_of shapes registration)
energy_from shapes registration reading Idle = 0

unfoldable pub energy_wh : List ℕ → ℕ → ℕ → ℕ
energy_wh shapes registration reading = energy_from shapes registration reading (source_of registration reading)

-- "a defaulted meter's shape is missing"
unfoldable pub lacks_shape_from : List ℕ → ℕ → Source → Bool
lacks_shape_from shapes registration Actual = false
lacks_shape_from shapes registration Estimated = false
lacks_shape_from shapes registration Defaulted = eqb (shape_of shapes registration) shape_missing
lacks_shape_from shapes registration Idle = false

abbrev pub lacks_shape : List ℕ → ℕ → ℕ → Bool
lacks_shape shapes registration reading = lacks_shape_from shapes registration (source_of registration reading)

-- cause 9: the same of any meter
unfoldable pub any_lacks_shape : List ℕ → List Row → Bool
any_lacks_shape shapes meters = list_any (λ r. lacks_shape shapes r.registration r.reading) meters

-- `Counts` is the "four counts: actual [..], estimated [..], defaulted, idle"

-- the number of a source, in that order
abbrev pub source_number : Source → ℕ
source_number Actual = 0
source_number Estimated = 1
source_number Defaulted = 2
source_number Idle = 3

-- what one meter counts
unfoldable pub count_for : Source → Counts
count_for Actual = record { actual = 1; estimated = 0; defaulted = 0; idle = 0 }
count_for Estimated = record { actual = 0; estimated = 1; defaulted = 0; idle = 0 }
count_for Defaulted = record { actual = 0; estimated = 0; defaulted = 1; idle = 0 }
count_for Idle = record { actual = 0; estimated = 0; defaulted = 0; idle = 1 }

abbrev pub add_counts : Counts → Counts → Counts
add_counts x y =
    record {
      actual = x.actual + y.actual;
      estimated = x.estimated + y.estimated;
      defaulted = x.defaulted + y.defaulted;
      idle = x.idle + y.idle;
    }

abbrev pub no_counts : Counts
no_counts = record { actual = 0; estimated = 0; defaulted = 0; idle = 0 }

-- the four counts of a list of meters
unfoldable pub counts_of : List Row → Counts
counts_of [] = no_counts
counts_of (r ∷ meters) = add_counts (count_for (source_of r.registration r.reading)) (counts_of meters)
