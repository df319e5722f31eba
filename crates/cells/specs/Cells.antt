-- "From meters to cells".
use Rattle.std.specs.Prelude.{ℕ, zero, suc, ◌+◌, ◌*◌, ◌-◌, ◌%◌, Bool, ◌&&◌, cond, List, [], ◌∷◌, map, eqb, ℤ, pos, ◌-ℤ◌, ◌*ℤ◌}
use Rattle.integers.specs.Sum.{sum}
use Rattle.integers.specs.Rounding.{nearest_wh}
use Rattle.words.specs.Registration.{segment_of, direction_of, llf_of, unit_of}
use Rattle.book.specs.Limits.{classes}
use Rattle.book.specs.Rows.{Row}
use Rattle.cells.specs.declared.Source.{Source}
use Rattle.cells.specs.declared.Source.TheVariants.{Actual, Estimated, Defaulted, Idle}
use Rattle.cells.specs.Energy.{source_of, energy_wh}

-- "base unit in 5 [..] additional unit in 5": as many units as 5 bits tell apart
abbrev pub units : ℕ
units = 32

-- "e is 0" for an actual reading "and 1 for every other code and for a default"; an idle meter has no energy in any class
unfoldable pub estimate_bit : Source → ℕ
estimate_bit Actual = 0
estimate_bit Estimated = 1
estimate_bit Defaulted = 1
estimate_bit Idle = 1

-- "Class N = 8 × segment + 4 × direction + 2 × e + l", with l = 0, of a registration
abbrev pub class_of : ℕ → ℕ → ℕ
class_of e registration = 8 * segment_of registration + 4 * direction_of registration + 2 * e

-- the class of a meter's consumption: "Class N" with the e of where its energy comes from
unfoldable pub consumption_class : ℕ → ℕ → ℕ
consumption_class registration reading = class_of (estimate_bit (source_of registration reading)) registration

-- "l is 0 for consumption, 1 for losses"
abbrev pub is_loss_class : ℕ → Bool
is_loss_class class = eqb (class % 2) 1

-- what a meter has counts in "unit i and class N" if these are its own: the amount there, and 0 at any other
unfoldable pub in_cell : ℕ → ℕ → ℕ → ℕ → ℤ → ℤ
in_cell unit class registration reading amount =
    cond (eqb (unit_of registration) unit && eqb (consumption_class registration reading) class) amount (pos 0)

-- what a meter adds to "the sum of energies" of a unit and a class
abbrev pub energy_in : List ℕ → ℕ → ℕ → ℕ → ℕ → ℤ
energy_in shapes unit class registration reading = in_cell unit class registration reading (pos (energy_wh shapes registration reading))

-- "(LLF − 1,000) × energy in thousandths of a Wh", and what a meter adds to the loss cell of a unit and a class
abbrev pub loss_thousandths : List ℕ → ℕ → ℕ → ℤ
loss_thousandths shapes registration reading = (pos (llf_of registration) -ℤ pos 1000) *ℤ pos (energy_wh shapes registration reading)

abbrev pub loss_in : List ℕ → ℕ → ℕ → ℕ → ℕ → ℤ
loss_in shapes unit class registration reading = in_cell unit class registration reading (loss_thousandths shapes registration reading)

-- the sum over meters of what each gives by its registration and its reading
unfoldable pub sum_over : (ℕ → ℕ → ℤ) → List Row → ℤ
sum_over f meters = sum (map (λ r. f r.registration r.reading) meters)

-- "The consumption cell c of unit i and class N is the sum of energies"
unfoldable pub consumption_cell : List ℕ → List Row → ℕ → ℕ → ℤ
consumption_cell shapes meters unit class = sum_over (energy_in shapes unit class) meters

-- "The loss cell sums (LLF − 1,000) × energy in thousandths of a Wh"
unfoldable pub loss_cell : List ℕ → List Row → ℕ → ℕ → ℤ
loss_cell shapes meters unit class = sum_over (loss_in shapes unit class) meters

-- "and is rounded only then, to the nearest Wh, halves away from zero; the outcome is c of its class"
unfoldable pub cell : List ℕ → List Row → ℕ → ℕ → ℤ
cell shapes meters unit class =
    cond (is_loss_class class)
    (nearest_wh (loss_cell shapes meters unit (class - 1)))
    (consumption_cell shapes meters unit class)

-- the numbers 0, 1, .. below n, from k on
unfoldable pub count_from : ℕ → ℕ → List ℕ
count_from k zero = []
count_from k (suc n) = k ∷ count_from (suc k) n

-- the sum of f at each of the numbers 0, 1, .. below n
abbrev pub sum_below : ℕ → (ℕ → ℤ) → ℤ
sum_below n f = sum (map f (count_from 0 n))

-- the 24 cells of a unit, in class order
unfoldable pub cells_of : List ℕ → List Row → ℕ → List ℤ
cells_of shapes meters unit = map (cell shapes meters unit) (count_from 0 classes)
