-- Document 02, request 3: "Losses that were rounded off".
use Rattle.std.specs.Prelude.{ℕ, ◌-◌, ◌≤◌, ◌<◌, ◌≡◌, cond, List, map, eqb, ℤ, pos, neg_ℤ, nat_abs, ◌+ℤ◌, ◌*ℤ◌, length, get_or, replicate}
use Rattle.integers.specs.Rounding.{dropped_thousandths}
use Rattle.words.specs.Registration.{direction_of, unit_of}
use Rattle.book.specs.Rows.{Row}
use Rattle.cells.specs.Cells.{units, loss_thousandths, sum_over, loss_cell, cell, count_from}
use Rattle.correction.specs.Correction.{over_losses}

-- "Rounding a loss cell now also tells how many thousandths of a Wh it dropped": of the loss cell of a unit, at its loss class
abbrev pub cell_dropped : List ℕ → List Row → ℕ → ℕ → ℤ
cell_dropped shapes meters unit class = dropped_thousandths (loss_cell shapes meters unit (class - 1))

-- "per unit, import droppings minus export droppings", in thousandths of a Wh
unfoldable pub unit_droppings : List ℕ → List Row → ℕ → ℤ
unit_droppings shapes meters unit = over_losses (cell_dropped shapes meters unit)

-- those of the 32 units, in unit order
unfoldable pub all_droppings : List ℕ → List Row → List ℤ
all_droppings shapes meters = map (unit_droppings shapes meters) (count_from 0 units)

-- "0 on a refusal"
abbrev pub no_droppings : List ℤ
no_droppings = replicate units (pos 0)

-- "rounded losses" of a unit, "import minus export": the loss cells that n and a are worked from, in Wh
unfoldable pub rounded_losses : List ℕ → List Row → ℕ → ℤ
rounded_losses shapes meters unit = over_losses (cell shapes meters unit)

-- what a meter adds to the "exact losses" of a unit, "import minus export and in thousandths": (LLF − 1,000) × energy, negated for export, if the unit is its own
abbrev pub exact_loss : List ℕ → ℕ → ℕ → ℕ → ℤ
exact_loss shapes unit registration reading =
    cond (eqb (unit_of registration) unit)
    (cond (eqb (direction_of registration) 0) (loss_thousandths shapes registration reading) (neg_ℤ (loss_thousandths shapes registration reading)))
    (pos 0)

-- "its meters' exact losses"
unfoldable pub exact_losses : List ℕ → List Row → ℕ → ℤ
exact_losses shapes meters unit = sum_over (exact_loss shapes unit) meters

-- what these droppings are promised to be, of the meters that were allocated, under these shapes
pub record LossesReconciled (shapes : List ℕ) (meters : List Row) (droppings : List ℤ) : Type 0 where
  -- one number for each unit
  pub long : length droppings ≡ units
  -- "For each unit, import minus export and in thousandths, rounded losses plus droppings equal its meters' exact losses"
  pub reconciled : (unit : ℕ) → unit < units
      → pos 1000 *ℤ rounded_losses shapes meters unit +ℤ get_or droppings unit (pos 0) ≡ exact_losses shapes meters unit
  -- "between −500 and 500" for each loss cell, of which a unit has 12
  pub bounded : (unit : ℕ) → unit < units → nat_abs (get_or droppings unit (pos 0)) ≤ 6000
