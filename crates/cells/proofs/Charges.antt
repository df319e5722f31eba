-- Energies, cells, counts and missing shapes are the same without the networks and the tariffs.
use Prim.Native.Nat.{ℕ, ◌-◌}
use mathlib.Core.Path.{◌≡◌, refl, ap, ap₂, fun_ext}
use mathlib.Core.Bool.{cond, ◌||◌}
use mathlib.Core.List.{List, [], ◌∷◌, map}
use lib.IntN.{ℤ, ◌+ℤ◌}
use Rattle.integers.specs.Sum.{sum}
use Rattle.integers.specs.Rounding.{nearest_wh}
use Rattle.words.specs.Registration.{without_charges}
use Rattle.words.proofs.Charges.{segment-kept, direction-kept, status-kept, category-kept, llf-kept, unit_kept}
use Rattle.book.specs.Limits.{classes}
use Rattle.book.specs.Rows.{Row, row_without_charges}
use Rattle.cells.specs.declared.Source.{Source}
use Rattle.cells.specs.declared.Source.TheVariants.{Actual, Estimated, Defaulted, Idle}
use Rattle.cells.specs.declared.Counts.{Counts}
use Rattle.cells.specs.Energy.{source_of, energy_from, energy_wh, lacks_shape_from, lacks_shape, any_lacks_shape, count_for, add_counts, counts_of}
use Rattle.cells.specs.Cells.{consumption_class, in_cell, energy_in, loss_thousandths, loss_in, sum_over, is_loss_class, consumption_cell, loss_cell, cell, count_from, cells_of}

-- what one meter gives, of its two words
module _ (w reading : ℕ) where
  pub source-kept : source_of (without_charges w) reading ≡ source_of w reading
  unfolding source_of
  source-kept = rw (status-kept w)

  class-kept : consumption_class (without_charges w) reading ≡ consumption_class w reading
  unfolding consumption_class
  class-kept = rw (source-kept, segment-kept w, direction-kept w)

  in-cell-kept : (unit class : ℕ) (amount : ℤ) → in_cell unit class (without_charges w) reading amount ≡ in_cell unit class w reading amount
  unfolding in_cell
  in-cell-kept unit class amount = rw (unit_kept w, class-kept)

  module _ (shapes : List ℕ) where
    energy-from-kept : (x : Source) → energy_from shapes (without_charges w) reading x ≡ energy_from shapes w reading x
    unfolding energy_from
    energy-from-kept Actual = refl
    energy-from-kept Estimated = refl
    energy-from-kept Defaulted = rw (category-kept w)
    energy-from-kept Idle = refl

    energy-kept : energy_wh shapes (without_charges w) reading ≡ energy_wh shapes w reading
    unfolding energy_wh
    energy-kept = rw (source-kept, energy-from-kept (source_of w reading))

    lacks-from-kept : (x : Source) → lacks_shape_from shapes (without_charges w) x ≡ lacks_shape_from shapes w x
    unfolding lacks_shape_from
    lacks-from-kept Actual = refl
    lacks-from-kept Estimated = refl
    lacks-from-kept Defaulted = rw (category-kept w)
    lacks-from-kept Idle = refl

    lacks-kept : lacks_shape shapes (without_charges w) reading ≡ lacks_shape shapes w reading
    lacks-kept = rw (source-kept, lacks-from-kept (source_of w reading))

    pub energy-in-kept : (unit class : ℕ) → energy_in shapes unit class (without_charges w) reading ≡ energy_in shapes unit class w reading
    energy-in-kept unit class = rw energy-kept (in-cell-kept unit class _)

    pub loss-in-kept : (unit class : ℕ) → loss_in shapes unit class (without_charges w) reading ≡ loss_in shapes unit class w reading
    loss-in-kept unit class = rw (llf-kept w, energy-kept) (in-cell-kept unit class (loss_thousandths shapes w reading))

-- what the meters give together
pub sum-without-charges : (f : ℕ → ℕ → ℤ) → ((w reading : ℕ) → f (without_charges w) reading ≡ f w reading)
    → (meters : List Row) → sum_over f (map row_without_charges meters) ≡ sum_over f meters
unfolding sum_over sum
sum-without-charges f kept [] = refl
sum-without-charges f kept (r ∷ meters) = ap₂ ◌+ℤ◌ (kept r.registration r.reading) (sum-without-charges f kept meters)

pub lacks-without-charges : (shapes : List ℕ) (meters : List Row) → any_lacks_shape shapes (map row_without_charges meters) ≡ any_lacks_shape shapes meters
unfolding any_lacks_shape
lacks-without-charges shapes [] = refl
lacks-without-charges shapes (r ∷ meters) = ap₂ ◌||◌ (lacks-kept r.registration r.reading shapes) (lacks-without-charges shapes meters)

pub counts-without-charges : (meters : List Row) → counts_of (map row_without_charges meters) ≡ counts_of meters
unfolding counts_of
counts-without-charges [] = refl
counts-without-charges (r ∷ meters) =
    ap₂ (λ (x : Source) (rest : Counts). add_counts (count_for x) rest) (source-kept r.registration r.reading) (counts-without-charges meters)

module _ (shapes : List ℕ) (meters : List Row) (unit : ℕ) where
  pub loss-without-charges : (class : ℕ) → loss_cell shapes (map row_without_charges meters) unit class ≡ loss_cell shapes meters unit class
  unfolding loss_cell
  loss-without-charges class = sum-without-charges (loss_in shapes unit class) (λ w reading. loss-in-kept w reading shapes unit class) meters

  cell-without-charges : (class : ℕ) → cell shapes (map row_without_charges meters) unit class ≡ cell shapes meters unit class
  unfolding cell consumption_cell
  cell-without-charges class =
      ap₂ (λ (loss consumption : ℤ). cond (is_loss_class class) (nearest_wh loss) consumption)
      (loss-without-charges (class - 1))
      (sum-without-charges (energy_in shapes unit class) (λ w reading. energy-in-kept w reading shapes unit class) meters)

  pub cells-without-charges : cells_of shapes (map row_without_charges meters) unit ≡ cells_of shapes meters unit
  unfolding cells_of
  cells-without-charges = ap (λ (c : ℕ → ℤ). map c (count_from 0 classes)) (fun_ext cell-without-charges)
