-- What an allocation works out depends on the meters only by their cells, their loss cells before rounding, their counts, and whether one of them lacks its shape.
use Prim.Native.Nat.{ℕ, ◌-◌}
use mathlib.Core.Path.{◌≡◌, ap, ◌∙◌, fun_ext}
use mathlib.Core.List.{List, map}
use lib.IntN.{ℤ}
use Rattle.integers.specs.Rounding.{dropped_thousandths}
use Rattle.book.specs.declared.Settings.{Settings}
use Rattle.book.specs.Rows.{Row}
use Rattle.cells.specs.Cells.{count_from, units, loss_cell, cells_of}
use Rattle.cells.specs.Energy.{counts_of, any_lacks_shape}
use Rattle.correction.specs.Correction.{over_losses, sums_of}
use Rattle.allocation.specs.Losses.{unit_droppings, all_droppings}
use Rattle.allocation.specs.Allocate.{unit_sums, all_unit_sums, meters_cause, figures_of}

-- meters that are the same to it under these shapes
pub record MetersAlike (shapes : List ℕ) (meters others : List Row) : Type 0 where
  pub same-cells : (unit : ℕ) → cells_of shapes meters unit ≡ cells_of shapes others unit
  pub same-counts : counts_of meters ≡ counts_of others
  pub same-lacks : any_lacks_shape shapes meters ≡ any_lacks_shape shapes others
  pub same-losses : (unit class : ℕ) → loss_cell shapes meters unit class ≡ loss_cell shapes others unit class

module _ {s t : Settings} {meters others : List Row} (settings : s ≡ t) (alike : MetersAlike s.shapes meters others) where
  same-sums : all_unit_sums s meters ≡ all_unit_sums s others
  unfolding all_unit_sums unit_sums
  same-sums =
      ap (λ (cells : ℕ → List ℤ). map (λ unit. sums_of (cells unit) s.weights) (count_from 0 units)) (fun_ext alike.same-cells)

  same-droppings : all_droppings s.shapes meters ≡ all_droppings s.shapes others
  unfolding all_droppings unit_droppings
  same-droppings =
      ap (λ (loss : ℕ → ℕ → ℤ). map (λ unit. over_losses (λ class. dropped_thousandths (loss unit (class - 1)))) (count_from 0 units))
      (fun_ext (λ unit. fun_ext (alike.same-losses unit)))

  pub sums-alike : all_unit_sums s meters ≡ all_unit_sums t others
  sums-alike = same-sums ∙ ap (λ (u : Settings). all_unit_sums u others) settings

  pub cause-alike : meters_cause s meters ≡ meters_cause t others
  unfolding meters_cause
  cause-alike = rw (alike.same-lacks, same-sums) (ap (λ (u : Settings). meters_cause u others) settings)

  pub figures-alike : figures_of s meters ≡ figures_of t others
  unfolding figures_of
  figures-alike = rw (alike.same-counts, same-sums, same-droppings) (ap (λ (u : Settings). figures_of u others) settings)
