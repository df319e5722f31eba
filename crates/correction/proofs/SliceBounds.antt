-- How large the cells of a slice are once they are rounded, and n and a of its units, where the sizes of its 768 cells add up to no more than 65,536 meters can bring about.
use Prim.Native.Nat.{ℕ, ◌+◌, ◌*◌, ◌≤◌, ◌<◌}
use mathlib.Core.Path.{◌≡◌, refl, ap}
use mathlib.Core.Bool.{true}
use mathlib.Core.List.{List, [], map, map-map}
use native.Mathlib.Omega.{arith}
use borrow.Author.Tests.{leb-true}
use lib.IntN.{ℤ, pos, nat_abs}
use lib.ListN.{get_or, take, drop, length-take}
use Rattle.std.specs.List.{list_all}
use Rattle.integers.specs.Sum.{sizes}
use Rattle.integers.specs.Helpers.{energy_most}
use Rattle.integers.proofs.Nearest.{rounded-sizes}
use Rattle.integers.proofs.Sizes.{size-entry}
use Rattle.book.specs.Limits.{classes}
use Rattle.book.specs.Settings.{is_weight}
use Rattle.book.proofs.AllOf.{entry-passes}
use Rattle.cells.specs.Cells.{units, count_from}
use Rattle.cells.proofs.Counting.{counted-at}
use Rattle.cells.proofs.Totals.{total, total-plus, total_mono, total-const, total-times, sizes-total}
use Rattle.correction.specs.declared.UnitSums.{UnitSums}
use Rattle.correction.specs.Correction.{net_of, weighted_of, net_in, weighted_in, sums_of}
use Rattle.correction.specs.Slice.{unit_cells, rounded_cells}
use Rattle.correction.specs.Helpers.{AllUnitsArguments, SumsArguments}
use Rattle.correction.proofs.Sizes.{net-most, weighted-most}
use Rattle.correction.proofs.UnitCells.{unit-sizes, units-sizes}

module _ (cells : List ℤ) where
  unit-thousandths : (unit : ℕ) → 1000 * sizes (rounded_cells cells unit) ≤ sizes (unit_cells cells unit) + 12000
  unfolding rounded_cells unit_cells
  unit-thousandths unit = omega (arith, rounded-sizes (unit_cells cells unit), length-take classes (drop (classes * unit) cells))

  module _ (within : sizes (take (classes * units) cells) ≤ 1310720000000000) where
    rounded-most : (unit k : ℕ) → unit < units → nat_abs (get_or (rounded_cells cells unit) k (pos 0)) ≤ energy_most
    rounded-most unit k h = omega (arith, size-entry (rounded_cells cells unit) k, unit-thousandths unit, unit-sizes cells unit h)

    rounded-total : total (λ unit. sizes (rounded_cells cells unit)) 0 units ≤ 1310720000384
    rounded-total =
        let c : ℕ → ℕ = λ unit. sizes (rounded_cells cells unit) in
        let t : ℕ → ℕ = λ unit. sizes (unit_cells cells unit) in
        omega (
          arith,
          total-times 1000 c 0 units,
          total-plus (λ unit. 1000 * c unit) t (λ unit. 12000) unit-thousandths 0 units,
          total-const 12000 0 units,
          units-sizes cells,
        )

    module _ (weights : List ℕ) (formed : list_all is_weight weights ≡ true) where
      pub table-arguments : AllUnitsArguments (map (rounded_cells cells) (count_from 0 units)) weights
      table-arguments =
          record {
            each = λ unit h.
                rw (counted-at (rounded_cells cells) units unit [] h)
                (record {
                  cells-bound = λ k. rounded-most unit k h;
                  weights-bound = λ k. leb-true _ 1000 (entry-passes is_weight weights k 0 formed refl);
                });
          }

      abbrev worked : List UnitSums
      worked = map (λ unit. sums_of (rounded_cells cells unit) weights) (count_from 0 units)

      nets-most : sizes (map net_in worked) ≤ 1310720000384
      nets-most =
          let n : ℕ → ℤ = λ unit. net_of 0 (rounded_cells cells unit) in
          omega (
            arith,
            ap sizes (map-map net_in (λ unit. sums_of (rounded_cells cells unit) weights) (count_from 0 units)),
            sizes-total n 0 units,
            total_mono (λ unit. nat_abs (n unit)) (λ unit. sizes (rounded_cells cells unit)) (λ unit. net-most 0 (rounded_cells cells unit)) 0 units,
            rounded-total,
          )

      weighteds-most : sizes (map weighted_in worked) ≤ 1310720000384000
      weighteds-most =
          let a : ℕ → ℤ = λ unit. weighted_of (rounded_cells cells unit) weights in
          omega (
            arith,
            ap sizes (map-map weighted_in (λ unit. sums_of (rounded_cells cells unit) weights) (count_from 0 units)),
            sizes-total a 0 units,
            total_mono (λ unit. nat_abs (a unit)) (λ unit. 1000 * sizes (rounded_cells cells unit)) (λ unit. weighted-most (rounded_cells cells unit) weights formed) 0 units,
            total-times 1000 (λ unit. sizes (rounded_cells cells unit)) 0 units,
            rounded-total,
          )

      pub sums-arguments : (take_wh : ℤ) → nat_abs take_wh ≤ 5000000000 → SumsArguments take_wh worked
      sums-arguments take_wh h = record { take_bound = h; nets-bound = omega (arith, nets-most); weighted-bound = omega (arith, weighteds-most) }
