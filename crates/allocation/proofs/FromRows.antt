-- Running cells that are a sum over the rows are allocated as the rows are: the same cells once rounded, the same counts, droppings and cause 9.
use Prim.Native.Nat.{ℕ, ◌+◌, ◌*◌, ◌-◌, ◌≤◌, ◌<◌}
use mathlib.Core.Path.{◌≡◌, refl, sym, ap, ap₂, ◌∙◌}
use mathlib.Core.Bool.{Bool, true, false, cond}
use mathlib.Core.List.{List, [], ◌∷◌, ◌++◌, map}
use native.Mathlib.Omega.{arith}
use lib.Dec.{eqb}
use lib.IntN.{ℤ, pos, nat_abs, ◌+ℤ◌, ◌*ℤ◌}
use lib.ListN.{length, get_or, length-append, length-map, get_or-map}
use Rattle.integers.specs.Rounding.{nearest_wh, dropped_thousandths}
use Rattle.integers.specs.Sum.{sum}
use Rattle.integers.proofs.Nearest.{nearest-whole}
use Rattle.book.specs.declared.Settings.{Settings}
use Rattle.book.specs.Limits.{classes}
use Rattle.book.specs.Rows.{Row}
use Rattle.cells.specs.declared.Counts.{Counts}
use Rattle.cells.specs.declared.Source.{Source}
use Rattle.cells.specs.declared.Source.TheVariants.{Actual, Estimated, Defaulted, Idle}
use Rattle.cells.specs.Energy.{source_number, source_of, count_for, add_counts, no_counts, counts_of}
use Rattle.cells.specs.Cells.{units, is_loss_class, sum_over, consumption_cell, loss_cell, cell, count_from, cells_of}
use Rattle.cells.proofs.Counting.{counted-length, counted-at, counted-list}
use Rattle.cells.proofs.SumBelow.{sum-below-same}
use Rattle.running.specs.Words.{cell_words, slice_words, count_in}
use Rattle.running.specs.Running.{cells_for}
use Rattle.running.proofs.SumIn.{cell-word, count_word}
use Rattle.running.proofs.CellsFor.{cells-for-length, word_at}
use Rattle.correction.specs.declared.UnitSums.{UnitSums}
use Rattle.correction.specs.Correction.{by_direction, sums_of}
use Rattle.correction.specs.Slice.{unit_cells, rounded_cells}
use Rattle.correction.proofs.UnitCells.{unit-cells-long, unit-cell}
use Rattle.allocation.specs.Losses.{cell_dropped, unit_droppings, all_droppings}
use Rattle.allocation.specs.Allocate.{unit_sums, all_unit_sums}
use Rattle.allocation.specs.Running.{slice_sums, number_at, slice_counts, slice_dropped, slice_droppings}

module _ (shapes : List ℕ) (meters : List Row) (later : List ℤ) where
  abbrev kept : List ℤ
  kept = cells_for shapes meters ++ later

  kept-long : slice_words ≤ length kept
  kept-long = omega (arith, cells-for-length shapes meters, length-append (cells_for shapes meters) later)

  kept-cell : (unit class : ℕ) → unit < units → class < classes
      → get_or (unit_cells kept unit) class (pos 0) ≡ cond (is_loss_class class) (loss_cell shapes meters unit (class - 1)) (pos 1000 *ℤ consumption_cell shapes meters unit class)
  kept-cell unit class u c =
      unit-cell kept unit class c
      ∙ word_at shapes meters later (classes * unit + class) (omega arith)
      ∙ cell-word shapes meters unit class u c

  -- every cell rounded is the cell of document 01
  cell-rounded : (unit class : ℕ) → unit < units → class < classes → nearest_wh (get_or (unit_cells kept unit) class (pos 0)) ≡ cell shapes meters unit class
  unfolding cell
  cell-rounded unit class u c = ap nearest_wh (kept-cell unit class u c) ∙ by (is_loss_class class)
    where
      by : (t : Bool) → nearest_wh (cond t (loss_cell shapes meters unit (class - 1)) (pos 1000 *ℤ consumption_cell shapes meters unit class))
          ≡ cond t (nearest_wh (loss_cell shapes meters unit (class - 1))) (consumption_cell shapes meters unit class)
      by true = refl
      by false = nearest-whole (consumption_cell shapes meters unit class)

  cells-rounded : (unit : ℕ) → unit < units → rounded_cells kept unit ≡ cells_of shapes meters unit
  unfolding rounded_cells cells_of nearest_wh
  cells-rounded unit u =
      counted-list (cell shapes meters unit) classes (map nearest_wh (unit_cells kept unit)) (pos 0)
      (length-map (unit_cells kept unit) nearest_wh ∙ unit-cells-long kept unit (omega (arith, kept-long)) u)
      (λ class c. get_or-map nearest_wh (unit_cells kept unit) class (pos 0) ∙ cell-rounded unit class u c)

  -- what rounding the loss cells drops
  dropped-same : (unit : ℕ) → unit < units → slice_dropped kept unit ≡ unit_droppings shapes meters unit
  unfolding slice_dropped unit_droppings
  dropped-same unit u = sum-below-same classes _ _ (λ class c. ap (λ (x : ℤ). cond (is_loss_class class) (by_direction class (dropped_thousandths x)) (pos 0)) (kept-cell unit class u c) ∙ by class (is_loss_class class))
    where
      by : (class : ℕ) (t : Bool) → cond t (by_direction class (dropped_thousandths (cond t (loss_cell shapes meters unit (class - 1)) (pos 1000 *ℤ consumption_cell shapes meters unit class)))) (pos 0)
          ≡ cond t (by_direction class (cell_dropped shapes meters unit class)) (pos 0)
      by class true = refl
      by class false = refl

  pub droppings-same : slice_droppings kept ≡ all_droppings shapes meters
  unfolding slice_droppings all_droppings
  droppings-same =
      counted-list (unit_droppings shapes meters) units (map (slice_dropped kept) (count_from 0 units)) (pos 0)
      (counted-length (slice_dropped kept) units)
      (λ unit u. counted-at (slice_dropped kept) units unit (pos 0) u ∙ dropped-same unit u)

  -- the four counts
  count-sum : (n : ℕ) (read : Counts → ℕ) → ((x : Source) → cond (eqb (source_number x) n) (pos 1) (pos 0) ≡ pos (read (count_for x)))
      → ((x y : Counts) → read (add_counts x y) ≡ read x + read y) → read no_counts ≡ 0
      → (rows : List Row) → sum_over (count_in n) rows ≡ pos (read (counts_of rows))
  unfolding sum_over sum count_in counts_of
  count-sum n read one added none [] = ap pos (sym none)
  count-sum n read one added none (r ∷ rows) =
      ap₂ ◌+ℤ◌ (one (source_of r.registration r.reading)) (count-sum n read one added none rows)
      ∙ ap pos (sym (added (count_for (source_of r.registration r.reading)) (counts_of rows)))

  -- each by the number of its source
  abbrev ones : ℕ → (Counts → ℕ) → Source → Type 0
  ones n read x = cond (eqb (source_number x) n) (pos 1) (pos 0) ≡ pos (read (count_for x))

  each_once : (x : Source) → ones 0 (λ c. c.actual) x × (ones 1 (λ c. c.estimated) x × (ones 2 (λ c. c.defaulted) x × ones 3 (λ c. c.idle) x))
  unfolding count_for
  each_once Actual = (refl, (refl, (refl, refl)))
  each_once Estimated = (refl, (refl, (refl, refl)))
  each_once Defaulted = (refl, (refl, (refl, refl)))
  each_once Idle = (refl, (refl, (refl, refl)))

  count_same : (n : ℕ) → n < 4 → (read : Counts → ℕ) → ((x : Source) → ones n read x)
      → ((x y : Counts) → read (add_counts x y) ≡ read x + read y) → read no_counts ≡ 0
      → number_at kept (cell_words + n) ≡ read (counts_of meters)
  count_same n h read one added none =
      ap nat_abs (word_at shapes meters later (cell_words + n) (omega arith) ∙ count_word shapes meters n h ∙ count-sum n read one added none meters)

  pub counts_same : slice_counts kept ≡ counts_of meters
  unfolding slice_counts
  counts_same i =
      record {
        actual = count_same 0 (omega arith) (λ c. c.actual) (λ x. (each_once x).0) (λ x y. refl) refl i;
        estimated = count_same 1 (omega arith) (λ c. c.estimated) (λ x. (each_once x).1.0) (λ x y. refl) refl i;
        defaulted = count_same 2 (omega arith) (λ c. c.defaulted) (λ x. (each_once x).1.1.0) (λ x y. refl) refl i;
        idle = count_same 3 (omega arith) (λ c. c.idle) (λ x. (each_once x).1.1.1) (λ x y. refl) refl i;
      }

-- n and a of the units
pub sums_same : (s : Settings) (meters : List Row) (later : List ℤ) → slice_sums s (cells_for s.shapes meters ++ later) ≡ all_unit_sums s meters
unfolding slice_sums all_unit_sums unit_sums
sums_same s meters later =
    let f : ℕ → UnitSums = λ unit. sums_of (rounded_cells (cells_for s.shapes meters ++ later) unit) s.weights in
    counted-list (unit_sums s meters) units (map f (count_from 0 units)) (sums_of [] []) (counted-length f units)
    (λ unit u. counted-at f units unit (sums_of [] []) u ∙ ap (λ (cells : List ℤ). sums_of cells s.weights) (cells-rounded s.shapes meters later unit u))
