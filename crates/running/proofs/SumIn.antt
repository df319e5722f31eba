-- The words of a sum over the rows, each by what it is: the cell of a unit and a class, a count, and the number that waits in a category.
use Prim.Native.Nat.{ℕ, ◌+◌, ◌*◌, ◌-◌, ◌/◌, ◌%◌, ◌<◌}
use mathlib.Core.Path.{◌≡◌, refl, sym, ap, ◌∙◌, fun_ext}
use mathlib.Core.Bool.{Bool, true, false, cond}
use mathlib.Core.List.{List}
use native.Mathlib.Omega.{arith}
use borrow.Author.Tests.{lt-ltb, le-ltb}
use lib.IntN.{ℤ, pos, ◌*ℤ◌, *ℤ-zero}
use Rattle.integers.proofs.Ring.{times-plus}
use Rattle.book.specs.Limits.{classes}
use Rattle.book.specs.Rows.{Row}
use Rattle.cells.specs.Cells.{units, is_loss_class, energy_in, loss_in, sum_over, consumption_cell, loss_cell}
use Rattle.cells.proofs.SumOver.{sum-over-through}
use Rattle.running.specs.Words.{cell_words, waiting_words, thousandths_in, count_in, waiting_in, word_in, sum_in}

-- what a meter adds to each of them
module _ (shapes : List ℕ) (registration reading : ℕ) where
  cell_in : (unit class : ℕ) → unit < units → class < classes → word_in shapes (classes * unit + class) registration reading ≡ thousandths_in shapes unit class registration reading
  unfolding word_in
  cell_in unit class u c =
      let inside : classes * unit + class < cell_words = omega arith in
      let of-unit : (classes * unit + class) / classes ≡ unit = omega arith in
      let of-class : (classes * unit + class) % classes ≡ class = omega arith in
      rw (lt-ltb (classes * unit + class) cell_words inside, of-unit, of-class)

  count-in : (n : ℕ) → n < 4 → word_in shapes (cell_words + n) registration reading ≡ count_in n registration reading
  unfolding word_in
  count-in n h =
      let rest : cell_words + n - cell_words ≡ n = omega arith in
      rw (le-ltb (cell_words + n) cell_words (omega arith), lt-ltb (cell_words + n) waiting_words (omega arith), rest)

  waiting-in : (category : ℕ) → word_in shapes (waiting_words + category) registration reading ≡ waiting_in category registration reading
  unfolding word_in
  waiting-in category =
      let rest : waiting_words + category - waiting_words ≡ category = omega arith in
      rw (le-ltb (waiting_words + category) cell_words (omega arith), le-ltb (waiting_words + category) waiting_words (omega arith), rest)

-- what two functions give alike, they sum alike
over-same : (f g : ℕ → ℕ → ℤ) → ((registration reading : ℕ) → f registration reading ≡ g registration reading) → (meters : List Row) → sum_over f meters ≡ sum_over g meters
over-same f g same meters = ap (λ (h : ℕ → ℕ → ℤ). sum_over h meters) (fun_ext (λ registration. fun_ext (same registration)))

module _ (shapes : List ℕ) (meters : List Row) where
  -- "unrounded cells, in thousandths of a Wh": the loss cell of the class before, or the consumption cell a thousand times
  pub cell-word : (unit class : ℕ) → unit < units → class < classes
      → sum_in shapes meters (classes * unit + class)
      ≡ cond (is_loss_class class) (loss_cell shapes meters unit (class - 1)) (pos 1000 *ℤ consumption_cell shapes meters unit class)
  unfolding sum_in thousandths_in loss_cell consumption_cell
  cell-word unit class u c =
      over-same _ _ (λ registration reading. cell_in shapes registration reading unit class u c) meters ∙ by (is_loss_class class)
    where
      by : (t : Bool)
          → sum_over (λ registration reading. cond t (loss_in shapes unit (class - 1) registration reading) (pos 1000 *ℤ energy_in shapes unit class registration reading)) meters
          ≡ cond t (loss_cell shapes meters unit (class - 1)) (pos 1000 *ℤ consumption_cell shapes meters unit class)
      by true = refl
      by false = sym (sum-over-through (energy_in shapes unit class) (λ (z : ℤ). pos 1000 *ℤ z) (*ℤ-zero (pos 1000)) (times-plus (pos 1000)) meters)

  pub count_word : (n : ℕ) → n < 4 → sum_in shapes meters (cell_words + n) ≡ sum_over (count_in n) meters
  unfolding sum_in
  count_word n h = over-same _ _ (λ registration reading. count-in shapes registration reading n h) meters

  pub waiting-word : (category : ℕ) → sum_in shapes meters (waiting_words + category) ≡ sum_over (waiting_in category) meters
  unfolding sum_in
  waiting-word category = over-same _ _ (λ registration reading. waiting-in shapes registration reading category) meters
