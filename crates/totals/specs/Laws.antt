-- What the totals of a book add up to.
use Rattle.std.specs.Prelude.{ℕ, ◌+◌, ◌*◌, ◌/◌, ◌%◌, ◌≡◌, Bool, ◌&&◌, cond, eqb, ℤ, pos, get_or}
use Rattle.words.specs.Limits.{direction_most}
use Rattle.book.specs.Limits.{classes}
use Rattle.book.specs.Book.{Book, used_rows}
use Rattle.cells.specs.Energy.{counts_of}
use Rattle.cells.specs.Cells.{units, sum_below, cell}
use Rattle.totals.specs.Totals.{tariffs, networks, book_totals}

-- the k-th of the four words that the totals call writes for a tariff
abbrev pub word_for : Book → ℕ → ℕ → ℕ → ℕ → ℕ
word_for b direction network tariff k = get_or (book_totals b direction network) (4 * tariff + k) 0

-- "Actual plus other over all tariffs and networks"
unfoldable pub wh_over_all : Book → ℕ → ℤ
wh_over_all b direction =
    sum_below networks (λ network. sum_below tariffs (λ tariff. pos (word_for b direction network tariff 0 + word_for b direction network tariff 1)))

-- "that direction's consumption cells": "Class N = 8 × segment + 4 × direction + 2 × e + l", with l = 0
abbrev pub is_consumption_of : ℕ → ℕ → Bool
is_consumption_of direction class = eqb (class / 4 % 2) direction && eqb (class % 2) 0

-- "the sum of that direction's consumption cells", over the 32 units and the 24 classes
unfoldable pub cells_over_all : Book → ℕ → ℤ
cells_over_all b direction =
    sum_below units (λ unit. sum_below classes (λ class. cond (is_consumption_of direction class) (cell b.settings.shapes (used_rows b) unit class) (pos 0)))

-- the two numbers of meters, over all tariffs, networks and both directions
unfoldable pub meters_over_all : Book → ℤ
meters_over_all b =
    sum_below (direction_most + 1) (λ direction. sum_below networks (λ network. sum_below tariffs (λ tariff.
    pos (word_for b direction network tariff 2 + word_for b direction network tariff 3))))

pub record TotalsAddUp (b : Book) : Type 0 where
  -- "Actual plus other over all tariffs and networks is the sum of that direction's consumption cells"
  pub wh : (direction : ℕ) → wh_over_all b direction ≡ cells_over_all b direction
  -- the meters that are not idle, each counted once
  pub meters : meters_over_all b ≡ pos ((counts_of (used_rows b)).actual + (counts_of (used_rows b)).estimated + (counts_of (used_rows b)).defaulted)
