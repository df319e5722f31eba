-- What storing in rows leaves, with the running cells kept up.
use Rattle.std.specs.Prelude.{ℕ, zero, suc, ◌≡◌, Result, IfOk, List, ℤ, length}
use Rattle.refusals.specs.declared.Refusal.{Refusal}
use Rattle.refusals.specs.Causes.{accepted}
use Rattle.refusals.specs.Refusal.{number_given}
use Rattle.book.specs.Rows.{Row, rows_of, written}
use Rattle.book.specs.Helpers.{Storing}
use Rattle.running.specs.Running.{with_change, within_limits, limit_cause}
use Rattle.running.specs.Helpers.{rows_change}

-- what storing leaves, with the cells: the number given, the rows and the cells
pub record StoringKept : Type 0 where
  pub number : ℕ
  pub rows : List Row
  pub cells : List ℤ

-- by its cause: the rows that it makes and the cells with a change, or on a refusal both as they were
unfoldable pub storing_kept : ℕ → List Row → List Row → (ℕ → ℤ) → List ℤ → StoringKept
storing_kept zero made given change cells = record { number = accepted; rows = made; cells = with_change change cells }
storing_kept (suc k) made given change cells = record { number = suc k; rows = given; cells = cells }

-- what storing leaves of rows that are kept up by cells: the limit is its last cause
unfoldable pub kept_storing : List ℕ → List ℤ → List Row → Storing → StoringKept
kept_storing shapes cells given o =
    storing_kept (limit_cause o.number (within_limits (with_change (rows_change shapes given o.rows) cells))) o.rows given (rows_change shapes given o.rows) cells

-- what a function that stores leaves, of the first rows of a slice, with every word after them as it was, and of the cells; on acceptance it gives the number of meters then
pub record Stores (store : List Row → Storing) (shapes : List ℕ) (meters : ℕ) (words : List ℕ) (cells : List ℤ) (outcome : Result ℕ Refusal) (words_after : List ℕ) (cells_after : List ℤ) : Type 0 where
  pub number : number_given outcome ≡ (kept_storing shapes cells (rows_of meters words) (store (rows_of meters words))).number
  pub counted : IfOk outcome (λ n. n ≡ length (kept_storing shapes cells (rows_of meters words) (store (rows_of meters words))).rows)
  pub slice : words_after ≡ written (kept_storing shapes cells (rows_of meters words) (store (rows_of meters words))).rows words
  pub cells_are : cells_after ≡ (kept_storing shapes cells (rows_of meters words) (store (rows_of meters words))).cells
