-- What storing in rows in two parts promises.
use Rattle.std.specs.Prelude.{ℕ, ◌+◌, ◌≡◌, Result, Ok, Err, List, ℤ}
use Rattle.refusals.specs.declared.Refusal.{Refusal}
use Rattle.book.specs.Rows.{Row}
use Rattle.book.specs.Helpers.{Storing}
use Rattle.calls.specs.Stores.{Stores}
use Rattle.calls.specs.Helpers.{LentRows, StoresIn, meters_after}
use Rattle.two_parts.specs.declared.Parts.{Parts}
use Rattle.two_parts.specs.TwoParts.{as_one, PartsReady}

-- an outcome with the number of meters of both parts
abbrev pub counted : ℕ → Result ℕ Refusal → Result ℕ Refusal
counted meters (Ok n) = Ok meters
counted meters (Err refusal) = Err refusal

-- what storing in one of two parts leaves: two parts again, and merged they are what it leaves in the rows that they stand for
pub record LeavesApart (store : List Row → Storing) (shapes : List ℕ) (first later : ℕ) (words : List ℕ) (cells : List ℤ) (later_after : ℕ) (outcome : Result ℕ Refusal) (words_after : List ℕ) (cells_after : List ℤ) : Type 0 where
  pub ready : PartsReady first later_after words_after
  pub stores : Stores store shapes (first + later) (as_one first later words) cells (counted (first + later_after) outcome) (as_one first later_after words_after) cells_after
  pub meters : first + later_after ≡ meters_after (first + later) (counted (first + later_after) outcome)

-- the rows that both parts stand for, and how many they are
abbrev pub rows_together : Parts → List ℕ
rows_together p = as_one p.first p.later p.rows.now

abbrev pub meters_of : Parts → ℕ
meters_of p = p.first + p.later

-- those rows, as a call has them
abbrev pub lent_parts : Parts → LentRows
lent_parts p = record { slice = p.rows.ghost_name; words = rows_together p; meters = meters_of p }

-- what storing in two parts leaves: merged, the parts are what it leaves in the rows that they stand for
pub record StoresApart (store : List Row → Storing) (shapes : List ℕ) (before : Parts) (cells : List ℤ) (after : Parts) (outcome : Result ℕ Refusal) (cells_after : List ℤ) : Type 0 where
  pub leaves : StoresIn store shapes (lent_parts before) cells outcome (lent_parts after) cells_after
