-- Storing that goes by parts: in rows that are two parts merged it leaves what it leaves in one of the parts, merged with the other.
use Rattle.std.specs.Prelude.{ℕ, ◌+◌, ◌-◌, ◌≤◌, ◌≡◌, ◌≢◌, true, false, List, length}
use Rattle.refusals.specs.Causes.{accepted}
use Rattle.book.specs.Rows.{Row, is_known}
use Rattle.book.specs.Helpers.{Storing}
use Rattle.two_parts.specs.TwoParts.{merged, RowsApart}

-- what is left where the first part is stored in: as many rows there as before
pub record InFirst (whole there : Storing) (first later : List Row) : Type 0 where
  pub number : whole.number ≡ there.number
  pub rows : whole.rows ≡ merged there.rows later
  pub as_many : length there.rows ≡ length first
  pub parts : RowsApart there.rows later

-- and where the later part is: as many rows there as before, or one more if there is room. A refusal leaves those that were there.
pub record InLater (capacity : ℕ) (whole there : Storing) (first later : List Row) : Type 0 where
  pub number : whole.number ≡ there.number
  pub rows : whole.rows ≡ merged first there.rows
  pub refused : there.number ≢ accepted → there.rows ≡ later
  pub more : length later ≤ length there.rows
  pub most : length there.rows ≤ length later + 1
  pub fits : length first + length there.rows ≤ capacity
  pub parts : RowsApart first there.rows

-- The meter m of the first part is stored there, and any other in the later part, which has the capacity that the first leaves.
pub record GoesByParts (m : ℕ) (store : ℕ → List Row → Storing) : Type 0 where
  pub in_first : (capacity : ℕ) (first later : List Row) → RowsApart first later → is_known m first ≡ true → InFirst (store capacity (merged first later)) (store capacity first) first later
  pub in_later : (capacity : ℕ) (first later : List Row) → RowsApart first later → is_known m first ≡ false → length first + length later ≤ capacity
      → InLater capacity (store capacity (merged first later)) (store (capacity - length first) later) first later
