-- What the functions that make the calls of a list are held to.
use Rattle.std.specs.Prelude.{ℕ, ◌≡◌, List, ◌++◌, ℤ, length, drop, map}
use Rattle.book.specs.declared.Settings.{Settings}
use Rattle.running.specs.Running.{Running}
use Rattle.calls.specs.Running.{running_after, running_numbers}
use Rattle.listing.specs.Listed.{call_of}

-- what making calls that stand in arrays leaves: the book and its cells after them, and their numbers
pub record MakesEach (r : Running) (calls : List (List ℕ)) (numbers : List ℕ) (settings_after : Settings) (rows_after : List ℕ) (cells_after : List ℤ) (numbers_after : List ℕ) : Type 0 where
  pub settings : settings_after ≡ (running_after r (map call_of calls)).book.settings
  pub rows : rows_after ≡ (running_after r (map call_of calls)).book.rows
  pub cells : cells_after ≡ (running_after r (map call_of calls)).cells
  pub numbers-given : numbers_after ≡ running_numbers r (map call_of calls) ++ drop (length calls) numbers
