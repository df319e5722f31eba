-- A slice of running cells that was tested, as calls keep it up.
use Rattle.std.specs.Prelude.{ℕ, ◌≤◌, ◌≡◌, true, List, ℤ, length, take}
use Rattle.integers.specs.Sum.{sizes}
use Rattle.running.specs.Words.{cell_words, slice_words}
use Rattle.running.specs.Running.{within_limits}

-- a slice that was tested, and a number that the sizes of its cells, added up, do not exceed
pub record CellsReady (cells : List ℤ) (most : ℕ) : Type 0 where
  pub long : slice_words ≤ length cells
  pub within : within_limits cells ≡ true
  pub size-most : sizes (take cell_words cells) ≤ most
