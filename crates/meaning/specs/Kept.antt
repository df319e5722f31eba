-- Document 02, request 4, "Cells that keep up": what holds of the slice of running cells after every whole list of calls from a fresh book, refused calls included.
use Rattle.std.specs.Prelude.{ℕ, ◌≤◌, ◌≡◌, true, List, ◌++◌, ℤ, pos, length, take, drop, replicate}
use Rattle.std.specs.List.{list_all}
use Rattle.book.specs.Rows.{capacity}
use Rattle.book.specs.Book.{fresh_book, used_rows}
use Rattle.running.specs.Words.{slice_words}
use Rattle.running.specs.Running.{Running, cells_for}
use Rattle.calls.specs.declared.Call.{Call}
use Rattle.calls.specs.Calls.{book_after, numbers_given}
use Rattle.calls.specs.Running.{running_after, running_numbers, lent_well}
use Rattle.meaning.specs.Meaning.{meant_meters, meant_settings}

-- "one cell slice as well, of 836 words or more with the first 836 at 0 at the start, which nobody else writes"
pub record FreshCells (cells : List ℤ) : Type 0 where
  pub long : slice_words ≤ length cells
  pub zeros : take slice_words cells ≡ replicate slice_words (pos 0)

-- a fresh book with its slice
abbrev pub fresh_running : List ℕ → List ℤ → Running
fresh_running words cells = record { book = fresh_book words; cells = cells }

-- the book and the cells after a list of calls from a fresh book
abbrev pub listed_running : List ℕ → List ℤ → List Call → Running
listed_running words cells calls = running_after (fresh_running words cells) calls

-- "a sum over the rows", worked from what the list means
unfoldable pub meant_cells : ℕ → List Call → List ℤ
meant_cells capacity calls = cells_for (meant_settings capacity calls).shapes (meant_meters capacity calls)

-- what holds of one list on a slice of rows and a slice of cells
pub record CellsKept (words : List ℕ) (cells : List ℤ) (calls : List Call) : Type 0 where
  -- the calls make the book and give the numbers that they do without the slice
  pub book-same : (listed_running words cells calls).book ≡ book_after (fresh_book words) calls
  pub numbers-same : running_numbers (fresh_running words cells) calls ≡ numbers_given (fresh_book words) calls
  -- none of them is refused for the slice or for the book
  pub lent-well : list_all lent_well (running_numbers (fresh_running words cells) calls) ≡ true
  -- the slice holds the sums over the rows then, and the words past the 836th as they were
  pub kept-up : (listed_running words cells calls).cells
      ≡ cells_for (book_after (fresh_book words) calls).settings.shapes (used_rows (book_after (fresh_book words) calls)) ++ drop slice_words cells
  -- and these are the sums worked from what the list means
  pub meant : (listed_running words cells calls).cells ≡ meant_cells (capacity words) calls ++ drop slice_words cells
