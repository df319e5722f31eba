-- Document 02, request 1: "Allocation ignores the new fields". Books, and lists of calls, that differ only in the embedded networks and the tariffs of their meters.
use Rattle.std.specs.Prelude.{ℕ, ◌≡◌, true, List, [], ◌∷◌, map, ℤ, length, take}
use Rattle.words.specs.declared.Registration.{Registration}
use Rattle.words.specs.Registration.{registration_in_range, registration_without_charges}
use Rattle.book.specs.Rows.{row_without_charges}
use Rattle.book.specs.Book.{Book, used_rows, well_formed}
use Rattle.running.specs.Words.{slice_words}
use Rattle.running.specs.Running.{cells_for}
use Rattle.calls.specs.declared.Call.{Call}
use Rattle.calls.specs.declared.Call.TheVariants.{Register}
use Rattle.calls.specs.Running.{running_numbers}
use Rattle.allocation.specs.Allocate.{allocate_call}
use Rattle.allocation.specs.Running.{RunningAllocation, allocate_running}
use Rattle.meaning.specs.Kept.{FreshCells, fresh_running, listed_running}
use Rattle.meaning.specs.Demand.{allocation_after}

-- well-formed books that differ only in them
pub record BooksAlike (b other : Book) : Type 0 where
  pub formed : well_formed b ≡ true
  pub other-formed : well_formed other ≡ true
  pub same-settings : b.settings ≡ other.settings
  pub rows_alike : map row_without_charges (used_rows b) ≡ map row_without_charges (used_rows other)

-- calls that do: register calls of one meter, both in range or both out of range; any call is alike to itself
pub data CallAlike : Call → Call → Type 0 where
  registers-alike : {m : ℕ} {r q : Registration} → registration_without_charges r ≡ registration_without_charges q → registration_in_range r ≡ registration_in_range q → CallAlike (Register m r) (Register m q)
  same-call : {c : Call} → CallAlike c c

-- lists of calls that do, call by call
pub data CallsAlike : List Call → List Call → Type 0 where
  no-calls : CallsAlike [] []
  next-call : {c d : Call} {calls others : List Call} → CallAlike c d → CallsAlike calls others → CallsAlike (c ∷ calls) (d ∷ others)

-- "Allocation ignores the new fields": accepted or refused, with the same answer and the same volumes
pub record AllocationSame (first second : RunningAllocation) : Type 0 where
  pub same_answer : first.answer ≡ second.answer
  pub same-volumes : first.volumes ≡ second.volumes

pub record ChargesIgnored : Type 0 where
  -- the same cells, with books that are alike
  pub books : (b other : Book) → BooksAlike b other → (cells slice : List ℤ)
      → AllocationSame (allocate_running (record { book = b; cells = cells }) slice) (allocate_running (record { book = other; cells = cells }) slice)
  -- the same sums over the rows, and from the rows the same allocation
  pub same-sums : (b other : Book) → BooksAlike b other → cells_for b.settings.shapes (used_rows b) ≡ cells_for other.settings.shapes (used_rows other)
  pub rows : (b other : Book) → BooksAlike b other → (slice : List ℤ)
      → ((allocate_call b slice).answer ≡ (allocate_call other slice).answer) × ((allocate_call b slice).volumes ≡ (allocate_call other slice).volumes)
  -- from the fresh settings, on slices of equal lengths and cells that are 0: the calls give the same numbers, and leave the same cells
  pub numbers : (words words' : List ℕ) → length words ≡ length words' → (cells cells' : List ℤ) → FreshCells cells → FreshCells cells'
      → (calls others : List Call) → CallsAlike calls others
      → running_numbers (fresh_running words cells) calls ≡ running_numbers (fresh_running words' cells') others
  pub same-cells : (words words' : List ℕ) → length words ≡ length words' → (cells cells' : List ℤ) → FreshCells cells → FreshCells cells'
      → (calls others : List Call) → CallsAlike calls others
      → take slice_words (listed_running words cells calls).cells ≡ take slice_words (listed_running words' cells' others).cells
  pub lists : (words words' : List ℕ) → length words ≡ length words' → (cells cells' : List ℤ) → FreshCells cells → FreshCells cells'
      → (calls others : List Call) → CallsAlike calls others
      → (slice : List ℤ) → AllocationSame (allocation_after words cells calls slice) (allocation_after words' cells' others slice)
