-- Demand 3, as document 01 calls it: one claim about every whole list of calls from a fresh book, refused calls included, and the accepted allocation after it.
-- What stands in quotation marks here is the demand itself, or document 01 on it.
use Rattle.std.specs.Prelude.{ℕ, ◌+◌, ◌≤◌, ◌<◌, ◌≡◌, List, map, ℤ, pos, nat_abs, ◌-ℤ◌, ◌*ℤ◌, length, get_or, take}
use Rattle.refusals.specs.Causes.{accepted}
use Rattle.integers.specs.Sum.{sum}
use Rattle.book.specs.Rows.{capacity}
use Rattle.book.specs.Book.{fresh_book}
use Rattle.calls.specs.declared.Call.{Call}
use Rattle.calls.specs.Calls.{book_after}
use Rattle.cells.specs.Cells.{units}
use Rattle.correction.specs.declared.UnitSums.{UnitSums}
use Rattle.correction.specs.Correction.{unallocated_of, weighted_total, share_numerator}
use Rattle.correction.specs.Volumes.{volumes_of}
use Rattle.allocation.specs.declared.Allocated.{Allocated}
use Rattle.allocation.specs.Losses.{LossesReconciled}
use Rattle.allocation.specs.Allocate.{all_unit_sums, Allocation, allocate_call, figures_of}
use Rattle.allocation.specs.Running.{RunningAllocation, allocate_running}
use Rattle.meaning.specs.Meaning.{meant_take, meant_mpans, meant_meters, meant_settings}
use Rattle.meaning.specs.Moves.{ReadingsMoved, EarliestKept}
use Rattle.meaning.specs.Kept.{FreshCells, listed_running, CellsKept}

-- "Each call, and the allocation after the list": the allocation after a list of calls from the fresh settings on a slice of rows and one of cells, lent a slice of volumes
unfoldable pub allocation_after : List ℕ → List ℤ → List Call → List ℤ → RunningAllocation
allocation_after words cells calls slice = allocate_running (listed_running words cells calls) slice

-- the allocation after the list as it was before request 4, worked from the rows
unfoldable pub rows_allocated : List ℕ → List Call → List ℤ → Allocation
rows_allocated words calls slice = allocate_call (book_after (fresh_book words) calls) slice

-- n and a of the 32 units, worked from what the list means
unfoldable pub meant_sums : ℕ → List Call → List UnitSums
meant_sums capacity calls = all_unit_sums (meant_settings capacity calls) (meant_meters capacity calls)

-- the exact shares of the 32 units times W, worked from what the list means
unfoldable pub meant_numerators : ℕ → List Call → List ℤ
meant_numerators capacity calls =
    map
    (share_numerator (unallocated_of (meant_take calls) (meant_sums capacity calls)) (weighted_total (meant_sums capacity calls)))
    (meant_sums capacity calls)

-- the four counts of an answer, added up
abbrev pub counts_answered : Allocated → ℕ
counts_answered a = a.actual + a.estimated + a.defaulted + a.idle

-- what demand 3 says of one list on a slice of rows, and of the answer and the volume slice that an accepted allocation after it leaves
pub record ListSettled (words : List ℕ) (calls : List Call) (answer : Allocated) (after : List ℤ) : Type 0 where
  -- "the 32 volumes sum to the last accepted Take"
  pub total : sum (take units after) ≡ meant_take calls
  -- "volumes and counts are those document 01 gives for what the list means"
  pub volumes : take units after ≡ volumes_of (meant_take calls) (meant_sums (capacity words) calls)
  pub figures : answer ≡ figures_of (meant_settings (capacity words) calls) (meant_meters (capacity words) calls)
  -- "each volume is under 1 Wh from its exact share worked from the list", multiplied by W
  pub distance : (unit : ℕ) → unit < units
      → nat_abs
      (get_or after unit (pos 0) *ℤ weighted_total (meant_sums (capacity words) calls)
      -ℤ get_or (meant_numerators (capacity words) calls) unit (pos 0))
      < nat_abs (weighted_total (meant_sums (capacity words) calls))
  -- "the four counts add up to the number of different meters accepted"
  pub meters : counts_answered answer ≡ length (meant_mpans (capacity words) calls)
  -- document 02, request 3: "rounded losses plus droppings equal its meters' exact losses" for each unit, worked from the list
  pub losses : LossesReconciled (meant_settings (capacity words) calls).shapes (meant_meters (capacity words) calls) answer.droppings

-- "changes nothing": the second allocation is accepted, with the same answer and the same volumes
pub record AllocatedAlike (first second : RunningAllocation) : Type 0 where
  pub accepted-too : second.answer.number ≡ accepted
  pub same_answer : second.answer ≡ first.answer
  pub same-volumes : take units second.volumes ≡ take units first.volumes

-- "moving only reading calls changes nothing", "on slices of equal lengths, and each allocation is lent a volume slice of 32 words or more": any other list of which a relation holds is allocated alike, on cells of its own
abbrev pub AlikeWhere : (ℕ → List Call → List Call → Type 0) → List ℕ → List ℤ → List Call → List ℤ → Type 0
AlikeWhere Moved words cells calls slice =
    (words' : List ℕ) (cells' : List ℤ) (calls' : List Call) (slice' : List ℤ)
    → length words' ≡ length words → FreshCells cells' → units ≤ length slice'
    → Moved (capacity words) calls calls'
    → AllocatedAlike (allocation_after words cells calls slice) (allocation_after words' cells' calls' slice')

-- what demand 3 says of a list, by itself and beside others, where the allocation after it is accepted
pub record Demanded (words : List ℕ) (cells : List ℤ) (calls : List Call) (slice : List ℤ) : Type 0 where
  pub settled : ListSettled words calls (allocation_after words cells calls slice).answer (allocation_after words cells calls slice).volumes
  -- with the provisos as they are said
  pub moved : AlikeWhere ReadingsMoved words cells calls slice
  -- and where less than the provisos holds
  pub moved-further : AlikeWhere EarliestKept words cells calls slice

-- and of every list, whatever comes of the allocation after it
pub record ListDemanded (words : List ℕ) (cells : List ℤ) (calls : List Call) (slice : List ℤ) : Type 0 where
  -- document 02, request 4: the cells kept up
  pub kept : CellsKept words cells calls
  -- "its allocation is the old one", accepted or refused: the answer and the volume slice, and the book and the cells as they were
  pub same_answer : (allocation_after words cells calls slice).answer ≡ (rows_allocated words calls slice).answer
  pub same-volumes : (allocation_after words cells calls slice).volumes ≡ (rows_allocated words calls slice).volumes
  pub nothing-changed : (allocation_after words cells calls slice).running ≡ listed_running words cells calls
  -- and where it is accepted
  pub demanded : (allocation_after words cells calls slice).answer.number ≡ accepted → Demanded words cells calls slice

-- demand 3
unfoldable pub Demand3 : Type 0
Demand3 = (words : List ℕ) (cells : List ℤ) → FreshCells cells → (calls : List Call) (slice : List ℤ) → ListDemanded words cells calls slice
