-- A whole half hour in one call: a fresh book, a list of calls, and the allocation after it.
use Rattle.std.specs.Prelude.{ℕ, zero, suc, ◌/◌, ◌≡◌, List, ◌++◌, ℤ, length, drop}
use Rattle.running.specs.Running.{Running}
use Rattle.calls.specs.Running.{running_numbers}
use Rattle.allocation.specs.declared.Allocated.{Allocated}
use Rattle.allocation.specs.declared.AllocationAnswer.{AllocationAnswer}
use Rattle.allocation.specs.Allocate.{refused_with}
use Rattle.meaning.specs.Kept.{FreshCells, fresh_running, listed_running}
use Rattle.meaning.specs.Demand.{allocation_after, ListSettled}
use Rattle.listing.specs.Listed.{call_words, calls_in, list_cause}

-- what it leaves: the answer, the book and its cells, the numbers of the calls and the volume slice
pub record SettleOutcome : Type 0 where
  pub answer : Allocated
  pub running : Running
  pub numbers : List ℕ
  pub volumes : List ℤ

unfoldable pub settle_outcome : ℕ → List ℕ → List ℤ → List ℕ → List ℕ → List ℤ → SettleOutcome
settle_outcome zero words cells ws numbers slice =
    record {
      answer = (allocation_after words cells (calls_in ws) slice).answer;
      running = listed_running words cells (calls_in ws);
      numbers = running_numbers (fresh_running words cells) (calls_in ws) ++ drop (length ws / call_words) numbers;
      volumes = (allocation_after words cells (calls_in ws) slice).volumes;
    }
settle_outcome (suc k) words cells ws numbers slice =
    record { answer = refused_with (suc k); running = fresh_running words cells; numbers = numbers; volumes = slice }

-- a list that is misshapen is refused, and nothing changes; else the calls are made from the fresh settings, on the cells as they are lent, and the book is allocated
unfoldable pub settle_call : List ℕ → List ℤ → List ℕ → List ℕ → List ℤ → SettleOutcome
settle_call words cells ws numbers slice = settle_outcome (list_cause ws numbers) words cells ws numbers slice

-- the answer, the rows, the cells, the numbers and the volumes afterwards are those of the outcome, and of an acceptance on cells that were 0 demand 3 says what it says of one list
pub record SettleGives (words : List ℕ) (cells : List ℤ) (ws numbers : List ℕ) (slice : List ℤ) (r : AllocationAnswer) (rows_after : List ℕ) (cells_after : List ℤ) (numbers_after : List ℕ) (after : List ℤ) : Type 0 where
  pub answer : r.answer ≡ (settle_call words cells ws numbers slice).answer
  pub settings : r.settings ≡ (settle_call words cells ws numbers slice).running.book.settings
  pub rows : rows_after ≡ (settle_call words cells ws numbers slice).running.book.rows
  pub cells_are : cells_after ≡ (settle_call words cells ws numbers slice).running.cells
  pub numbers-given : numbers_after ≡ (settle_call words cells ws numbers slice).numbers
  pub volumes : after ≡ (settle_call words cells ws numbers slice).volumes
  pub settled : FreshCells cells → r.answer.number ≡ 0 → ListSettled words (calls_in ws) r.answer after
