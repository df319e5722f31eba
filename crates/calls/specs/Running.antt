-- Document 02, request 4: the six calls on a book with its running cells.
use Rattle.std.specs.Prelude.{ℕ, zero, suc, ◌≡◌, Bool, not, ◌&&◌, List, [], ◌∷◌, eqb, ℤ}
use Rattle.refusals.specs.Causes.{accepted, book_ill_formed, cells_short}
use Rattle.book.specs.declared.Answer.{Answer}
use Rattle.running.specs.Running.{Running, kept_up, within_limits, lent_cause, limit_cause}
use Rattle.calls.specs.declared.Call.{Call}
use Rattle.calls.specs.Calls.{cause_after_test, book_made}

-- "every call adds the change in the sum over the rows": what an accepted call makes
abbrev pub running_made : Running → Call → Running
running_made r c = kept_up r (book_made r.book c)

-- the cause for which a call is refused: 13, then 1, then those of the call, then 1 again
unfoldable pub running_cause : Running → Call → ℕ
running_cause r c = lent_cause r (limit_cause (cause_after_test r.book c) (within_limits (running_made r c).cells))

-- what a call leaves: the number given, the book and the slice
pub record RunningOutcome : Type 0 where
  pub number : ℕ
  pub running : Running

-- by its cause: what it makes, or on a refusal the book and the slice as they were
unfoldable pub running_outcome : ℕ → Running → Running → RunningOutcome
running_outcome zero made given = record { number = accepted; running = made }
running_outcome (suc k) made given = record { number = suc k; running = given }

unfoldable pub running_call : Running → Call → RunningOutcome
running_call r c = running_outcome (running_cause r c) (running_made r c) r

-- a list of calls, each handed what the one before left: the book and the slice after it, and the numbers that its calls give
unfoldable pub running_after : Running → List Call → Running
running_after r [] = r
running_after r (c ∷ calls) = running_after (running_call r c).running calls

unfoldable pub running_numbers : Running → List Call → List ℕ
running_numbers r [] = []
running_numbers r (c ∷ calls) = (running_call r c).number ∷ running_numbers (running_call r c).running calls

-- a number that is neither of the two for which what is lent is refused: 13 and 1
unfoldable pub lent_well : ℕ → Bool
lent_well n = not (eqb n cells_short) && not (eqb n book_ill_formed)

-- the promise of a call: the answer, the rows and the slice afterwards are those of its outcome
pub record RunningGives (o : RunningOutcome) (answer : Answer) (rows_after : List ℕ) (cells_after : List ℤ) : Type 0 where
  pub number : answer.number ≡ o.number
  pub settings : answer.settings ≡ o.running.book.settings
  pub rows : rows_after ≡ o.running.book.rows
  pub cells : cells_after ≡ o.running.cells
