-- Cells that keep up: on a well-formed book whose slice holds the sums over its rows, every call gives the number it gives without the slice and makes the same book, and the slice holds the sums over the rows again. So for every list of calls, of which none is refused for the slice.
use Prim.Native.Nat.{ℕ, zero, suc}
use mathlib.Core.Path.{◌≡◌, refl, ap, ap₂, ◌∙◌}
use mathlib.Core.Bool.{Bool, true, false, not, ◌&&◌}
use mathlib.Core.List.{List, [], ◌∷◌, ◌++◌}
use borrow.Author.Tests.{le-ltb}
use lib.Dec.{leb}
use lib.IntN.{ℤ, pos}
use lib.ListN.{take, drop, replicate}
use Rattle.refusals.specs.Causes.{refuse, accepted, argument_out_of_range, quality_refused, meter_unknown, issue_not_above, capacity_reached}
use Rattle.words.specs.Reading.{quality_allowed}
use Rattle.std.specs.List.{list_all}
use Rattle.book.specs.Settings.{setting_in_range, setting_cause}
use Rattle.book.specs.Rows.{capacity, rows_of, is_known, issue_held}
use Rattle.book.specs.Book.{Book, fresh_book, used_rows, well_formed}
use Rattle.book.specs.Store.{register_in_range, reading_call_in_range, has_no_room, registration_cause, reading_cause}
use Rattle.book.proofs.BookFormed.{fresh-book-formed}
use Rattle.cells.proofs.RowBounds.{book-bounds, book-few}
use Rattle.running.specs.Words.{slice_words}
use Rattle.running.specs.Running.{Running, cells_for, with_change, change_in, within_limits, is_short, running_formed, limit_cause}
use Rattle.running.proofs.KeptCells.{kept-long, kept-within, kept-changed, kept-zeros}
use Rattle.calls.specs.declared.Call.{Call}
use Rattle.calls.specs.declared.Call.TheVariants.{Register, Record, Set}
use Rattle.calls.specs.Calls.{Outcome, outcome, cause_after_test, call_cause, book_made, call_outcome, book_after, numbers_given}
use Rattle.calls.specs.Running.{running_made, running_cause, RunningOutcome, running_outcome, running_call, running_after, running_numbers, lent_well}
use Rattle.calls.proofs.CallFormed.{call-formed}
use Rattle.calls.proofs.ListOfCalls.{made-formed}

-- the book is well formed and the slice holds the sums over its rows, with these words after them
pub record Kept (later : List ℤ) (r : Running) : Type 0 where
  pub formed : well_formed r.book ≡ true
  pub cells_are : r.cells ≡ cells_for r.book.settings.shapes (used_rows r.book) ++ later

-- a call with the slice, beside the same call without it
pub record CallKept (later : List ℤ) (o : RunningOutcome) (alone : Outcome) : Type 0 where
  pub number : o.number ≡ alone.number
  pub book : o.running.book ≡ alone.book
  pub kept : Kept later o.running

-- the outcome of a call on a well-formed book, by the cause that is left
outcome-by : (b : Book) → well_formed b ≡ true → (c : Call) → call_outcome b c ≡ outcome (cause_after_test b c) (book_made b c) b
unfolding call_outcome call_cause
outcome-by b wf c = rw wf

module _ {later : List ℤ} {r : Running} (k : Kept later r) where
  -- such a slice is not short and passes no limit
  kept-not-short : is_short r.cells ≡ false
  kept-not-short = rw k.cells_are (le-ltb _ slice_words (kept-long r.book.settings.shapes (used_rows r.book) later))

  pub kept-in-limits : within_limits r.cells ≡ true
  kept-in-limits =
      rw k.cells_are
      (kept-within r.book.settings.shapes (used_rows r.book) later (book-bounds r.book k.formed) (book-few r.book k.formed))

module _ {later : List ℤ} {r : Running} (k : Kept later r) (c : Call) where
  cause-left : running_cause r c ≡ limit_cause (cause_after_test r.book c) (within_limits (running_made r c).cells)
  unfolding running_cause running_formed
  cause-left = rw (kept-not-short k, k.formed, kept-in-limits k)

  made_kept : well_formed (book_made r.book c) ≡ true → Kept later (running_made r c)
  unfolding change_in
  made_kept wf =
      let made = book_made r.book c in
      record {
        formed = wf;
        cells_are = ap (with_change (change_in r.book made)) k.cells_are
            ∙ kept-changed r.book.settings.shapes (used_rows r.book) later made.settings.shapes (used_rows made);
      }

  pub call_kept : CallKept later (running_call r c) (call_outcome r.book c)
  unfolding running_call running_outcome limit_cause outcome
  call_kept = rw (cause-left, outcome-by r.book k.formed c) (by (cause_after_test r.book c) refl)
    where
      by : (cause : ℕ) → cause_after_test r.book c ≡ cause
          → CallKept later (running_outcome (limit_cause cause (within_limits (running_made r c).cells)) (running_made r c) r) (outcome cause (book_made r.book c) r.book)
      by zero e = let made = made_kept (made-formed r k.formed c e) in rw (kept-in-limits made) (record { number = refl; book = refl; kept = made })
      by (suc n) e = record { number = refl; book = refl; kept = k }

-- a list of calls

pub list-kept : {later : List ℤ} {r : Running} → Kept later r → (calls : List Call) → Kept later (running_after r calls)
unfolding running_after
list-kept k [] = k
list-kept {later} {r} k (c ∷ calls) = list-kept {r = (running_call r c).running} (call_kept k c).kept calls

pub list-book : {later : List ℤ} {r : Running} → Kept later r → (calls : List Call) → (running_after r calls).book ≡ book_after r.book calls
unfolding running_after book_after
list-book k [] = refl
list-book {later} {r} k (c ∷ calls) = let step = call_kept k c in list-book {r = (running_call r c).running} step.kept calls ∙ ap (λ (b : Book). book_after b calls) step.book

pub list-numbers : {later : List ℤ} {r : Running} → Kept later r → (calls : List Call) → running_numbers r calls ≡ numbers_given r.book calls
unfolding running_numbers numbers_given
list-numbers k [] = refl
list-numbers {later} {r} k (c ∷ calls) =
    let step = call_kept k c in
    ap₂ (λ (n : ℕ) (ns : List ℕ). n ∷ ns) step.number (list-numbers {r = (running_call r c).running} step.kept calls ∙ ap (λ (b : Book). numbers_given b calls) step.book)

-- the numbers that a well-formed book gives are 0 and those of the causes after 1
chosen : (t : Bool) (cause rest : ℕ) → lent_well cause ≡ true → lent_well rest ≡ true → lent_well (refuse t cause rest) ≡ true
chosen true cause rest h k = h
chosen false cause rest h k = k

number-after-test : (b : Book) (c : Call) → lent_well (cause_after_test b c) ≡ true
unfolding cause_after_test registration_cause reading_cause setting_cause lent_well
number-after-test b (Register m r) =
    chosen (not (register_in_range m r)) argument_out_of_range _ refl
    (chosen (has_no_room (capacity b.rows) m (used_rows b)) capacity_reached accepted refl refl)
number-after-test b (Record m r) =
    chosen (not (reading_call_in_range m r)) argument_out_of_range _ refl
    (chosen (not (quality_allowed r)) quality_refused _ refl
    (chosen (not (is_known m (used_rows b))) meter_unknown _ refl
    (chosen (leb r.issue (issue_held m (used_rows b))) issue_not_above accepted refl refl)))
number-after-test b (Set x) = chosen (not (setting_in_range x)) argument_out_of_range accepted refl refl

outcome-number : (cause : ℕ) (made given : Book) → (outcome cause made given).number ≡ cause
unfolding outcome
outcome-number zero made given = refl
outcome-number (suc n) made given = refl

numbers-lent-well : (b : Book) → well_formed b ≡ true → (calls : List Call) → list_all lent_well (numbers_given b calls) ≡ true
unfolding numbers_given
numbers-lent-well b wf [] = refl
numbers-lent-well b wf (c ∷ calls) =
    let number : (call_outcome b c).number ≡ cause_after_test b c = ap (λ (o : Outcome). o.number) (outcome-by b wf c) ∙ outcome-number _ _ _ in
    ap₂ (λ (s t : Bool). s && t)
    (ap lent_well number ∙ number-after-test b c)
    (numbers-lent-well (call_outcome b c).book (call-formed b wf c) calls)

-- no call of a list is refused for the slice, nor for the book
pub list-lent-well : {later : List ℤ} {r : Running} → Kept later r → (calls : List Call) → list_all lent_well (running_numbers r calls) ≡ true
list-lent-well {later} {r} k calls = rw (list-numbers k calls) (numbers-lent-well r.book k.formed calls)

-- a fresh book with a slice whose first 836 words are 0
pub fresh_kept : (words : List ℕ) (cells : List ℤ) → take slice_words cells ≡ replicate slice_words (pos 0) → Kept (drop slice_words cells) (record { book = fresh_book words; cells = cells })
unfolding used_rows rows_of
fresh_kept words cells zeros = record { formed = fresh-book-formed words; cells_are = kept-zeros (fresh_book words).settings.shapes cells zeros }
