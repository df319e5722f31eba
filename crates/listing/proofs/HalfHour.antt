-- A fresh book, a list and the allocation after it, from what the two calls give.
use Prim.Native.Nat.{ℕ, zero, suc}
use mathlib.Core.Path.{◌≡◌, refl, sym, ◌∙◌, ap}
use mathlib.Core.Bool.{true}
use mathlib.Core.List.{List}
use lib.IntN.{ℤ}
use Rattle.std.specs.Prelude.{Result, Ok, Err}
use Rattle.refusals.specs.declared.Refusal.{Refusal}
use Rattle.refusals.specs.Causes.{accepted}
use Rattle.refusals.specs.Refusal.{number_of}
use Rattle.refusals.proofs.Numbers.{not-accepted}
use Rattle.book.specs.declared.Settings.{Settings}
use Rattle.book.specs.Settings.{fresh_settings, settings_formed}
use Rattle.book.specs.Book.{lent, well_formed}
use Rattle.book.specs.Helpers.{answer_of}
use Rattle.book.proofs.WellFormed.{formed-book}
use Rattle.book.proofs.BookFormed.{fresh-book-formed}
use Rattle.running.specs.Running.{Running, running_of}
use Rattle.calls.specs.declared.Call.{Call}
use Rattle.calls.proofs.ListOfCalls.{list-formed}
use Rattle.allocation.specs.declared.Allocated.{Allocated}
use Rattle.allocation.specs.declared.Figures.{Figures}
use Rattle.allocation.specs.Allocate.{refused_with}
use Rattle.allocation.specs.Running.{RunningAllocation, allocate_running}
use Rattle.allocation.specs.Helpers.{allocated_of, allocation_answer, formed_cause, AllocatedBy}
use Rattle.allocation.proofs.RunningWays.{formed-running}
use Rattle.meaning.specs.Kept.{fresh_running, listed_running}
use Rattle.meaning.specs.Demand.{allocation_after, ListSettled, Demanded, Demand3}
use Rattle.meaning.proofs.Settles.{demand-3}
use Rattle.listing.specs.Listed.{calls_in, list_cause, ListOutcome, list_outcome, list_call, ListGives}
use Rattle.listing.specs.Settle.{SettleOutcome, settle_outcome, settle_call, SettleGives}

-- demand 3 of an answer and of volumes that are those of the allocation
settled-as : (words : List ℕ) (cells : List ℤ) (calls : List Call) (slice : List ℤ) (answer : Allocated) (after : List ℤ)
    → answer ≡ (allocation_after words cells calls slice).answer → after ≡ (allocation_after words cells calls slice).volumes → Demanded words cells calls slice → ListSettled words calls answer after
settled-as words cells calls slice answer after a v s = rw (a, v) s.settled

-- the number of a list is its cause
list-number : (r : Running) (ws numbers : List ℕ) → (list_call r ws numbers).number ≡ list_cause ws numbers
unfolding list_call list_outcome
list-number r ws numbers = by (list_cause ws numbers)
  where
    by : (cause : ℕ) → (list_outcome cause r ws numbers).number ≡ cause
    by zero = refl
    by (suc k) = refl

module _ (words : List ℕ) (cells : List ℤ) (ws numbers : List ℕ) (slice : List ℤ) (rows' : List ℕ) (cells' : List ℤ) (numbers' : List ℕ) where
  -- a list that is refused
  pub half-hour-refused : (refusal : Refusal) → ListGives (list_call (fresh_running words cells) ws numbers) (answer_of fresh_settings (Err refusal)) rows' cells' numbers'
      → SettleGives words cells ws numbers slice (allocation_answer fresh_settings (Err refusal)) rows' cells' numbers' slice
  unfolding list_call list_outcome settle_call settle_outcome
  half-hour-refused refusal given = by (list_cause ws numbers) refl
    where
      number : number_of refusal ≡ list_cause ws numbers
      number = given.number ∙ list-number (fresh_running words cells) ws numbers

      by : (cause : ℕ) → list_cause ws numbers ≡ cause → SettleGives words cells ws numbers slice (allocation_answer fresh_settings (Err refusal)) rows' cells' numbers' slice
      by zero e = absurd (not-accepted refusal (number ∙ e))
      by (suc k) e =
          let list = ap (λ (c : ℕ). list_outcome c (fresh_running words cells) ws numbers) e in
          let whole = ap (λ (c : ℕ). settle_outcome c words cells ws numbers slice) e in
          record {
            answer = ap refused_with (number ∙ e) ∙ sym (ap (λ (o : SettleOutcome). o.answer) whole);
            settings = sym (ap (λ (o : SettleOutcome). o.running.book.settings) whole);
            rows = given.rows ∙ ap (λ (o : ListOutcome). o.running.book.rows) list ∙ sym (ap (λ (o : SettleOutcome). o.running.book.rows) whole);
            cells_are = given.cells ∙ ap (λ (o : ListOutcome). o.running.cells) list ∙ sym (ap (λ (o : SettleOutcome). o.running.cells) whole);
            numbers-given = given.numbers ∙ ap (λ (o : ListOutcome). o.numbers) list ∙ sym (ap (λ (o : SettleOutcome). o.numbers) whole);
            volumes = sym (ap (λ (o : SettleOutcome). o.volumes) whole);
            settled = λ fresh z. absurd (not-accepted refusal z);
          }

  -- a list that is made, and the allocation after it
  module _ (settings : Settings) (given : ListGives (list_call (fresh_running words cells) ws numbers) (answer_of fresh_settings (Ok settings)) rows' cells' numbers') where
    accepted-list : accepted ≡ list_cause ws numbers
    accepted-list = given.number ∙ list-number (fresh_running words cells) ws numbers

    list-is : list_call (fresh_running words cells) ws numbers ≡ list_outcome accepted (fresh_running words cells) ws numbers
    unfolding list_call
    list-is = ap (λ (c : ℕ). list_outcome c (fresh_running words cells) ws numbers) (sym accepted-list)

    whole_is : settle_call words cells ws numbers slice ≡ settle_outcome accepted words cells ws numbers slice
    unfolding settle_call
    whole_is = ap (λ (c : ℕ). settle_outcome c words cells ws numbers slice) (sym accepted-list)

    running-made : running_of settings rows' cells' ≡ listed_running words cells (calls_in ws)
    unfolding list_outcome
    running-made =
        rw (given.settings, given.rows, given.cells)
        (ap (λ (o : ListOutcome). o.running) list-is)

    -- whatever cells are lent
    book-so : well_formed (lent settings rows') ≡ true
    book-so = ap (λ (r : Running). well_formed r.book) running-made ∙ list-formed (fresh_running words cells) (fresh-book-formed words) (calls_in ws)

    pub half-hour-formed : settings_formed settings ≡ true
    half-hour-formed = (formed-book (lent settings rows') book-so).settings-formed

    pub half-hour-allocated : (outcome : Result Figures Refusal) (after : List ℤ) → AllocatedBy (formed_cause settings cells' slice) settings cells' slice (allocated_of outcome) after
        → SettleGives words cells ws numbers slice (allocation_answer settings outcome) rows' cells' numbers' after
    unfolding list_outcome settle_outcome allocation_after Demand3
    half-hour-allocated outcome after made =
        let gives = formed-running settings rows' cells' slice book-so outcome made in
        let call = ap (λ (r : Running). allocate_running r slice) running-made in
        let answered = gives.answer ∙ ap (λ (o : RunningAllocation). o.answer) call in
        let written = gives.volumes ∙ ap (λ (o : RunningAllocation). o.volumes) call in
        record {
          answer = answered ∙ sym (ap (λ (o : SettleOutcome). o.answer) whole_is);
          settings = ap (λ (r : Running). r.book.settings) running-made ∙ sym (ap (λ (o : SettleOutcome). o.running.book.settings) whole_is);
          rows = ap (λ (r : Running). r.book.rows) running-made ∙ sym (ap (λ (o : SettleOutcome). o.running.book.rows) whole_is);
          cells_are = ap (λ (r : Running). r.cells) running-made ∙ sym (ap (λ (o : SettleOutcome). o.running.cells) whole_is);
          numbers-given = given.numbers ∙ ap (λ (o : ListOutcome). o.numbers) list-is ∙ sym (ap (λ (o : SettleOutcome). o.numbers) whole_is);
          volumes = written ∙ sym (ap (λ (o : SettleOutcome). o.volumes) whole_is);
          settled = λ fresh z.
              settled-as words cells (calls_in ws) slice (allocated_of outcome) after answered written
              ((demand-3 words cells fresh (calls_in ws) slice).demanded (sym (ap (λ (x : Allocated). x.number) answered) ∙ z));
        }
