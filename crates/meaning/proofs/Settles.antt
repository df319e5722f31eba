-- Demand 3: every whole list of calls from a fresh book, and the accepted allocation after it. Making the calls gives what the list means, an allocation
-- does not depend on the order of the meters, and an accepted one carries the Take with each volume under 1 Wh from its share and tells what its losses dropped. Assumes nothing.
use Prim.Native.Nat.{ℕ, ◌≤◌, ◌<◌}
use mathlib.Core.Path.{◌≡◌, refl, sym, ◌∙◌, ap, ap₂, subst, subst₂}
use mathlib.Core.Bool.{not}
use mathlib.Core.List.{List}
use borrow.Author.Tests.{le-ltb}
use lib.Dec.{ltb}
use lib.IntN.{ℤ, pos, nat_abs, ◌-ℤ◌, ◌*ℤ◌}
use lib.ListN.{length, get_or, take}
use Rattle.refusals.specs.Causes.{accepted}
use Rattle.refusals.proofs.Passed.{passed}
use Rattle.book.specs.declared.Settings.{Settings}
use Rattle.book.specs.Rows.{Row, capacity}
use Rattle.book.specs.Book.{Book, fresh_book, used_rows, well_formed}
use Rattle.book.proofs.BookFormed.{capacity-same}
use Rattle.calls.specs.declared.Call.{Call}
use Rattle.calls.specs.Calls.{book_after}
use Rattle.cells.specs.Cells.{units}
use Rattle.cells.proofs.Permuted.{Permuted, back, chain}
use Rattle.cells.proofs.Counted.{counts-total}
use Rattle.correction.specs.declared.UnitSums.{UnitSums}
use Rattle.correction.specs.Correction.{weighted_total}
use Rattle.correction.specs.Volumes.{volumes_of}
use Rattle.correction.proofs.Apportioned.{numerators_of}
use Rattle.allocation.specs.declared.Allocated.{Allocated}
use Rattle.allocation.specs.Losses.{LossesReconciled}
use Rattle.allocation.specs.Allocate.{all_unit_sums, meters_cause, allocation_cause, figures_of, allocate_call}
use Rattle.allocation.specs.Running.{allocate_running}
use Rattle.allocation.proofs.AnyOrder.{sums-any-order, cause-any-order, figures-any-order, reconciled-any-order}
use Rattle.allocation.proofs.Outcome.{sums_of, number-given, accepted-answer, accepted-losses, accepted-volumes, accepted-total, accepted-distance}
use Rattle.meaning.specs.Meaning.{meant_take, meant_mpans, meant_meters, meant_settings}
use Rattle.meaning.specs.Moves.{EarliestKept}
use Rattle.meaning.specs.Kept.{FreshCells}
use Rattle.meaning.specs.Demand.{allocation_after, rows_allocated, meant_sums, meant_numerators, counts_answered, ListSettled, AllocatedAlike, Demand3}
use Rattle.meaning.proofs.Means.{Means, length-meters}
use Rattle.meaning.proofs.Meant.{list-meant}
use Rattle.meaning.proofs.Moved.{moved-settings, moved-meters}
use Rattle.meaning.proofs.Moves.{earliest-kept}
use Rattle.meaning.proofs.Kept.{cells-kept, answer-same, volumes-same}

-- two books with the same settings, and the same meters in any order, are allocated alike
module _ (b c : Book) (same : b.settings ≡ c.settings) (p : Permuted Row (used_rows b) (used_rows c)) where
  alike-answer : figures_of b.settings (used_rows b) ≡ figures_of c.settings (used_rows c)
  alike-answer = figures-any-order p b.settings ∙ ap (λ (s : Settings). figures_of s (used_rows c)) same

  alike-sums : sums_of b ≡ sums_of c
  alike-sums = sums-any-order p b.settings ∙ ap (λ (s : Settings). all_unit_sums s (used_rows c)) same

  alike-cause : meters_cause b.settings (used_rows b) ≡ meters_cause c.settings (used_rows c)
  alike-cause = cause-any-order p b.settings ∙ ap (λ (s : Settings). meters_cause s (used_rows c)) same

-- an allocation without a cause has none in its settings and meters
no-cause : (b : Book) (slice : List ℤ) → allocation_cause b slice ≡ accepted → meters_cause b.settings (used_rows b) ≡ accepted
unfolding allocation_cause
no-cause b slice h = (passed (ltb (length slice) units) _ _ (passed (not (well_formed b)) _ _ h).1).1

module _ (words : List ℕ) (calls : List Call) where
  abbrev made : Book
  made = book_after (fresh_book words) calls

  means : Means words made calls
  means = list-meant words calls

  sums-meant : sums_of made ≡ meant_sums (capacity words) calls
  unfolding meant_sums
  sums-meant =
      sums-any-order means.meters-meant made.settings
      ∙ ap (λ (s : Settings). all_unit_sums s (meant_meters (capacity words) calls)) means.settings-meant

  figures-meant : figures_of made.settings (used_rows made) ≡ figures_of (meant_settings (capacity words) calls) (meant_meters (capacity words) calls)
  figures-meant =
      figures-any-order means.meters-meant made.settings
      ∙ ap (λ (s : Settings). figures_of s (meant_meters (capacity words) calls)) means.settings-meant

  take-meant : made.settings.take_wh ≡ meant_take calls
  unfolding meant_settings
  take-meant = ap (λ (s : Settings). s.take_wh) means.settings-meant

  module _ (slice : List ℤ) (h : (allocate_call made slice).answer.number ≡ accepted) where
    volumes-meant : take units (allocate_call made slice).volumes ≡ volumes_of (meant_take calls) (meant_sums (capacity words) calls)
    volumes-meant = accepted-volumes made slice h ∙ ap₂ volumes_of take-meant sums-meant

    distance-meant : (unit : ℕ) → unit < units
        → nat_abs
        (get_or (allocate_call made slice).volumes unit (pos 0) *ℤ weighted_total (meant_sums (capacity words) calls)
        -ℤ get_or (meant_numerators (capacity words) calls) unit (pos 0))
        < nat_abs (weighted_total (meant_sums (capacity words) calls))
    unfolding meant_numerators
    distance-meant unit k =
        subst₂
        (λ (t : ℤ) (sums : List UnitSums).
        nat_abs (get_or (allocate_call made slice).volumes unit (pos 0) *ℤ weighted_total sums -ℤ get_or (numerators_of t sums) unit (pos 0)) < nat_abs (weighted_total sums))
        take-meant sums-meant (accepted-distance made slice h unit k)

    answer-meant : (allocate_call made slice).answer ≡ figures_of (meant_settings (capacity words) calls) (meant_meters (capacity words) calls)
    answer-meant = accepted-answer made slice h ∙ figures-meant

    meters-counted : counts_answered (allocate_call made slice).answer ≡ length (meant_mpans (capacity words) calls)
    unfolding figures_of
    meters-counted =
        ap counts_answered answer-meant
        ∙ counts-total (meant_meters (capacity words) calls)
        ∙ length-meters (capacity words) calls

    losses-meant : LossesReconciled (meant_settings (capacity words) calls).shapes (meant_meters (capacity words) calls) (allocate_call made slice).answer.droppings
    losses-meant =
        subst (λ (s : Settings). LossesReconciled s.shapes (meant_meters (capacity words) calls) (allocate_call made slice).answer.droppings) means.settings-meant
        (reconciled-any-order means.meters-meant made.settings.shapes (accepted-losses made slice h))

-- a list whose readings stand elsewhere is accepted too, with the same answer and volumes
module _ (words : List ℕ) (calls : List Call) (slice : List ℤ) (h : (allocate_call (made words calls) slice).answer.number ≡ accepted)
    (words' : List ℕ) (calls' : List Call) (slice' : List ℤ) (long : length words' ≡ length words) (room : units ≤ length slice')
    (kept : EarliestKept (capacity words) calls calls') where
  same-capacity : capacity words' ≡ capacity words
  same-capacity = capacity-same words' words long

  same-settings : (made words' calls').settings ≡ (made words calls).settings
  same-settings =
      (means words' calls').settings-meant
      ∙ ap (λ (n : ℕ). meant_settings n calls') same-capacity
      ∙ sym (moved-settings (capacity words) kept.only-readings)
      ∙ sym (means words calls).settings-meant

  same-meters : Permuted Row (used_rows (made words' calls')) (used_rows (made words calls))
  same-meters =
      chain (means words' calls').meters-meant
      (subst (λ (ms : List Row). Permuted Row ms (used_rows (made words calls)))
      (moved-meters kept ∙ ap (λ (n : ℕ). meant_meters n calls') (sym same-capacity))
      (back (means words calls).meters-meant))

  also-accepted : (allocate_call (made words' calls') slice').answer.number ≡ accepted
  unfolding allocation_cause
  also-accepted =
      let cause : meters_cause (made words' calls').settings (used_rows (made words' calls')) ≡ accepted =
      alike-cause (made words' calls') (made words calls) same-settings same-meters ∙ no-cause (made words calls) slice (sym (number-given (made words calls) slice) ∙ h) in
      number-given (made words' calls') slice'
      ∙ rw ((means words' calls').formed, le-ltb (length slice') units room) cause

  moved-answer : (allocate_call (made words' calls') slice').answer ≡ (allocate_call (made words calls) slice).answer
  moved-answer =
      accepted-answer (made words' calls') slice' also-accepted
      ∙ alike-answer (made words' calls') (made words calls) same-settings same-meters
      ∙ sym (accepted-answer (made words calls) slice h)

  moved-volumes : take units (allocate_call (made words' calls') slice').volumes ≡ take units (allocate_call (made words calls) slice).volumes
  moved-volumes =
      accepted-volumes (made words' calls') slice' also-accepted
      ∙ ap₂ volumes_of (ap (λ (s : Settings). s.take_wh) same-settings) (alike-sums (made words' calls') (made words calls) same-settings same-meters)
      ∙ sym (accepted-volumes (made words calls) slice h)

  -- on cells that are 0 at the start
  module _ (cells : List ℤ) (fresh : FreshCells cells) (cells' : List ℤ) (fresh' : FreshCells cells') where
    alike : AllocatedAlike (allocation_after words cells calls slice) (allocation_after words' cells' calls' slice')
    unfolding rows_allocated
    alike =
        let second = answer-same words' cells' fresh' calls' slice' in
        record {
          accepted-too = ap (λ (a : Allocated). a.number) second ∙ also-accepted;
          same_answer = second ∙ moved-answer ∙ sym (answer-same words cells fresh calls slice);
          same-volumes = ap (take units) (volumes-same words' cells' fresh' calls' slice') ∙ moved-volumes ∙ sym (ap (take units) (volumes-same words cells fresh calls slice));
        }

-- what it says of one list
list-settled : (words : List ℕ) (calls : List Call) (slice : List ℤ) → (allocate_call (made words calls) slice).answer.number ≡ accepted
    → ListSettled words calls (allocate_call (made words calls) slice).answer (allocate_call (made words calls) slice).volumes
list-settled words calls slice h =
    record {
      total = accepted-total (made words calls) slice h ∙ take-meant words calls;
      volumes = volumes-meant words calls slice h;
      figures = answer-meant words calls slice h;
      distance = distance-meant words calls slice h;
      meters = meters-counted words calls slice h;
      losses = losses-meant words calls slice h;
    }

-- the theorem
pub demand-3 : Demand3
unfolding Demand3 rows_allocated allocation_after allocate_running
demand-3 words cells fresh calls slice =
    let answer = answer-same words cells fresh calls slice in
    let volumes = volumes-same words cells fresh calls slice in
    let by_rows : (allocation_after words cells calls slice).answer.number ≡ accepted → (allocate_call (made words calls) slice).answer.number ≡ accepted =
    λ h. sym (ap (λ (a : Allocated). a.number) answer) ∙ h in
    record {
      kept = cells-kept words cells fresh calls;
      same_answer = answer;
      same-volumes = volumes;
      nothing-changed = refl;
      demanded = λ h. record {
        settled = subst₂ (ListSettled words calls) (sym answer) (sym volumes) (list-settled words calls slice (by_rows h));
        moved = λ words' cells' calls' slice' long fresh' room same.
            alike words calls slice (by_rows h) words' calls' slice' long room (earliest-kept same) cells fresh cells' fresh';
        moved-further = λ words' cells' calls' slice' long fresh' room same.
            alike words calls slice (by_rows h) words' calls' slice' long room same cells fresh cells' fresh';
      };
    }
