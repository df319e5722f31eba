-- The ways of the allocate call that a book's slice of running cells is lent to: causes 13 and 1, and what the allocation of a tested slice leaves.
use Prim.Native.Nat.{ℕ, ◌≤◌}
use mathlib.Core.Path.{◌≡◌, refl, sym, ap, ◌∙◌}
use mathlib.Core.Bool.{true}
use mathlib.Core.List.{List}
use borrow.Author.Tests.{le-ltb, ltb-false}
use lib.IntN.{ℤ}
use lib.ListN.{length}
use Rattle.std.proofs.Common.{Result, Ok, Err}
use Rattle.refusals.specs.declared.Refusal.{Refusal}
use Rattle.refusals.specs.declared.Refusal.TheVariants.{BookIllFormed, CellsShort}
use Rattle.words.proofs.Tests.{by-test}
use Rattle.book.specs.declared.Settings.{Settings}
use Rattle.book.specs.Settings.{settings_formed}
use Rattle.book.specs.Book.{well_formed, lent}
use Rattle.book.proofs.WellFormed.{formed-book}
use Rattle.running.specs.Words.{slice_words}
use Rattle.running.specs.Running.{Running, running_of, within_limits, is_short, running_formed}
use Rattle.running.specs.Helpers.{slice_tested, lent_tested}
use Rattle.running.proofs.TestedFirst.{LentWell, refused-first, passed-well}
use Rattle.allocation.specs.declared.Figures.{Figures}
use Rattle.allocation.specs.Running.{slice_cause, slice_answer, slice_volumes, running_allocation_cause, allocate_running, RunningAllocationGives}
use Rattle.allocation.specs.Helpers.{allocated_of, allocation_answer, formed_cause, AllocatedBy}
use Rattle.allocation.proofs.SliceWays.{refused-by}

-- a slice that is tested beside settings that are well formed
module _ (s : Settings) (cells volumes : List ℤ) where
  pub formed-refused : (r : Refusal) → slice_tested cells ≡ Err r → AllocatedBy (formed_cause s cells volumes) s cells volumes (allocated_of (Err r)) volumes
  formed-refused r e =
      by-test (is_short cells)
      (λ t. let same : CellsShort ≡ r = cc (rw t at e) in rw (t, ← same) (refused-by s cells volumes CellsShort refl))
      (λ t.
      by-test (within_limits cells)
      (λ w. absurd (cc (rw (t, w) at e)))
      (λ w. let same : BookIllFormed ≡ r = cc (rw (t, w) at e) in rw (t, w, ← same) (refused-by s cells volumes BookIllFormed refl)))

  slice-passed : {size : ℕ} → slice_tested cells ≡ Ok size → (slice_words ≤ length cells) × (within_limits cells ≡ true)
  slice-passed e =
      by-test (is_short cells)
      (λ t. absurd (cc (rw t at e)))
      (λ t. (ltb-false (length cells) slice_words t, by-test (within_limits cells) (λ w. w) (λ w. absurd (cc (rw (t, w) at e)))))

  pub formed-allocated : {size : ℕ} → slice_tested cells ≡ Ok size → (outcome : Result Figures Refusal) {after : List ℤ} → AllocatedBy (slice_cause s cells volumes) s cells volumes (allocated_of outcome) after
      → AllocatedBy (formed_cause s cells volumes) s cells volumes (allocated_of outcome) after
  formed-allocated e outcome a = let h = slice-passed e in rw (le-ltb (length cells) slice_words h.0, h.1) a

module _ (s : Settings) (words : List ℕ) (cells volumes : List ℤ) where
  abbrev running : Running
  running = running_of s words cells

  -- what a cause leaves is what the allocate call leaves, if the cause is its own
  by-cause : (outcome : Result Figures Refusal) {after : List ℤ} {cause : ℕ} → cause ≡ running_allocation_cause running volumes
      → AllocatedBy cause s cells volumes (allocated_of outcome) after
      → RunningAllocationGives (allocate_running running volumes) (allocation_answer s outcome) words cells after
  unfolding allocate_running
  by-cause outcome e a =
      record {
        answer = a.answer-is ∙ ap (λ (k : ℕ). slice_answer k s cells) e;
        settings = refl;
        rows = refl;
        cells = refl;
        volumes = a.volumes-are ∙ ap (λ (k : ℕ). slice_volumes k s cells volumes) e;
      }

  -- a book that is known to be well formed needs no test but that of its slice
  pub formed-running : well_formed (lent s words) ≡ true → (outcome : Result Figures Refusal) {after : List ℤ} → AllocatedBy (formed_cause s cells volumes) s cells volumes (allocated_of outcome) after
      → RunningAllocationGives (allocate_running running volumes) (allocation_answer s outcome) words cells after
  unfolding running_allocation_cause running_formed
  formed-running wf outcome = by-cause outcome (rw wf)

  pub running-refused : (r : Refusal) → lent_tested running ≡ Err r → RunningAllocationGives (allocate_running running volumes) (allocation_answer s (Err r)) words cells volumes
  unfolding running_allocation_cause
  running-refused r e = by-cause (Err r) refl (refused-by s cells volumes r (refused-first running r e (slice_cause s cells volumes)))

  module _ {size : ℕ} (tested : lent_tested running ≡ Ok size) where
    well : LentWell running size
    well = passed-well running tested

    -- what the allocation of the slice asks for
    pub settings-well : settings_formed s ≡ true
    settings-well = (formed-book (lent s words) well.formed).settings-formed

    pub cells-within : within_limits cells ≡ true
    cells-within = well.ready.within

    pub running-allocated : (outcome : Result Figures Refusal) {after : List ℤ} → AllocatedBy (slice_cause s cells volumes) s cells volumes (allocated_of outcome) after
        → RunningAllocationGives (allocate_running running volumes) (allocation_answer s outcome) words cells after
    unfolding running_allocation_cause
    running-allocated outcome = by-cause outcome (sym (well.first (slice_cause s cells volumes)))
