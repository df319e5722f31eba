-- What the functions of an allocation are held to: the answers in which its outcomes are given, and its causes.
use Rattle.std.specs.Prelude.{ℕ, ◌≡◌, not, Result, Ok, Err, List, ℤ}
use Rattle.refusals.specs.Causes.{refuse, accepted, book_ill_formed, cells_short}
use Rattle.refusals.specs.declared.Refusal.{Refusal}
use Rattle.refusals.specs.Refusal.{number_of}
use Rattle.book.specs.declared.Settings.{Settings}
use Rattle.running.specs.Running.{is_short, within_limits}
use Rattle.allocation.specs.declared.Allocated.{Allocated}
use Rattle.allocation.specs.declared.AllocationAnswer.{AllocationAnswer}
use Rattle.allocation.specs.declared.Figures.{Figures}
use Rattle.allocation.specs.Allocate.{refused_with}
use Rattle.allocation.specs.Running.{slice_cause, slice_answer, slice_volumes}

-- the answer in which an outcome is given: the figures of an acceptance, and zeros beside a refusal's number
abbrev pub allocated_of : Result Figures Refusal → Allocated
allocated_of (Ok x) =
    record {
      number = accepted;
      unallocated = x.corrected.unallocated;
      weighted = x.corrected.weighted;
      actual = x.counts.actual;
      estimated = x.counts.estimated;
      defaulted = x.counts.defaulted;
      idle = x.counts.idle;
      droppings = x.droppings;
    }
allocated_of (Err refusal) = refused_with (number_of refusal)

-- the answer to an allocation of a book that has these settings
abbrev pub allocation_answer : Settings → Result Figures Refusal → AllocationAnswer
allocation_answer s outcome = record { answer = allocated_of outcome; settings = s }

-- 13 and 1 of the slice alone, and then those of a slice that was tested: the causes of a book that is known to be well formed
abbrev pub formed_cause : Settings → List ℤ → List ℤ → ℕ
formed_cause s cells volumes =
    refuse (is_short cells) cells_short
    (refuse (not (within_limits cells)) book_ill_formed
    (slice_cause s cells volumes))

-- the answer and the volume slice afterwards are those that this cause leaves
pub record AllocatedBy (cause : ℕ) (s : Settings) (cells before : List ℤ) (answer : Allocated) (after : List ℤ) : Type 0 where
  pub answer-is : answer ≡ slice_answer cause s cells
  pub volumes-are : after ≡ slice_volumes cause s cells before
