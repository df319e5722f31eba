-- The program worked from the rows alone, as document 01 works its calls and its allocation: the cells have no part in it.
use Rattle.std.specs.Prelude.{List, ℤ}
use Rattle.calls.specs.Calls.{Outcome, call_outcome}
use Rattle.calls.specs.Running.{RunningOutcome}
use Rattle.allocation.specs.Allocate.{Allocation, allocate_call}
use Rattle.allocation.specs.Running.{RunningAllocation}
use Rattle.settle_run.specs.Program.{Way}

-- the cells are left as they are
abbrev pub call_beside : List ℤ → Outcome → RunningOutcome
call_beside cells o = record { number = o.number; running = record { book = o.book; cells = cells } }

abbrev pub allocation_beside : List ℤ → Allocation → RunningAllocation
allocation_beside cells o = record { answer = o.answer; running = record { book = o.book; cells = cells }; volumes = o.volumes }

unfoldable pub by_rows : Way
by_rows =
    record {
      call = λ r c. call_beside r.cells (call_outcome r.book c);
      allocation = λ r volumes. allocation_beside r.cells (allocate_call r.book volumes);
    }
