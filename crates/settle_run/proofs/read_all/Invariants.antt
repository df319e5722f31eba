-- What holds between two reads holds after each.
use Rattle.settle_run.specs.Helpers.{Read}
use Rattle.settle_run.proofs.Streams.{Underway}
use Rattle.settle_run.proofs.read_all.Given as goal

abbrev pub invariant-loop : goal.invariant-loop
invariant-loop g l =
    record {
      read : Read l.initial.progress l.progress;
      streams : Underway l.initial.progress l.progress (g.R.Read.remaining l.initial.reader) (g.R.Read.remaining l.reader) (g.W.Write.contents l.initial.writer) (g.W.Write.contents l.writer);
    }
