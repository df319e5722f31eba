-- a beginning of the bytes is in the writer, and `left` is the rest of them
use Rattle.settle_run.proofs.Streams.{Writing}
use Rattle.settle_run.proofs.output.write_out.Given as goal

abbrev pub invariant-loop : goal.invariant-loop
invariant-loop g l = Writing (g.W.Write.contents l.initial.writer) (g.W.Write.contents l.writer) l.fn.bytes l.left
