-- what the writer holds stays known
use Rattle.std.specs.Io.KnownBytes.{Keeps}
use Rattle.settle_run.proofs.output.pass_on.Given as goal

abbrev pub invariant-loop : goal.invariant-loop
invariant-loop g l = Keeps (g.W.Write.contents l.initial.writer) (g.W.Write.contents l.writer)
