use Rattle.std.proofs.Common.{arith}
use Rattle.std.proofs.lemmas.Grind.{common_steps}
use Rattle.settle_run.proofs.Streams.{on_err, none-written, written_on, some-kept}
use Rattle.settle_run.proofs.output.write_out.Goals as goal

pub loop-init : goal.loop-init
loop-init g c = none-written _ _

pub loop-preserved : goal.loop-preserved
loop-preserved g c = written_on _ _ _ _ _ _ _ c.loop.invariant c.in_ok-n.ensures.written (grind (arith, common_steps))

pub returns-in_err-n-clause-err : goal.returns-in_err-n-clause-err
returns-in_err-n-clause-err g c = on_err c.from_residual.result (some-kept _ _ _ _ c.loop.invariant.some c.in_err-n.ensures.err)
