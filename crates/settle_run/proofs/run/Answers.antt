-- `run` prints what its whole input prints, and, where a read or a write fails, a beginning of that.
use Rattle.std.proofs.Common.{replicate, pos}
use Rattle.std.proofs.lemmas.Result.{on_ok_weaker, on_err_weaker}
use Rattle.settle_run.proofs.Streams.{on_err, settled, broken_at_last, broken-before}
use Rattle.settle_run.proofs.run.Goals as goal

pub returns-in_err-read_all-clause-err : goal.returns-in_err-read_all-clause-err
returns-in_err-read_all-clause-err g c =
    on_err c.from_residual.result (broken-before (replicate 1536 0) (replicate 836 (pos 0)) (rw c.fresh-progress.ensures at c.in_err-read_all.ensures.begun))

pub returns-clause-ok : goal.returns-clause-ok
returns-clause-ok g c =
    let streams = rw c.fresh-progress.ensures at c.in_ok-read_all.ensures.streams in
    on_ok_weaker c.flush.result (settled (replicate 1536 0) (replicate 836 (pos 0)) _ streams c.finish.ensures.text) c.flush.ensures.ok

pub returns-clause-err : goal.returns-clause-err
returns-clause-err g c =
    let streams = rw c.fresh-progress.ensures at c.in_ok-read_all.ensures.streams in
    on_err_weaker c.flush.result (broken_at_last (replicate 1536 0) (replicate 836 (pos 0)) _ streams c.finish.ensures.text) c.flush.ensures.err
