use Rattle.std.proofs.Common.{◌≡◌, true, [], refl}
use Rattle.settle_run.specs.Program.{is_reading, take_attempts}
use Rattle.settle_run.proofs.Attempts.{once_more}
use Rattle.settle_run.proofs.Streams.{on_err, setting_out, turned_once, broken}
use Rattle.settle_run.proofs.read_all.Goals as goal

pub loop-init : goal.loop-init
unfolding take_attempts
loop-init g c =
    record {
      read = record { attempts = []; work = refl; room = c.requires };
      streams = setting_out _ _ _;
    }

pub loop-preserved : goal.loop-preserved
loop-preserved g c =
    let reads : is_reading c.loop.progress.work.phase ≡ true = cc in
    record {
      read = once_more c.loop.invariant.read c.in_ok-turn.ensures.streams.turned;
      streams = turned_once reads c.loop.invariant.streams c.in_ok-turn.ensures.streams;
    }

pub returns-in_err-turn-clause-begun : goal.returns-in_err-turn-clause-begun
returns-in_err-turn-clause-begun g c =
    on_err c.from_residual.result (broken c.loop.invariant.streams c.in_err-turn.ensures.begun.0 c.in_err-turn.ensures.begun.1)
