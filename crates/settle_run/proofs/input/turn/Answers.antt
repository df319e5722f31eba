-- `turn` takes what its attempt to read gave, and keeps what holds between two reads: a read of 1,024 bytes prints at most 51,200.
use Rattle.std.proofs.Common.{◌≤◌, [], length, take, arith}
use Rattle.std.proofs.KnownBytes.{Consumes-nil, Consumes-kept}
use Rattle.settle_run.specs.Program.{take_attempt, gave, again}
use Rattle.settle_run.proofs.Streams.{gave-none}
use Rattle.settle_run.proofs.input.turn.Goals as goal

pub returns-in-Ok-clause-streams : goal.returns-in-Ok-clause-streams
unfolding take_attempt
returns-in-Ok-clause-streams g c =
    let n = c.in-Ok.n in
    let chunk = c.read.new.buf in
    let some : n ≤ length chunk = omega (arith, c.in-Ok.ensures.bound) in
    let few : length (take n chunk) ≤ 1024 = omega (arith, c.in-Ok.ensures.bound) in
    let taken = rw c.clear_written.ensures at c.take_read.ensures in
    record {
      turned = record { attempt = gave (take n chunk); made = taken.made; room = omega (arith, few, taken.short) };
      went_on = λ e. cc;
      consumed = c.in-Ok.ensures.bytes.0;
      at_end = λ e. c.in-Ok.ensures.bytes.1 (gave-none n chunk some e) (omega arith);
      appended = c.in_ok-write_waiting.ensures.ok;
    }

pub returns-in-Err-clause-streams : goal.returns-in-Err-clause-streams
unfolding take_attempt
returns-in-Err-clause-streams g c =
    let written = c.clear_written-in-Err.ensures in
    record {
      turned = record { attempt = again; made = written; room = rw written (omega arith) };
      went_on = λ e. cc;
      consumed = Consumes-kept _ _ _ [] (Consumes-nil _) c.in-Err.ensures.bytes;
      at_end = λ e. absurd cc;
      appended = c.in_ok-write_waiting.ensures.ok;
    }
