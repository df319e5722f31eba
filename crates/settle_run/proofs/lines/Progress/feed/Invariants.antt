-- `feed` takes the bytes one by one: those below the index are taken.
use Rattle.std.proofs.Common.{◌*◌, take}
use Rattle.settle_run.specs.Program.{by_cells, take_bytes}
use Rattle.settle_run.specs.Helpers.{Took}
use Rattle.settle_run.proofs.lines.Progress.feed.Given as goal

abbrev pub invariant-loop-byte : goal.invariant-loop-byte
invariant-loop-byte l = Took (take_bytes by_cells l.initial.self.work (take l.byte-index l.bytes)) (50 * l.byte-index) l.initial.self l.self
