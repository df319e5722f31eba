-- `put_volumes` prints the volumes one by one: those below `unit` are printed.
use Rattle.std.proofs.Common.{◌*◌, take}
use Rattle.report.specs.Lines.{volume_lines}
use Rattle.report.specs.Helpers.{Puts}
use Rattle.report.proofs.lines.put_volumes.Given as goal

abbrev pub invariant-loop-unit : goal.invariant-loop-unit
invariant-loop-unit g l = Puts (50 * l.unit) (volume_lines 0 (take l.unit l.volumes)) l.initial.out l.out
