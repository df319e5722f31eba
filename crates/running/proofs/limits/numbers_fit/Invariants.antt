-- After i numbers their bits tell whether each of these is in its range.
use mathlib.Core.Path.{◌≡◌}
use lib.Dec.{leb}
use lib.ListN.{drop}
use Rattle.running.specs.Words.{cell_words}
use Rattle.running.specs.Running.{all_numbers}
use Rattle.running.proofs.limits.numbers_fit.Given as goal

abbrev pub invariant-loop-number : goal.invariant-loop-number
invariant-loop-number l = leb l.bits 4294967295 ≡ all_numbers l.number-index (drop cell_words l.cells)
