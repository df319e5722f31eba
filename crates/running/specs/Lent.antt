-- Running cells as calls have them: the slice that they stand in, and its words.
use Rattle.std.specs.Prelude.{ℕ, List, ℤ}
use Rattle.running.specs.declared.RunningCells.{RunningCells}

abbrev pub lent_slice : RunningCells → ℕ
lent_slice x = x.cells.ghost_name

abbrev pub lent_cells : RunningCells → List ℤ
lent_cells x = x.cells.now
