-- How the contracts of the functions speak: what is held, and the text that waits.
use Rattle.std.specs.Prelude.{◌≡◌, ℕ, ◌+◌, ◌≤◌, List, length}
use Rattle.settle_run.specs.Program.{Step, after, Attempt, by_cells, take_attempt, take_attempts}

-- a step was made, and its text, of at most so many bytes, stands behind what waited
pub record Took (step : Step) (most : ℕ) (before now : Step) : Type 0 where
  pub made : now ≡ after before.text step
  pub short : length now.text ≤ length before.text + most

-- what holds between two reads: what waits leaves room for the end of the input
abbrev pub HasRoom : Step → Type 0
HasRoom now = length now.text ≤ 51200

-- what one turn leaves: what some attempt to read leaves, once what waited is written. Which bytes a read gives is not known here.
pub record Turned (before now : Step) : Type 0 where
  pub attempt : Attempt
  pub made : now ≡ take_attempt by_cells before.work attempt
  pub room : HasRoom now

-- what all turns leave: the work is that of some attempts
pub record Read (before now : Step) : Type 0 where
  pub attempts : List Attempt
  pub work : now.work ≡ take_attempts by_cells before.work attempts
  pub room : HasRoom now
