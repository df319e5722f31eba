-- `add_rows` meets its contract: after i rows the first words are the totals of the first i rows, and a turn is one meter more. Assumes nothing.
use mathlib.Core.Path.{◌≡◌}
use mathlib.Core.List.{◌++◌, map}
use lib.ListN.{take, drop}
use Rattle.book.specs.Rows.{first_row}
use Rattle.totals.specs.Totals.{totals_words, totals_of}
use Rattle.totals.proofs.totals.add_rows.Given as goal

abbrev pub invariant-loop-registration : goal.invariant-loop-registration
invariant-loop-registration l = l.totals ≡ totals_of l.shapes (map first_row (take l.registration-index l.rows)) l.asked.direction l.asked.network ++ drop totals_words l.initial.totals
