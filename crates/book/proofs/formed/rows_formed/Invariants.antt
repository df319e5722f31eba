-- `rows_formed` is the test of the rows: those from a row on, after the MPAN before them, decide. Assumes nothing.
use Rattle.book.proofs.RowsFormed.{RowsLeft}
use Rattle.book.proofs.formed.rows_formed.Given as goal

abbrev pub invariant-loop-mpan : goal.invariant-loop-mpan
invariant-loop-mpan l = RowsLeft l.rows l.before l.mpan-index
