-- `make_each` leaves what making the calls one by one leaves: those before `i` are made, and the book is well formed, which the next call keeps. Assumes nothing.
use Rattle.running.specs.Running.{running_of}
use Rattle.running.specs.Lent.{lent_cells}
use Rattle.listing.proofs.InParts.{MadeInParts}
use Rattle.listing.proofs.list.make_each.Given as goal

abbrev pub invariant-loop-i : goal.invariant-loop-i
invariant-loop-i l = MadeInParts (running_of l.initial.made l.fn.rows (lent_cells l.initial.cells)) l.calls l.initial.numbers l.i l.made l.initial.parts l.parts l.initial.cells l.cells l.numbers
