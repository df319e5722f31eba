-- What is left of the shapes and of the waiting numbers decides.
use Rattle.std.proofs.Common.{◌≡◌}
use Rattle.allocation.specs.Running.{any_waits, slice_lacks}
use Rattle.allocation.proofs.allocate.any_waits.Given as goal

abbrev pub invariant-loop-shape : goal.invariant-loop-shape
invariant-loop-shape l = slice_lacks l.fn.shapes l.fn.cells ≡ any_waits l.shape-iterator.a.rest.now l.shape-iterator.b.rest.now
