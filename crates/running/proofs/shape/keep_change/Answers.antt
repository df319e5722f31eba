-- `keep_change` meets its contract, by whether the limit would be passed. Assumes nothing.
use Rattle.running.proofs.ChangeKept.{passes-limit, fits-limit}
use Rattle.running.proofs.shape.keep_change.Goals as goal

pub returns-then-most-gt-CELL_SIZES_MAX : goal.returns-then-most-gt-CELL_SIZES_MAX
returns-then-most-gt-CELL_SIZES_MAX c = passes-limit _ _ c.requires.change c.requires.ready c.changed_sizes-most.ensures c.if-most-gt-CELL_SIZES_MAX.true

pub returns : goal.returns
returns c = fits-limit _ _ c.requires.change c.requires.ready c.changed_sizes-most.ensures c.if-most-gt-CELL_SIZES_MAX.false c.add_change.ensures
