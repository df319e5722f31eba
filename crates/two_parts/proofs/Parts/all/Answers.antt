-- The rows of both parts are those that they stand for, in another order. Assumes nothing.
use Rattle.two_parts.proofs.PartsSum.{in-any-order}
use Rattle.two_parts.proofs.Parts.all.Goals as goal

pub returns : goal.returns
returns c = rw (c.first_rows.ensures.rows, c.meters.ensures) (in-any-order c.args.self.now.ready)
