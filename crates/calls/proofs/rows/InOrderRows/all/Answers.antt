-- The rows in order are those of their book. Assumes nothing.
use Rattle.calls.proofs.InOrder.{all-in-order}
use Rattle.calls.proofs.rows.InOrderRows.all.Goals as goal

pub returns : goal.returns
returns c = all-in-order c.requires c.first_rows.ensures.rows
