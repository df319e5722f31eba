-- `exchange` meets its contract: the opposite of the old entry is added, and then the new one.
use Rattle.running.proofs.Exchanges.{all-exchanged, near-entry}
use Rattle.running.proofs.meters.exchange.Goals as goal

pub add_to-requires-2-clause-near : goal.add_to-requires-2-clause-near
add_to-requires-2-clause-near c =
    rw c.add_to.ensures (near-entry c.opposite.result c.args.cells.now 0 c.opposite.ensures.formed c.requires.near)

pub returns : goal.returns
returns c =
    rw (c.add_to-2.ensures, c.add_to.ensures, c.opposite.ensures.is) (all-exchanged c.args.old c.args.new c.args.cells.now)
