-- `Entry::opposite` meets its contract: each amount is far inside an i64, so that it can be turned.
use Rattle.running.proofs.Amounts.{turned-read}
use Rattle.running.proofs.meters.Entry.opposite.Goals as goal

pub returns-clause-is : goal.returns-clause-is
returns-clause-is c =
    let e = c.args.self in
    let ok = c.requires in
    rw (
      turned-read e.thousandths ok.thousandths-bound,
      turned-read e.loss ok.loss-bound,
      turned-read e.meters ok.meters-bound,
      turned-read e.waiting ok.waiting-bound,
    )
