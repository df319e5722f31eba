-- `Entry::add_to` meets its contract: its four words are changed one after the other, and no slice on the way is far from the limits.
use native.Mathlib.Omega.{arith}
use Rattle.running.proofs.Amounts.{read}
use Rattle.running.proofs.Near.{near-more}
use Rattle.running.proofs.Exchanges.{energy_added, loss_added, all-added, near-energy, near-loss, near-count}
use Rattle.running.proofs.meters.Entry.add_to.Goals as goal

pub add_word-requires-2-clause-near : goal.add_word-requires-2-clause-near
add_word-requires-2-clause-near c =
    let e = c.args.self in
    let ok = c.requires.formed in
    let cells = c.args.cells.now in
    rw (c.add_word.ensures, read e.thousandths ok.thousandths-bound)
    (near-more (energy_added e cells) 5 7 (omega arith) (near-energy e cells 4 ok c.requires.near))

pub add_word-requires-3-clause-near : goal.add_word-requires-3-clause-near
add_word-requires-3-clause-near c =
    let e = c.args.self in
    let ok = c.requires.formed in
    let cells = c.args.cells.now in
    rw (c.add_word-2.ensures, c.add_word.ensures, read e.thousandths ok.thousandths-bound, read e.loss ok.loss-bound)
    (near-more (loss_added e cells) 6 7 (omega arith) (near-loss e cells 4 ok c.requires.near))

pub add_word-requires-4-clause-near : goal.add_word-requires-4-clause-near
add_word-requires-4-clause-near c =
    let e = c.args.self in
    let ok = c.requires.formed in
    rw (
      c.add_word-3.ensures,
      c.add_word-2.ensures,
      c.add_word.ensures,
      read e.thousandths ok.thousandths-bound,
      read e.loss ok.loss-bound,
      read e.meters ok.meters-bound,
    )
    (near-count e c.args.cells.now 4 ok c.requires.near)

pub returns : goal.returns
returns c =
    let e = c.args.self in
    let ok = c.requires.formed in
    rw (
      c.add_word-4.ensures,
      c.add_word-3.ensures,
      c.add_word-2.ensures,
      c.add_word.ensures,
      read e.thousandths ok.thousandths-bound,
      read e.loss ok.loss-bound,
      read e.meters ok.meters-bound,
      read e.waiting ok.waiting-bound,
    )
    (all-added e c.args.cells.now)
