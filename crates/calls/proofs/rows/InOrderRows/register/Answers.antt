-- Storing a registration in rows in order leaves what storing its word leaves, where it is in range. Assumes nothing.
use Rattle.std.proofs.lemmas.Result.{err_from_is_err_and}
use Rattle.calls.proofs.Storing.{asked-word}
use Rattle.calls.proofs.InOrder.{refused-in-order, asked-in-order}
use Rattle.calls.proofs.rows.InOrderRows.register.Goals as goal

pub returns-in_err-word-clause-registers : goal.returns-in_err-word-clause-registers
returns-in_err-word-clause-registers c =
    let p = err_from_is_err_and c.from_residual.result c.from_residual.ensures.1 in
    rw (p.1, p.2) (refused-in-order _ _ c.requires.ready c.in_err-word.ensures)

pub invariant_of-store : goal.invariant_of-store
invariant_of-store c = record { formed = asked-word _ _ c.in_ok-word.ensures }

pub returns-clause-registers : goal.returns-clause-registers
returns-clause-registers c = asked-in-order _ _ c.in_ok-word.ensures c.store.ensures.stores
