-- `store_apart` leaves what storing leaves in the parts merged: in the first part or in the later rows. Assumes nothing.
use mathlib.Core.Path.{sym, ◌∙◌}
use Rattle.std.proofs.lemmas.Result.{err_from_is_err_and}
use Rattle.two_parts.proofs.LaterStored.{found-known}
use Rattle.two_parts.proofs.Stored.{stored-there, stored-later, one-more}
use Rattle.two_parts.proofs.apart.store_apart.Goals as goal

pub returns-in_err-store-clause-stored : goal.returns-in_err-store-clause-stored
returns-in_err-store-clause-stored g c =
    let known = sym (found-known _ _ c.requires.placed) ∙ sym c.is_ok.ensures.value ∙ c.if-is_ok.true in
    let p = err_from_is_err_and c.from_residual.result c.from_residual.ensures.1 in
    rw (p.1, p.2) (stored-there c.requires.parts c.requires.by_parts known c.in_err-store.ensures.stores)

pub returns-then-is_ok-clause-stored : goal.returns-then-is_ok-clause-stored
returns-then-is_ok-clause-stored g c =
    let known = sym (found-known _ _ c.requires.placed) ∙ sym c.is_ok.ensures.value ∙ c.if-is_ok.true in
    let l = stored-there c.requires.parts c.requires.by_parts known c.in_ok-store.ensures.stores in
    record { ready = l.ready; stores = l.stores; meters = l.meters }

pub returns-clause-most : goal.returns-clause-most
returns-clause-most g c =
    let unknown = sym (found-known _ _ c.requires.placed) ∙ sym c.is_ok.ensures.value ∙ c.if-is_ok.false in
    one-more c.requires.parts c.requires.by_parts unknown c.row_capacity-end.ensures c.store-2.ensures.stores

pub returns-clause-stored : goal.returns-clause-stored
returns-clause-stored g c =
    let unknown = sym (found-known _ _ c.requires.placed) ∙ sym c.is_ok.ensures.value ∙ c.if-is_ok.false in
    stored-later c.requires.parts c.requires.by_parts unknown c.row_capacity-end.ensures c.store-2.ensures.stores
