-- `settle_list` gives what its definition gives, and demand 3 of it: from what making the list gives, and then the allocation. Assumes nothing.
use Rattle.listing.proofs.HalfHour.{half-hour-refused, half-hour-formed, half-hour-allocated}
use Rattle.listing.proofs.half_hour.settle_list.Goals as goal

pub allocate_formed-requires : goal.allocate_formed-requires
allocate_formed-requires c = half-hour-formed _ _ _ _ c.args.volumes.now _ _ _ _ (rw (c.fresh-fresh.ensures, c.in-Ok.is) at c.make_calls.ensures)

pub returns-in-Ok : goal.returns-in-Ok
returns-in-Ok c = half-hour-allocated _ _ _ _ _ _ _ _ _ (rw (c.fresh-fresh.ensures, c.in-Ok.is) at c.make_calls.ensures) _ _ c.allocate_formed.ensures

pub returns-in-Err : goal.returns-in-Err
returns-in-Err c = rw c.fresh-fresh.ensures (half-hour-refused _ _ _ _ _ _ _ _ _ (rw (c.fresh-fresh.ensures, c.in-Err.is) at c.make_calls.ensures))
