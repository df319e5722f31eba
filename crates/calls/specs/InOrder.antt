-- The rows of a book in order, as a call has them.
use Rattle.calls.specs.declared.rows.InOrder.{InOrder}
use Rattle.calls.specs.Helpers.{LentRows}

abbrev pub lent_in_order : InOrder → LentRows
lent_in_order r = record { slice = r.rows.ghost_name; words = r.rows.now; meters = r.meters }
