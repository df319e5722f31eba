-- `store` of a registration's word stores the word in the row of a known meter, or in a new row, and keeps the cells up. Assumes nothing.
use Prim.Native.Nat.{◌+◌, ◌*◌}
use mathlib.Core.Path.{refl}
use native.Mathlib.Omega.{arith}
use lib.ListN.{length-drop}
use Rattle.std.proofs.lemmas.Result.{err_from_is_err_and}
use Rattle.words.proofs.ReadingWord.{no-reading-well-formed}
use Rattle.book.proofs.Inserted.{inserted-words}
use Rattle.book.proofs.Parts.{rest_part}
use Rattle.book.proofs.Placed.{known-is, unknown-is, index-is, new-index-is, row-within, index-within}
use Rattle.book.proofs.WellFormed.{room}
use Rattle.calls.proofs.KeptStoring.{made-stores, made-passes}
use Rattle.calls.proofs.Storing.{formed-there, registration-stored, row-inserted}
use Rattle.calls.proofs.store.RegistrationWordEntry.store.Goals as goal

-- a known meter

pub held_at-held-requires : goal.held_at-held-requires
held_at-held-requires c = omega (arith, row-within c.args.mpan c.requires.ready c.requires.placed c.in-Ok.is)

pub keep_meter-requires-clause-before : goal.keep_meter-requires-clause-before
keep_meter-requires-clause-before c =
    formed-there c.args.mpan c.requires.ready (index-is _ _ c.requires.placed c.in-Ok.is) (known-is _ _ c.requires.placed c.in-Ok.is) c.held_at-held.ensures.held

pub keep_meter-requires-clause-after : goal.keep_meter-requires-clause-after
keep_meter-requires-clause-after c =
    let before = formed-there c.args.mpan c.requires.ready (index-is _ _ c.requires.placed c.in-Ok.is) (known-is _ _ c.requires.placed c.in-Ok.is) c.held_at-held.ensures.held in
    record { registered = c.args.self.formed; read = before.read }

pub returns-in_err-keep_meter-in-Ok-clause-stores : goal.returns-in_err-keep_meter-in-Ok-clause-stores
returns-in_err-keep_meter-in-Ok-clause-stores c =
    let p = err_from_is_err_and c.from_residual.result c.from_residual.ensures.1 in
    rw (p.1, p.2)
    (made-passes c.requires.ready
    (registration-stored c.args.mpan c.requires.ready (index-is _ _ c.requires.placed c.in-Ok.is) (known-is _ _ c.requires.placed c.in-Ok.is) c.held_at-held.ensures.held c.args.self.word)
    c.in_err-keep_meter-in-Ok.ensures.kept)

pub returns-in_ok-keep_meter-in-Ok-clause-stores : goal.returns-in_ok-keep_meter-in-Ok-clause-stores
returns-in_ok-keep_meter-in-Ok-clause-stores c =
    made-stores c.requires.ready
    (registration-stored c.args.mpan c.requires.ready (index-is _ _ c.requires.placed c.in-Ok.is) (known-is _ _ c.requires.placed c.in-Ok.is) c.held_at-held.ensures.held c.args.self.word)
    c.in_ok-keep_meter-in-Ok.ensures.kept

-- a new one

pub keep_meter-requires-in-Err-clause-after : goal.keep_meter-requires-in-Err-clause-after
keep_meter-requires-in-Err-clause-after c = record { registered = c.args.self.formed; read = no-reading-well-formed }

pub returns-in_err-keep_meter-in-Err-clause-stores : goal.returns-in_err-keep_meter-in-Err-clause-stores
returns-in_err-keep_meter-in-Err-clause-stores c =
    let p = err_from_is_err_and c.from_residual-in_err-keep_meter-in-Err.result c.from_residual-in_err-keep_meter-in-Err.ensures.1 in
    rw (p.1, p.2)
    (made-passes c.requires.ready
    (row-inserted c.args.mpan c.requires.ready (new-index-is _ _ c.requires.placed c.in-Err.is) c.args.self.word (unknown-is _ _ c.requires.placed c.in-Err.is)
    (omega (arith, c.row_capacity.ensures, c.if-row_capacity-meters.false)) refl)
    c.in_err-keep_meter-in-Err.ensures.kept)

pub overflow_mul-index : goal.overflow_mul-index
overflow_mul-index c =
    omega (arith, index-within c.args.mpan c.requires.ready c.requires.placed c.in-Err.is, room c.args.rows.now c.args.meters c.requires.ready.within-capacity)

pub offset_bounds-rows-index-in-Err : goal.offset_bounds-rows-index-in-Err
offset_bounds-rows-index-in-Err c =
    omega (arith, index-within c.args.mpan c.requires.ready c.requires.placed c.in-Err.is, room c.args.rows.now c.args.meters c.requires.ready.within-capacity)

pub slice_bounds-insert_row-count : goal.slice_bounds-insert_row-count
slice_bounds-insert_row-count c =
    omega (arith, index-within c.args.mpan c.requires.ready c.requires.placed c.in-Err.is, room c.args.rows.now c.args.meters c.requires.ready.within-capacity)

pub slice_bounds-insert_row-start : goal.slice_bounds-insert_row-start
slice_bounds-insert_row-start c =
    omega (arith, index-within c.args.mpan c.requires.ready c.requires.placed c.in-Err.is, room c.args.rows.now c.args.meters c.requires.ready.within-capacity)

pub overflow_sub-meters : goal.overflow_sub-meters
overflow_sub-meters c = omega (arith, index-within c.args.mpan c.requires.ready c.requires.placed c.in-Err.is)

pub insert_row-requires : goal.insert_row-requires
insert_row-requires c =
    rw (rest_part (3 * c.in-Err.index) c.args.rows.now, length-drop)
    (omega (arith, c.row_capacity.ensures, c.if-row_capacity-meters.false, index-within c.args.mpan c.requires.ready c.requires.placed c.in-Err.is, room c.args.rows.now (c.args.meters + 1)))

pub returns-in_ok-keep_meter-in-Err-clause-stores : goal.returns-in_ok-keep_meter-in-Err-clause-stores
returns-in_ok-keep_meter-in-Err-clause-stores c =
    made-stores c.requires.ready
    (row-inserted c.args.mpan c.requires.ready (new-index-is _ _ c.requires.placed c.in-Err.is) c.args.self.word (unknown-is _ _ c.requires.placed c.in-Err.is)
    (omega (arith, c.row_capacity.ensures, c.if-row_capacity-meters.false))
    (inserted-words c.args.meters c.args.mpan c.args.rows.now (new-index-is _ _ c.requires.placed c.in-Err.is) refl c.insert_row.ensures))
    c.in_ok-keep_meter-in-Err.ensures.kept
