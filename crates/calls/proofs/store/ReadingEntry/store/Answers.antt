-- `store` of a reading stores the word of a reading that is above the one held, and keeps the cells up. Assumes nothing.
use mathlib.Core.Path.{sym, ◌∙◌}
use native.Mathlib.Omega.{arith}
use Rattle.std.proofs.lemmas.Result.{err_from_is_err_and}
use Rattle.book.proofs.Placed.{known-is, index-is, row-within}
use Rattle.calls.proofs.KeptStoring.{made-stores, made-passes}
use Rattle.calls.proofs.Storing.{formed-there, formed-read, reading-stored}
use Rattle.calls.proofs.store.ReadingEntry.store.Goals as goal

pub held_at-before-requires : goal.held_at-before-requires
held_at-before-requires c = omega (arith, row-within c.args.mpan c.requires.ready c.requires.placed c.in-Ok.is)

pub keep_meter-requires-clause-before : goal.keep_meter-requires-clause-before
keep_meter-requires-clause-before c =
    formed-there c.args.mpan c.requires.ready (index-is _ _ c.requires.placed c.in-Ok.is) (known-is _ _ c.requires.placed c.in-Ok.is) c.held_at-before.ensures.held

pub keep_meter-requires-clause-after : goal.keep_meter-requires-clause-after
keep_meter-requires-clause-after c =
    formed-read c.args.mpan c.requires.ready (index-is _ _ c.requires.placed c.in-Ok.is) (known-is _ _ c.requires.placed c.in-Ok.is) c.held_at-before.ensures.held c.args.self
    (cc) (sym c.allowed.ensures ∙ c.if-not-allowed.false) c.pack.ensures

pub returns-in_err-keep_meter-clause-stores : goal.returns-in_err-keep_meter-clause-stores
returns-in_err-keep_meter-clause-stores c =
    let p = err_from_is_err_and c.from_residual.result c.from_residual.ensures.1 in
    rw (p.1, p.2)
    (made-passes c.requires.ready
    (reading-stored c.args.mpan c.requires.ready (index-is _ _ c.requires.placed c.in-Ok.is) (known-is _ _ c.requires.placed c.in-Ok.is) c.held_at-before.ensures.held c.args.self
    (cc) (sym c.allowed.ensures ∙ c.if-not-allowed.false) c.pack.ensures (omega (arith, c.of.ensures, c.if-self-of.false)))
    c.in_err-keep_meter.ensures.kept)

pub returns-clause-stores : goal.returns-clause-stores
returns-clause-stores c =
    made-stores c.requires.ready
    (reading-stored c.args.mpan c.requires.ready (index-is _ _ c.requires.placed c.in-Ok.is) (known-is _ _ c.requires.placed c.in-Ok.is) c.held_at-before.ensures.held c.args.self
    (cc) (sym c.allowed.ensures ∙ c.if-not-allowed.false) c.pack.ensures (omega (arith, c.of.ensures, c.if-self-of.false)))
    c.in_ok-keep_meter.ensures.kept
