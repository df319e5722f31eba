-- A registration out of range leaves the parts, and the word of any other is stored. Assumes nothing.
use mathlib.Core.Path.{sym}
use Rattle.std.proofs.lemmas.Result.{err_from_is_err_and}
use Rattle.calls.proofs.Storing.{asked-word}
use Rattle.two_parts.proofs.ByParts.{word-by-parts}
use Rattle.two_parts.proofs.Registered.{refused-leaves, asked-leaves}
use Rattle.two_parts.proofs.apart.register_apart.Goals as goal

pub returns-in_err-word-clause-stored : goal.returns-in_err-word-clause-stored
returns-in_err-word-clause-stored c =
    let p = err_from_is_err_and c.from_residual.result c.from_residual.ensures.1 in
    rw (p.1, p.2) (refused-leaves _ _ c.requires.parts c.in_err-word.ensures)

pub invariant_of-entry : goal.invariant_of-entry
invariant_of-entry c = record { formed = asked-word _ _ c.in_ok-word.ensures }

pub store_apart-requires-clause-by_parts : goal.store_apart-requires-clause-by_parts
store_apart-requires-clause-by_parts c = word-by-parts c.args.mpan c.args.registration (sym c.in_ok-word.ensures)

pub returns-clause-stored : goal.returns-clause-stored
returns-clause-stored c = asked-leaves _ _ c.in_ok-word.ensures c.store_apart.ensures.stored
