-- A reading is stored by parts, and adds no row. Assumes nothing.
use native.Mathlib.Omega.{arith}
use Rattle.two_parts.proofs.AsOne.{both-fit}
use Rattle.two_parts.proofs.ByParts.{reading-by-parts}
use Rattle.two_parts.proofs.LaterStored.{index-first}
use Rattle.two_parts.proofs.Recorded.{later-kept}
use Rattle.two_parts.proofs.apart.reading_apart.Goals as goal

pub store_apart-outcome-requires-clause-by_parts : goal.store_apart-outcome-requires-clause-by_parts
store_apart-outcome-requires-clause-by_parts c = reading-by-parts c.args.mpan c.args.reading

pub overflow_add-near : goal.overflow_add-near
overflow_add-near c = omega (arith, index-first _ _ _ c.find_near-place.ensures c.in-Ok.is, both-fit c.requires.parts)

pub returns-in-Ok-clause-as_many : goal.returns-in-Ok-clause-as_many
returns-in-Ok-clause-as_many c = later-kept _ _ c.store_apart-outcome.ensures.stored

pub returns-in-Err-clause-as_many : goal.returns-in-Err-clause-as_many
returns-in-Err-clause-as_many c = later-kept _ _ c.store_apart-outcome.ensures.stored
