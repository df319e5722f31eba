-- A reading is stored by parts, and adds no row. Assumes nothing.
use Rattle.two_parts.proofs.ByParts.{reading-by-parts}
use Rattle.two_parts.proofs.Recorded.{first-kept}
use Rattle.two_parts.proofs.Parts.record.Goals as goal

pub store-requires-clause-by_parts : goal.store-requires-clause-by_parts
store-requires-clause-by_parts c = reading-by-parts c.args.mpan c.args.reading

pub returns-clause-border : goal.returns-clause-border
returns-clause-border c = first-kept _ _ c.store.ensures.stored c.store.ensures.border
