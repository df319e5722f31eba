-- Merged, the parts are ready. Assumes nothing.
use Rattle.two_parts.proofs.AsOne.{merged-ready}
use Rattle.two_parts.proofs.Parts.merge.Goals as goal

pub invariant_of-self-clause-ready : goal.invariant_of-self-clause-ready
invariant_of-self-clause-ready c = merged-ready c.args.self.now.ready c.merge_parts.ensures
