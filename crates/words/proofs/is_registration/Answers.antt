-- `words::is_registration` meets its contract: its tests are those of the definition that can fail, one after the other. Assumes nothing.
use Rattle.words.proofs.RegistrationWord.{top-fails, low-fails, additional-fails, llf-decides}
use Rattle.std.proofs.Common.{rules}
use Rattle.words.proofs.is_registration.Goals as goal

pub returns-then-w-ne0 : goal.returns-then-w-ne0
returns-then-w-ne0 c = top-fails _ c.if-w-ne0.true

pub returns-then-low-ne0 : goal.returns-then-low-ne0
returns-then-low-ne0 c = low-fails _ c.if-w-ne0.false _ c.of-low.ensures c.if-low-ne0.true

pub returns-then-allowed-eq0 : goal.returns-then-allowed-eq0
returns-then-allowed-eq0 c =
    let e = c.before.before in
    additional-fails _ e.if-w-ne0.false _ e.of-low.ensures e.if-low-ne0.false _ c.of-flagged.ensures c.if-allowed-eq0.true

pub returns : goal.returns
returns c =
    let o = c.before in
    let e = o.before.before in
    let decides = llf-decides _ e.if-w-ne0.false _ e.of-low.ensures e.if-low-ne0.false _ o.of-flagged.ensures o.if-allowed-eq0.false _ c.of-llf.ensures in
    search (rules, decides)
