-- `make_calls` gives what making the calls one by one gives: here a list on a book or cells that are refused, whose calls are all refused, and one that is made. Assumes nothing.
use mathlib.Core.Path.{sym, ◌∙◌}
use borrow.Author.Tests.{eqb-true}
use lib.Seq.{length-take-le}
use Rattle.std.proofs.Common.{rules}
use Rattle.running.proofs.TestedFirst.{passed-well}
use Rattle.listing.proofs.ListMade.{call-made, call-refused}
use Rattle.listing.proofs.list.make_calls.Goals as goal

pub new-kept-requires : goal.new-kept-requires
new-kept-requires c = (passed-well _ (sym c.test_lent.ensures ∙ c.in-Ok.is)).ready

pub make_each-requires-clause-formed : goal.make_each-requires-clause-formed
make_each-requires-clause-formed c = (passed-well _ (sym c.test_lent.ensures ∙ c.in-Ok.is)).formed

pub returns-in-Ok : goal.returns-in-Ok
returns-in-Ok c =
    let chunks = c.as_chunks.ensures in
    let whole = sym chunks.back_len ∙ eqb-true _ 0 (sym c.is_empty.ensures ∙ c.if-not-is_empty.false) in
    let slice = c.make_each.ensures.same_slice ∙ c.new-kept.ensures.same_slice in
    call-made _ _ _ _ _ _ whole chunks.front_len c.if-numbers-calls.false chunks.front (rw c.new-kept.ensures.cells at c.make_each.ensures.makes) (search rules)

pub returns-in-Err : goal.returns-in-Err
returns-in-Err c =
    let chunks = c.as_chunks.ensures in
    let whole = sym chunks.back_len ∙ eqb-true _ 0 (sym c.is_empty.ensures ∙ c.if-not-is_empty.false) in
    call-refused _ _ _ _ _ _ whole chunks.front_len c.if-numbers-calls.false _ (sym c.test_lent.ensures ∙ c.in-Err.is)
    (rw (c.fill.ensures.after (λ y e. e), length-take-le _ c.args.numbers.now c.if-numbers-calls.false, c.from.ensures))
