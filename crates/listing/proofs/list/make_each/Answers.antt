-- `make_each` leaves what making the calls one by one leaves. Assumes nothing.
use mathlib.Core.Path.{◌∙◌}
use mathlib.Core.List.{[]}
use native.Mathlib.Omega.{arith}
use Rattle.std.proofs.Common.{rules}
use Rattle.book.proofs.WellFormed.{rows-ready}
use Rattle.listing.proofs.ListMade.{next-made, all-made}
use Rattle.listing.proofs.InParts.{none-made-in-parts}
use Rattle.listing.proofs.list.make_each.Goals as goal

pub new-parts-requires : goal.new-parts-requires
new-parts-requires c = rows-ready _ _ c.requires.formed

pub loop-i-init : goal.loop-i-init
loop-i-init c = let parts = c.new-parts.ensures in none-made-in-parts _ _ _ _ _ _ c.requires.formed parts.rows parts.first parts.later

pub loop-i-preserved : goal.loop-i-preserved
loop-i-preserved c =
    let made = c.make-outcome.ensures in
    record {
      same_slice = made.same_slice ∙ c.loop-i.invariant.same_slice;
      same_cells = made.same_cells ∙ c.loop-i.invariant.same_cells;
      counted = made.counted;
      made-so = rw c.number_given.ensures (next-made _ _ _ c.loop-i.invariant.made-so (omega arith) (omega (arith, c.requires.room)) [] _ _ _ (rw c.call_of.ensures at made.gives));
    }

pub returns-clause-makes : goal.returns-clause-makes
returns-clause-makes c =
    let slice = c.merge.ensures.same_slice ∙ c.loop-i.invariant.same_slice ∙ c.new-parts.ensures.same_slice in
    all-made _ _ _ (omega arith) c.loop-i.invariant.made-so (search rules ∙ c.merge.ensures.rows)
