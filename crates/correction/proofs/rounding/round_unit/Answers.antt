use Prim.Native.Nat.{◌+◌, ◌*◌}
use mathlib.Core.Path.{◌≡◌, ◌∙◌, refl}
use native.Mathlib.Omega.{arith}
use borrow.Author.Rules.{rules}
use lib.IntN.{pos}
use lib.ListN.{get_or, set}
use mir.Syntax.{w64}
use mir.Val.{of_z, to_z}
use Rattle.std.proofs.lemmas.Grind.{common_steps}
use Rattle.integers.specs.Rounding.{nearest_wh, rounded_of}
use Rattle.integers.proofs.Linear.{linear, sized}
use Rattle.integers.proofs.Nearest.{nearest-half}
use Rattle.correction.specs.Correction.{net_of}
use Rattle.correction.proofs.Filled.{Filled}
use Rattle.correction.proofs.Droppings.{next-droppings, all-dropped, directed-half}
use Rattle.correction.proofs.rounding.round_unit.Goals as goal
use Rattle.correction.proofs.rounding.round_unit.Goals.{After-nearest_wh-lost}

lost-is : (c : After-nearest_wh-lost) → c.nearest_wh-lost.result ≡ rounded_of (get_or c.args.cells.now (2 * c.loop-pair.pair + 1) (pos 0))
lost-is c =
    let read : to_z w64 (of_z w64 (get_or c.args.cells.now (2 * c.loop-pair.pair + 1) (pos 0))) ≡ get_or c.args.cells.now (2 * c.loop-pair.pair + 1) (pos 0) = omega linear in
    rw read at c.nearest_wh-lost.ensures

pub loop-pair-init : goal.loop-pair-init
unfolding net_of
loop-pair-init c = record { rounded = search rules; droppings-are = refl; droppings-bound = omega arith }

pub by_direction-droppings-requires : goal.by_direction-droppings-requires
by_direction-droppings-requires c =
    let d = (goal.at.by_direction-droppings-requires c).After-nearest_wh-lost in
    rw (lost-is d) (omega (sized, nearest-half (get_or c.args.cells.now (2 * c.loop-pair.pair + 1) (pos 0))))

pub overflow_add-droppings : goal.overflow_add-droppings
overflow_add-droppings c = omega (sized, (directed-half (2 * c.loop-pair.pair) _ c.nearest_wh-lost.ensures c.by_direction-droppings.ensures).1)

pub loop-pair-preserved : goal.loop-pair-preserved
loop-pair-preserved c =
    let d = (goal.at.loop-pair-preserved c).After-nearest_wh-lost in
    let l = c.loop-pair in
    let lost = get_or c.args.cells.now (2 * l.pair + 1) (pos 0) in
    let two : 2 * (l.pair + 1) ≡ 2 * l.pair + 2 = omega arith in
    let first : Filled nearest_wh c.args.cells.now (set l.rounded (2 * l.pair) (to_z w64 (of_z w64 c.nearest_wh-used.result.wh))) (2 * l.pair + 1) = grind (arith, common_steps) in
    let half = directed-half (2 * l.pair) lost (lost-is d) c.by_direction-droppings.ensures in
    record {
      rounded = grind (arith, common_steps);
      droppings-are = rw two (omega (sized, half.0, half.1, l.invariant.droppings-are, l.invariant.droppings-bound, next-droppings c.args.cells.now (2 * l.pair) (omega arith) (omega arith)));
      droppings-bound = omega (sized, half.1, l.invariant.droppings-bound);
    }

pub returns-clause-droppings : goal.returns-clause-droppings
returns-clause-droppings c = c.loop-pair.invariant.droppings-are ∙ all-dropped c.args.cells.now (2 * c.loop-pair.pair) (omega arith)
