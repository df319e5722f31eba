-- `gather_change` meets its contract: a turn is one meter more, by whether it waits in the category. Assumes nothing.
use mathlib.Core.Path.{◌≡◌, sym, ◌∙◌}
use mathlib.Core.List.{map}
use mir.Syntax.{w64}
use mir.Val.{to_z, of_z}
use mir.ValLaws.{to_z-of_z}
use Rattle.book.specs.Rows.{first_row}
use Rattle.running.specs.Helpers.{GatherArguments}
use Rattle.running.proofs.WaitingGathered.{none-gathered, turn-asks, turn-passes, turn-adds, all-gathered}
use Rattle.running.proofs.shape.gather_change.Goals as goal
use Rattle.running.proofs.shape.gather_change.Goals.{then-waits, else-waits}

pub loop-registration-init : goal.loop-registration-init
loop-registration-init c = none-gathered _ _ _

pub add_waiting-requires : goal.add_waiting-requires
add_waiting-requires c =
    let read : to_z w64 (of_z w64 c.args.wh) ≡ c.args.wh = to_z-of_z w64 c.args.wh c.ranges.wh in
    turn-asks c.args.category _ _ _ (rw read c.requires) c.told-change _ c.loop-registration-test.true c.loop-registration.invariant

pub loop-registration-preserved : goal.loop-registration-preserved
loop-registration-preserved c =
    let read : to_z w64 (of_z w64 c.args.wh) ≡ c.args.wh = to_z-of_z w64 c.args.wh c.ranges.wh in
    let asks : GatherArguments c.args.change.now (map first_row c.args.rows.now) (to_z w64 (of_z w64 c.args.wh)) = rw read c.requires in
    elim c.if-waits.branch [
      | then-waits w ↦
          w.change-is
          ∙ turn-adds _ _ _ _ asks c.told-change _ c.loop-registration-test.true c.loop-registration.invariant (sym c.waits.ensures ∙ w.if-waits.true) w.add_waiting.ensures
      | else-waits w ↦
          w.change-is
          ∙ turn-passes _ _ _ _ asks c.told-change _ c.loop-registration-test.true c.loop-registration.invariant (sym c.waits.ensures ∙ w.if-waits.false)
    ]

pub returns : goal.returns
returns c =
    let read : to_z w64 (of_z w64 c.args.wh) ≡ c.args.wh = to_z-of_z w64 c.args.wh c.ranges.wh in
    rw read at c.loop-registration.invariant ∙ all-gathered c.args.category c.args.wh c.args.change.now c.args.rows.now _ c.loop-registration-test.false
