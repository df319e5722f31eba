use Prim.Native.Nat.{◌<◌}
use mathlib.Core.Path.{◌≡◌}
use native.Mathlib.Omega.{arith}
use borrow.Author.Rules.{rules}
use lib.IntN.{pos, ◌+ℤ◌}
use lib.ListN.{length, get_or}
use mir.Syntax.{w64}
use mir.Val.{of_z, to_z}
use Rattle.integers.proofs.Linear.{linear, size}
use Rattle.correction.proofs.Keys.{key-before, key-after}
use Rattle.correction.proofs.HandedOut.{count-one, count_no, count-all, hand-none, hand-one, hand-no, one_left, entry-is}
use Rattle.correction.proofs.shares.hand_out.Goals as goal
use Rattle.correction.proofs.shares.hand_out.Goals.{then-key-other, else-key-other, then-before-lack, else-before-lack}

pub loop-other-preserved : goal.loop-other-preserved
loop-other-preserved c =
    let unit = c.units.unit in
    let other = c.loop-other.other-index in
    let fs = c.args.fractions.now.times_w in
    let own = c.order_keys-keys.ensures.each-is unit (omega arith) in
    let its = c.order_keys-keys.ensures.each-is other (omega arith) in
    let h : other < length fs = omega arith in
    elim c.if-key-other.branch [
      | then-key-other w ↦
          let t = key-before unit (get_or fs unit 0) other (get_or fs other 0) (omega arith) (omega arith) (omega (arith, own, its, w.if-key-other.true)) in
          rw w.before-is (omega arith, count-one c.loop-other.invariant.1 h t)
      | else-key-other w ↦
          let t = key-after unit (get_or fs unit 0) other (get_or fs other 0) (omega arith) (omega arith) (omega (arith, own, its, w.if-key-other.false)) in
          rw w.before-is (omega arith, count_no c.loop-other.invariant.1 h t)
    ]

pub overflow_add-volumes : goal.overflow_add-volumes
overflow_add-volumes c =
    let v = get_or c.args.volumes.now c.units.unit (pos 0) in
    omega (linear, size v, c.requires.volumes-bound c.units.unit, entry-is c.units.invariant (omega arith))

pub units-preserved : goal.units-preserved
units-preserved c =
    let p = c.units.invariant in
    let h : c.units.unit < length c.args.fractions.now.times_w = omega arith in
    let rank = count-all c.loop-other.invariant.1 (omega arith) in
    let v = get_or c.args.volumes.now c.units.unit (pos 0) in
    let e = entry-is p h in
    let one : to_z w64 (of_z w64 (to_z w64 (of_z w64 (get_or c.units.volumes c.units.unit (pos 0))) +ℤ pos 1)) ≡ get_or c.units.volumes c.units.unit (pos 0) +ℤ pos 1 =
    omega (linear, size v, c.requires.volumes-bound c.units.unit) in
    elim c.if-before-lack.branch [
      | then-before-lack w ↦ rw (w.volumes-is, w.left-is, one) (hand-one p h (rw rank w.if-before-lack.true))
      | else-before-lack w ↦ rw (w.volumes-is, w.left-is) (hand-no p h (rw rank w.if-before-lack.false))
    ]

pub units-init : goal.units-init
units-init c = search (rules, hand-none)

pub overflow_sub-left : goal.overflow_sub-left
overflow_sub-left c = search (rules, one_left)
