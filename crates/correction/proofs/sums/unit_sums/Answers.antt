use Prim.Native.Nat.{◌+◌, ◌*◌}
use mathlib.Core.Path.{◌≡◌, refl}
use native.Mathlib.Omega.{arith}
use mir.Syntax.{w64}
use mir.Val.{to_z}
use Rattle.integers.proofs.Linear.{linear, size}
use Rattle.correction.specs.Correction.{net_of, weighted_of}
use Rattle.correction.proofs.PairSums.{times-in, passed-next}
use Rattle.correction.proofs.sums.unit_sums.Goals as goal

pub loop-pair-init : goal.loop-pair-init
unfolding net_of weighted_of
loop-pair-init c = record { net-is = refl; weighted-is = refl; net-bound = omega arith; weighted-bound = omega arith }

pub overflow_add-weighted : goal.overflow_add-weighted
overflow_add-weighted c = omega (linear, size (to_z w64 c.loop-pair.weighted-bits), times-in c.requires (2 * c.loop-pair.pair) c.from.ensures)

pub overflow_add-weighted-in-loop-pair : goal.overflow_add-weighted-in-loop-pair
overflow_add-weighted-in-loop-pair c =
    omega (linear, size (to_z w64 c.loop-pair.weighted-bits), times-in c.requires (2 * c.loop-pair.pair) c.from.ensures, times-in c.requires (2 * c.loop-pair.pair + 1) c.from-in-loop-pair.ensures)

pub loop-pair-preserved : goal.loop-pair-preserved
loop-pair-preserved c =
    let l = c.loop-pair in
    let two : 2 * (l.pair + 1) ≡ 2 * l.pair + 2 = omega arith in
    rw two (
    passed-next (2 * l.pair) c.requires (omega arith) (omega arith) (omega arith) (omega arith)
    l.net-bits l.weighted-bits l.invariant c.by_direction-net.ensures c.from.ensures c.from-in-loop-pair.ensures
    )
