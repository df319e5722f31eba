use native.Mathlib.Omega.{arith}
use Rattle.correction.proofs.Filled.{filled-all}
use Rattle.correction.proofs.ShareSize.{fractions-within}
use Rattle.correction.proofs.shares.share_down.Goals as goal

pub invariant_of-result : goal.invariant_of-result
invariant_of-result c =
    let filled = filled-all c.loop-unit.invariant.fractions-done (omega arith) in
    record { bound = fractions-within c.args.within.corrected c.args.sums.now c.args.within.within c.told-sums filled }
