-- `correct_units` meets its contract: a refusal is that of U and W, and else the volumes are apportioned. Assumes nothing.
use Prim.Native.Nat.{ℕ}
use mathlib.Core.Path.{◌≡◌, ◌∙◌, sym, ap, ap₂}
use mathlib.Core.List.{List, map-id, ◌++◌}
use native.Mathlib.Omega.{arith}
use lib.IntN.{ℤ, pos, nat_abs, ◌-ℤ◌}
use lib.ListN.{take, drop}
use mir.Syntax.{w64}
use mir.Val.{SFits, to_z, of_z}
use mir.ValLaws.{to_z-of_z}
use Rattle.std.specs.Slice.Iter.{iter_rest}
use Rattle.std.proofs.lemmas.Result.{err_from_is_err_and}
use Rattle.integers.specs.Sum.{sum, sizes}
use Rattle.cells.specs.Cells.{units}
use Rattle.correction.specs.declared.UnitSums.{UnitSums}
use Rattle.correction.specs.declared.Corrected.{Corrected}
use Rattle.correction.specs.Correction.{sums_cause}
use Rattle.correction.specs.Volumes.{lacking_wh, rounded_volumes, with_volumes}
use Rattle.correction.specs.Outcome.{corrected_of}
use Rattle.correction.proofs.ChainSums.{over-fits, over-sum}
use Rattle.correction.proofs.Apportion.{SharedBy, share-arguments, floors-sizes, lack-is, lack-few, hand-arguments, volumes-given}
use Rattle.correction.proofs.Outcome.{way-refused, way-accepted}
use Rattle.correction.proofs.correct.correct_units.Goals as goal
use Rattle.correction.proofs.correct.correct_units.Goals.{After-iter, After-sum-shared, After-unsigned_abs-lack}

-- U and W, of the Take as the code has it
corrected-is : {x : Corrected} (take_wh : ℤ) (sums : List UnitSums) → SFits w64 take_wh → x ≡ corrected_of (to_z w64 (of_z w64 take_wh)) sums → x ≡ corrected_of take_wh sums
corrected-is take_wh sums f e = rw (to_z-of_z w64 take_wh f) at e

pub returns-in_err-within : goal.returns-in_err-within
unfolding sums_cause
returns-in_err-within c =
    let p = err_from_is_err_and c.from_residual.result c.from_residual.ensures.1 in
    let is = corrected-is c.args.take_wh c.args.sums.now c.ranges.take_wh c.of-corrected.ensures.is in
    rw (p.1, p.2) (way-refused c.args.take_wh c.args.tolerance c.args.sums.now c.args.volumes.now _ (rw is at c.in_err-within.ensures.number))

pub share_down-fractions-requires : goal.share_down-fractions-requires
share_down-fractions-requires c = share-arguments c.requires

-- U and W, and what the shares worked from them are
shared : (c : After-iter) → SharedBy c.args.take_wh c.in_ok-within.within.corrected c.args.sums.now (take units c.args.volumes.now) c.share_down-fractions.new.floors c.share_down-fractions.result.times_w
shared c =
    record {
      is = c.in_ok-within.ensures.same ∙ corrected-is c.args.take_wh c.args.sums.now c.ranges.take_wh c.of-corrected.ensures.is;
      within = c.in_ok-within.within.within;
      args = share-arguments c.requires;
      sums-long = c.told-sums;
      shared = c.share_down-fractions.ensures;
    }

pub sum-shared-requires-clause-fits : goal.sum-shared-requires-clause-fits
sum-shared-requires-clause-fits c = λ p t e.
    let floors = c.share_down-fractions.new.floors in
    over-fits (λ (z : ℤ). z) floors p (ap iter_rest e ∙ c.iter.ensures.rest) (omega (arith, ap sizes (map-id floors), floors-sizes (shared c)))

-- the Take less the shares rounded down, as the code subtracts: the Wh that lack
difference : (c : After-sum-shared) → to_z w64 (of_z w64 c.args.take_wh) -ℤ to_z w64 (of_z w64 c.sum-shared.result) ≡ pos (lacking_wh c.args.take_wh c.share_down-fractions.new.floors)
difference c =
    let floors = c.share_down-fractions.new.floors in
    let s = c.sum-shared.ensures.runs tt in
    let is = s.3 ∙ over-sum (λ (z : ℤ). z) floors s.0 (ap iter_rest s.1 ∙ c.iter.ensures.rest) s.2 ∙ ap sum (map-id floors) in
    ap₂ ◌-ℤ◌ (to_z-of_z w64 _ c.ranges.take_wh) (to_z-of_z w64 _ (record { sfits = c.sum-shared.type_inv }) ∙ is) ∙ lack-is (shared c.before)

pub overflow_sub-take_wh : goal.overflow_sub-take_wh
overflow_sub-take_wh c = rw (difference c) (record { sfits = omega (arith, lack-few (shared c.before)) })

lack-given : (c : After-unsigned_abs-lack) → c.unsigned_abs-lack.result ≡ lacking_wh c.args.take_wh c.share_down-fractions.new.floors
lack-given c = c.unsigned_abs-lack.ensures.value ∙ ap nat_abs (to_z-of_z w64 _ (overflow_sub-take_wh c.before) ∙ difference c.before)

pub hand_out-requires : goal.hand_out-requires
hand_out-requires c =
    let d = (goal.at.hand_out-requires c).After-unsigned_abs-lack in
    rw (lack-given d) (hand-arguments (shared d.before.before))

pub returns : goal.returns
unfolding sums_cause with_volumes
returns c =
    let d = (goal.at.returns c).After-unsigned_abs-lack in
    let f = c.share_down-fractions.result.times_w in
    let is = corrected-is c.args.take_wh c.args.sums.now c.ranges.take_wh c.of-corrected.ensures.is in
    way-accepted c.args.take_wh c.args.tolerance c.args.sums.now c.args.volumes.now (sym (rw is at c.in_ok-within.ensures.number)) is
    (ap (λ (v : List ℤ). v ++ drop units c.args.volumes.now)
    (c.hand_out.ensures ∙ ap (λ (k : ℕ). rounded_volumes k f 0 c.share_down-fractions.new.floors f) (lack-given d) ∙ volumes-given (shared d.before.before)))
