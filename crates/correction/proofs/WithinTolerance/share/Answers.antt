-- `WithinTolerance::share` adds n, a whole number, to the quotient of U × a by W. Assumes nothing.
use mathlib.Core.Path.{◌≡◌}
use Prim.Native.Nat.{◌≤◌}
use lib.IntN.{nat_abs, ◌+ℤ◌, ◌*ℤ◌}
use mir.Syntax.{w64}
use mir.Val.{of_z, to_z}
use mir.ValLaws.{to_z-of_z}
use Rattle.integers.specs.Helpers.{weighted_most}
use Rattle.integers.specs.declared.Quotient.{Quotient}
use Rattle.integers.specs.Quotient.{quotient_of}
use Rattle.integers.proofs.Linear.{sized}
use Rattle.correction.specs.declared.UnitSums.{UnitSums}
use Rattle.correction.specs.declared.Corrected.{Corrected}
use Rattle.correction.specs.Helpers.{IsWithinTolerance, UnitBound}
use Rattle.correction.proofs.Apportioned.{share-split, fraction-split}
use Rattle.correction.proofs.ShareSize.{correction-small}
use Rattle.correction.proofs.WithinTolerance.share.Goals as goal

module _ {x : Corrected} {s : UnitSums} (within : IsWithinTolerance x) (bound : UnitBound s) {q : Quotient}
    (gives : q ≡ quotient_of (to_z w64 (of_z w64 x.unallocated) *ℤ to_z w64 (of_z w64 s.weighted)) (nat_abs (to_z w64 (of_z w64 x.weighted)))) where
  q-is : q ≡ quotient_of (x.unallocated *ℤ s.weighted) (nat_abs x.weighted)
  q-is = rw (to_z-of_z w64 x.unallocated (omega sized), to_z-of_z w64 s.weighted (omega sized), to_z-of_z w64 x.weighted (omega sized)) at gives

  floor-bound : nat_abs q.floor ≤ weighted_most
  floor-bound = rw q-is (correction-small within bound)

  share-is : to_z w64 (of_z w64 (to_z w64 (of_z w64 s.net) +ℤ to_z w64 (of_z w64 q.floor))) ≡ s.net +ℤ q.floor
  share-is = omega (sized, floor-bound)

pub overflow_add-result : goal.overflow_add-result
overflow_add-result c = omega (sized, floor-bound c.args.self.within c.requires c.share_quotient-correction.ensures)

pub returns : goal.returns
returns c =
    let x = c.args.self.corrected in
    let w = c.args.self.within in
    let q = c.share_quotient-correction.ensures in
    rw (
      share-is w c.requires q,
      q-is w c.requires q,
      share-split x.unallocated x.weighted c.args.sums w.w-positive,
      fraction-split x.unallocated x.weighted c.args.sums w.w-positive,
    )
