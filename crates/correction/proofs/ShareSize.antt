-- The size of a share rounded down, within tolerance: U × a / W is no larger than a.
use Prim.Native.Nat.{ℕ, ◌≤◌}
use mathlib.Core.Path.{◌≡◌}
use mathlib.Core.List.{List, map}
use native.Mathlib.Omega.{arith}
use lib.IntN.{ℤ, nat_abs, ◌*ℤ◌}
use lib.ListN.{length, get_or}
use Rattle.std.proofs.lemmas.List.{get_or-map}
use Rattle.cells.specs.Cells.{units}
use Rattle.integers.specs.Helpers.{weighted_most}
use Rattle.integers.specs.Quotient.{floor_of}
use Rattle.integers.proofs.Floor.{quotient-most, fraction-below}
use Rattle.integers.proofs.Size.{size-plus, size-positive}
use Rattle.correction.specs.declared.UnitSums.{UnitSums}
use Rattle.correction.specs.declared.Corrected.{Corrected}
use Rattle.correction.specs.Correction.{share_numerator, share_floor, share_fraction}
use Rattle.correction.specs.Helpers.{no_sums, IsWithinTolerance, UnitBound, FractionsBound}
use Rattle.correction.proofs.Apportioned.{share-split}

module _ {x : Corrected} {s : UnitSums} (within : IsWithinTolerance x) (bound : UnitBound s) where
  abbrev pub correction : ℤ
  correction = floor_of (x.unallocated *ℤ s.weighted) (nat_abs x.weighted)

  small : nat_abs x.unallocated ≤ nat_abs x.weighted
  small = omega (arith, within.within-tolerance)

  pub correction-small : nat_abs correction ≤ weighted_most
  correction-small = omega (arith, quotient-most x.unallocated s.weighted x.weighted (size-positive x.weighted within.w-positive) small, bound.weighted-bound)

  pub share-small : nat_abs (share_floor x.unallocated x.weighted s) ≤ 101400000000000000
  share-small = rw (share-split x.unallocated x.weighted s within.w-positive) (omega (arith, size-plus s.net correction, correction-small, bound.net-bound))

-- the fractions of the shares are below W
pub fractions-within : (x : Corrected) (sums : List UnitSums) {fractions : List ℕ} → IsWithinTolerance x → length sums ≡ units
    → fractions ≡ map (share_fraction x.unallocated x.weighted) sums → FractionsBound fractions
unfolding share_fraction
fractions-within x sums within long e =
    let w = x.weighted in
    record {
      each = λ k h.
          rw (e, get_or-map (share_fraction x.unallocated w) sums k no_sums 0 (omega arith))
          (omega (arith, fraction-below (share_numerator x.unallocated w (get_or sums k no_sums)) (nat_abs w) (size-positive w within.w-positive), within.sizes-bound.w-bound));
    }
