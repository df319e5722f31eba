-- The shares of a Take: they add up to it, and rounded down they lack fewer Wh than there are units.
use Prim.Native.Nat.{ℕ, ◌*◌, ◌≤◌, ◌<◌}
use mathlib.Core.Path.{◌≡◌, sym, ap, ◌∙◌}
use mathlib.Core.List.{List, [], ◌∷◌, map, map-map}
use native.Mathlib.Omega.{arith}
use lib.ListN.{length}
use lib.IntN.{ℤ, pos, negsuc, nat_abs, ◌+ℤ◌, ◌-ℤ◌, ◌*ℤ◌, zero-*ℤ, *ℤ-zero}
use lib.Signed.{◌<ℤ◌, pos-nat_abs, yes_non_neg}
use Rattle.integers.specs.Sum.{sum}
use Rattle.integers.specs.Quotient.{floor_of, fraction_of}
use Rattle.integers.proofs.Linear.{linear}
use Rattle.integers.proofs.Ring.{plus_times, times-plus, plus-exchange, plus-rest}
use Rattle.integers.proofs.Order.{le_of_lt}
use Rattle.integers.proofs.Size.{size-positive}
use Rattle.integers.proofs.Floor.{floor-shift, fraction-shift}
use Rattle.integers.proofs.FloorSum.{lacking-times, lacking-low, lacking-high}
use Rattle.cells.specs.Cells.{units}
use Rattle.correction.specs.declared.UnitSums.{UnitSums}
use Rattle.correction.specs.Correction.{net_in, weighted_in, unallocated_of, weighted_total, share_numerator, share_floor, share_fraction}
use Rattle.correction.specs.Volumes.{lacking_wh}

-- a share rounded down, and its fraction, by the quotient of U × a alone: n is a whole number
pub share-split : (u w : ℤ) (x : UnitSums) → pos 0 <ℤ w → share_floor u w x ≡ x.net +ℤ floor_of (u *ℤ x.weighted) (nat_abs w)
unfolding share_floor share_numerator
share-split u (pos d) x p = floor-shift x.net (u *ℤ x.weighted) d (omega linear)
share-split u (negsuc d) x p = absurd p.lt

pub fraction-split : (u w : ℤ) (x : UnitSums) → pos 0 <ℤ w → share_fraction u w x ≡ fraction_of (u *ℤ x.weighted) (nat_abs w)
unfolding share_fraction share_numerator
fraction-split u (pos d) x p = fraction-shift x.net (u *ℤ x.weighted) d (omega linear)
fraction-split u (negsuc d) x p = absurd p.lt

-- the numerators of the shares, added up
numerators-sum : (u w : ℤ) (sums : List UnitSums) → sum (map (share_numerator u w) sums) ≡ sum (map net_in sums) *ℤ w +ℤ u *ℤ sum (map weighted_in sums)
unfolding sum share_numerator
numerators-sum u w [] = rw (zero-*ℤ w, *ℤ-zero u)
numerators-sum u w (x ∷ sums) =
    let n = x.net *ℤ w in
    let a = u *ℤ x.weighted in
    rw (numerators-sum u w sums, plus_times x.net (sum (map net_in sums)) w, times-plus u x.weighted (sum (map weighted_in sums)))
    (plus-exchange n a (sum (map net_in sums) *ℤ w) (u *ℤ sum (map weighted_in sums)))

-- the shares of a Take, multiplied by W, rounded down, what that leaves, and the Wh still lacking
abbrev pub numerators_of : ℤ → List UnitSums → List ℤ
numerators_of take_wh sums = map (share_numerator (unallocated_of take_wh sums) (weighted_total sums)) sums

abbrev pub floors_of : ℤ → List UnitSums → List ℤ
floors_of take_wh sums = map (share_floor (unallocated_of take_wh sums) (weighted_total sums)) sums

abbrev pub fractions_of : ℤ → List UnitSums → List ℕ
fractions_of take_wh sums = map (share_fraction (unallocated_of take_wh sums) (weighted_total sums)) sums

abbrev pub lack_of : ℤ → List UnitSums → ℕ
lack_of take_wh sums = lacking_wh take_wh (floors_of take_wh sums)

module _ (take_wh : ℤ) (sums : List UnitSums) where
  -- "Shares add up to the Take", multiplied by W
  pub shares-total : sum (numerators_of take_wh sums) ≡ take_wh *ℤ weighted_total sums
  unfolding unallocated_of weighted_total
  shares-total =
      let n = sum (map net_in sums) in
      let w = sum (map weighted_in sums) in
      numerators-sum (take_wh -ℤ n) w sums ∙ sym (plus_times n (take_wh -ℤ n) w) ∙ ap (λ z. z *ℤ w) (plus-rest n take_wh)

  module _ (p : pos 0 <ℤ weighted_total sums) where
    -- W is its size
    pub weighted-size : pos (nat_abs (weighted_total sums)) ≡ weighted_total sums
    weighted-size = pos-nat_abs (weighted_total sums) (yes_non_neg (le_of_lt p))

    total-over-size : sum (numerators_of take_wh sums) ≡ take_wh *ℤ pos (nat_abs (weighted_total sums))
    total-over-size = shares-total ∙ ap (λ z. take_wh *ℤ z) (sym weighted-size)

    -- the Wh lacking are not negative
    pub lacking-is : take_wh -ℤ sum (floors_of take_wh sums) ≡ pos (lack_of take_wh sums)
    unfolding share_floor lacking_wh
    lacking-is =
        let f = share_numerator (unallocated_of take_wh sums) (weighted_total sums) in
        sym (pos-nat_abs _ (yes_non_neg (lacking-low f (nat_abs (weighted_total sums)) (size-positive (weighted_total sums) p) sums take_wh total-over-size)))

    -- and fewer than the units
    pub lacking-fewer : 0 < length sums → lack_of take_wh sums < length sums
    unfolding share_floor
    lacking-fewer h =
        let f = share_numerator (unallocated_of take_wh sums) (weighted_total sums) in
        omega (linear, lacking-is, lacking-high f (nat_abs (weighted_total sums)) (size-positive (weighted_total sums) p) sums take_wh total-over-size h)

    pub lacking-at-most-31 : length sums ≡ units → lack_of take_wh sums ≤ 31
    lacking-at-most-31 e = omega (arith, lacking-fewer (omega arith))

    -- the fractions add up to W for each Wh lacking
    pub fractions-total : pos (lack_of take_wh sums * nat_abs (weighted_total sums)) ≡ sum (map pos (fractions_of take_wh sums))
    unfolding share_floor share_fraction
    fractions-total =
        let f = share_numerator (unallocated_of take_wh sums) (weighted_total sums) in
        let d = nat_abs (weighted_total sums) in
        ap (λ z. z *ℤ pos d) (sym lacking-is)
        ∙ lacking-times f d (size-positive (weighted_total sums) p) sums take_wh total-over-size
        ∙ ap sum (sym (map-map pos (λ x. fraction_of (f x) d) sums))
