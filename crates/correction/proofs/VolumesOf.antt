-- Of the volumes: they add up to the Take, each is less than 1 Wh from its exact share, and there is one for each unit.
use Prim.Native.Nat.{ℕ, suc, ◌<◌}
use mathlib.Core.Path.{◌≡◌, refl, sym, ap, ◌∙◌}
use mathlib.Core.Bool.{Bool, true, false}
use mathlib.Core.List.{List, [], ◌∷◌, map}
use native.Mathlib.Omega.{arith}
use lib.Dec.{ltb}
use lib.ListN.{length, get_or, length-map}
use lib.IntN.{ℤ, pos, negsuc, nat_abs, ◌+ℤ◌, ◌-ℤ◌, ◌*ℤ◌}
use lib.Signed.{◌<ℤ◌}
use borrow.Author.Tests.{ltb-true, ltb-false}
use Rattle.integers.specs.Sum.{sum}
use Rattle.integers.specs.Quotient.{floor_of, fraction_of}
use Rattle.integers.proofs.Linear.{linear, size, one_side, plus, minus}
use Rattle.integers.proofs.Size.{size-positive}
use Rattle.integers.proofs.Floor.{fraction-below, above_floor, below_next}
use Rattle.std.proofs.lemmas.List.{get_or-map}
use Rattle.correction.specs.declared.UnitSums.{UnitSums}
use Rattle.correction.specs.Correction.{unallocated_of, weighted_total, share_numerator, share_floor, share_fraction}
use Rattle.correction.specs.Volumes.{volumes_from, volumes_of}
use Rattle.correction.proofs.CountWhere.{At, here, later}
use Rattle.correction.proofs.Ranked.{rank_of, ranks-exactly}
use Rattle.correction.proofs.Served.{served-above-zero}
use Rattle.correction.proofs.Apportioned.{numerators_of, floors_of, fractions_of, lack_of, lacking-is, lacking-fewer, fractions-total}
use Rattle.correction.proofs.RoundedVolumes.{rounded-length, rounded-sum, volume-served, volume-unserved}
use Rattle.correction.specs.Helpers.{no_sums}

-- a W above 0 has a unit in it
some-unit : (sums : List UnitSums) → pos 0 <ℤ weighted_total sums → 0 < length sums
unfolding weighted_total sum
some-unit [] p = absurd p.lt
some-unit (x ∷ sums) p = omega arith

-- each fraction is below W
fractions-below : (u w : ℤ) (j : ℕ) (sums : List UnitSums) → 0 < nat_abs w → (i f : ℕ) → At i f j (map (share_fraction u w) sums) → f < nat_abs w
unfolding share_fraction
fractions-below u w j [] p i f x'' = elim x'' [ ]
fractions-below u w j (x ∷ sums) p i f here = fraction-below (share_numerator u w x) (nat_abs w) p
fractions-below u w j (x ∷ sums) p i f (later a) = fractions-below u w (suc j) sums p i f a

-- how far a share is from its share rounded down, and from one more, multiplied by W
floor-distance : (x w : ℤ) → pos 0 <ℤ w → nat_abs (floor_of x (nat_abs w) *ℤ w -ℤ x) < nat_abs w
floor-distance x (pos d) p =
    let q : 0 < d = omega linear in
    let z = floor_of x d *ℤ pos d -ℤ x in
    omega (linear, size z, one_side z, above_floor x d q, fraction-below x d q)
floor-distance x (negsuc d) p = absurd p.lt

next-distance : (x w : ℤ) → pos 0 <ℤ w → 0 < fraction_of x (nat_abs w) → nat_abs ((floor_of x (nat_abs w) +ℤ pos 1) *ℤ w -ℤ x) < nat_abs w
next-distance x (pos d) p h =
    let q : 0 < d = omega linear in
    rw (below_next x d q) (omega arith)
next-distance x (negsuc d) p h = absurd p.lt

module _ (take_wh : ℤ) (sums : List UnitSums) where
  pub fractions-length : length (fractions_of take_wh sums) ≡ length sums
  fractions-length = length-map sums (share_fraction (unallocated_of take_wh sums) (weighted_total sums))

  pub as-many-floors : length (floors_of take_wh sums) ≡ length (fractions_of take_wh sums)
  as-many-floors = length-map sums (share_floor (unallocated_of take_wh sums) (weighted_total sums)) ∙ sym fractions-length

  pub volumes-length : length (volumes_of take_wh sums) ≡ length sums
  unfolding volumes_of volumes_from
  volumes-length = rounded-length (lack_of take_wh sums) (fractions_of take_wh sums) 0 (floors_of take_wh sums) (fractions_of take_wh sums) as-many-floors ∙ length-map sums _

  module _ (p : pos 0 <ℤ weighted_total sums) where
    -- the volumes add up to the Take
    pub volumes-total : sum (volumes_of take_wh sums) ≡ take_wh
    unfolding volumes_of volumes_from
    volumes-total =
        let fs = fractions_of take_wh sums in
        let v = sum (floors_of take_wh sums) in
        let n = lack_of take_wh sums in
        rounded-sum n fs 0 (floors_of take_wh sums) fs as-many-floors
        ∙ ap (λ c. v +ℤ pos c) (ranks-exactly n 0 fs (omega (arith, lacking-fewer take_wh sums p (some-unit sums p), fractions-length)))
        ∙ omega (linear, lacking-is take_wh sums p, minus take_wh v, plus v (pos n))

    -- each volume is less than 1 Wh from its exact share, multiplied by W
    pub volumes-distance : (i : ℕ) → i < length sums
        → nat_abs (get_or (volumes_of take_wh sums) i (pos 0) *ℤ weighted_total sums -ℤ get_or (numerators_of take_wh sums) i (pos 0)) < nat_abs (weighted_total sums)
    unfolding volumes_of volumes_from share_floor share_fraction
    volumes-distance i h = by (ltb (rank_of fs i) n) refl
      where
        u : ℤ
        u = unallocated_of take_wh sums

        w : ℤ
        w = weighted_total sums

        n : ℕ
        n = lack_of take_wh sums

        fs : List ℕ
        fs = fractions_of take_wh sums

        x : ℤ
        x = share_numerator u w (get_or sums i no_sums)

        k : i < length fs
        k = omega (arith, fractions-length)

        floor-is : get_or (floors_of take_wh sums) i (pos 0) ≡ floor_of x (nat_abs w)
        floor-is = get_or-map (share_floor u w) sums i no_sums (pos 0) h

        share-is : get_or (numerators_of take_wh sums) i (pos 0) ≡ x
        share-is = get_or-map (share_numerator u w) sums i no_sums (pos 0) h

        fraction-is : get_or fs i 0 ≡ fraction_of x (nat_abs w)
        fraction-is = get_or-map (share_fraction u w) sums i no_sums 0 h

        above_zero : rank_of fs i < n → 0 < fraction_of x (nat_abs w)
        above_zero r =
            omega (
              arith,
              fraction-is,
              served-above-zero (nat_abs w) n fs (fractions-below u w 0 sums (size-positive w p)) (size-positive w p) (fractions-total take_wh sums p) i (get_or fs i 0) r,
            )

        by : (t : Bool) → ltb (rank_of fs i) n ≡ t → nat_abs (get_or (volumes_of take_wh sums) i (pos 0) *ℤ w -ℤ get_or (numerators_of take_wh sums) i (pos 0)) < nat_abs w
        by true t =
            rw (volume-served (floors_of take_wh sums) fs as-many-floors n i k (ltb-true _ n t), floor-is, share-is)
            (next-distance x w p (above_zero (ltb-true _ n t)))
        by false t =
            rw (volume-unserved (floors_of take_wh sums) fs as-many-floors n i k (ltb-false _ n t), floor-is, share-is)
            (floor-distance x w p)
