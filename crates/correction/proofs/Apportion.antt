-- What `apportion` needs at each step, and that the steps together give the volumes.
use Prim.Native.Nat.{ℕ, ◌^◌, ◌≤◌, ◌<◌}
use mathlib.Core.Path.{◌≡◌, refl, ◌∙◌, ap, ap₂, subst}
use mathlib.Core.List.{List, map}
use native.Mathlib.Omega.{arith}
use lib.IntN.{ℤ, pos, nat_abs, ◌-ℤ◌}
use lib.ListN.{length, get_or, length-map, take}
use lib.Seq.{length-take-le}
use lib.Signed.{◌<ℤ◌}
use Rattle.integers.specs.Sum.{sum, sizes}
use Rattle.cells.specs.Cells.{units}
use Rattle.cells.proofs.Entries.{by_place}
use Rattle.std.proofs.lemmas.List.{get_or-map}
use Rattle.correction.specs.declared.UnitSums.{UnitSums}
use Rattle.correction.specs.declared.Corrected.{Corrected}
use Rattle.correction.specs.Correction.{net_in, weighted_in, weighted_total, share_floor, share_fraction}
use Rattle.correction.specs.Volumes.{lacking_wh, rounded_volumes, volumes_from, volumes_of}
use Rattle.correction.specs.Helpers.{no_sums, IsWithinTolerance, ShareDownArguments, SharedDown, HandOutArguments, CorrectArguments}
use Rattle.correction.specs.Outcome.{corrected_of}
use Rattle.correction.proofs.Apportioned.{floors_of, lacking-is, lacking-at-most-31, fractions_of}
use Rattle.correction.proofs.Sizes.{size-figure, sizes-most}
use Rattle.correction.proofs.ShareSize.{share-small}

-- the bounds of n and a hold for each unit
pub share-arguments : {take_wh : ℤ} {tolerance : ℕ} {sums : List UnitSums} {slice : List ℤ} → CorrectArguments take_wh tolerance sums slice → ShareDownArguments sums (take units slice)
share-arguments {sums = sums} {slice = slice} given =
    record {
      floors-long = length-take-le units slice given.volumes-long;
      bound = λ k.
          record {
            net-bound = omega (arith, size-figure net_in sums k no_sums refl, given.sums-within.nets-bound);
            weighted-bound = omega (arith, size-figure weighted_in sums k no_sums refl, given.sums-within.weighted-bound);
          };
    }

-- U and W of the sums of the 32 units, within tolerance, and what `share_down` gives of them
pub record SharedBy (take_wh : ℤ) (x : Corrected) (sums : List UnitSums) (part floors : List ℤ) (fractions : List ℕ) : Type 0 where
  pub is : x ≡ corrected_of take_wh sums
  pub within : IsWithinTolerance x
  pub args : ShareDownArguments sums part
  pub sums-long : length sums ≡ units
  pub shared : SharedDown x sums floors fractions

module _ {take_wh : ℤ} {x : Corrected} {sums : List UnitSums} {part floors : List ℤ} {fractions : List ℕ} (s : SharedBy take_wh x sums part floors fractions) where
  floors-long : length floors ≡ units
  floors-long = ap length s.shared.floors-are ∙ length-map sums _ ∙ s.sums-long

  floors-bound : (k : ℕ) → nat_abs (get_or floors k (pos 0)) ≤ 101400000000000000
  floors-bound =
      by_place floors units 101400000000000000 floors-long
      (λ k h.
      rw (s.shared.floors-are, get_or-map (share_floor x.unallocated x.weighted) sums k no_sums (pos 0) (omega (arith, s.sums-long)))
      (share-small s.within (s.args.bound k)))

  pub floors-sizes : sizes floors < 2 ^ 63
  floors-sizes = omega (arith, sizes-most floors 101400000000000000 floors-bound, floors-long)

  same-floors : floors ≡ floors_of take_wh sums
  same-floors = s.shared.floors-are ∙ ap (λ (y : Corrected). map (share_floor y.unallocated y.weighted) sums) s.is

  same-fractions : fractions ≡ fractions_of take_wh sums
  same-fractions = s.shared.fractions-are ∙ ap (λ (y : Corrected). map (share_fraction y.unallocated y.weighted) sums) s.is

  positive : pos 0 <ℤ weighted_total sums
  positive = subst (λ (y : Corrected). pos 0 <ℤ y.weighted) s.is s.within.w-positive

  -- the Wh that lack
  pub lack-is : take_wh -ℤ sum floors ≡ pos (lacking_wh take_wh floors)
  lack-is = rw same-floors (lacking-is take_wh sums positive)

  pub lack-few : lacking_wh take_wh floors ≤ 31
  lack-few = rw same-floors (lacking-at-most-31 take_wh sums positive s.sums-long)

  pub hand-arguments : HandOutArguments floors (lacking_wh take_wh floors)
  hand-arguments =
      record {
        volumes-long = floors-long;
        lack-few = omega (arith, lack-few);
        volumes-bound = λ k. omega (arith, floors-bound k);
      }

  pub volumes-given : rounded_volumes (lacking_wh take_wh floors) fractions 0 floors fractions ≡ volumes_of take_wh sums
  unfolding volumes_of volumes_from
  volumes-given = ap₂ (λ (xs : List ℤ) (fs : List ℕ). rounded_volumes (lacking_wh take_wh xs) fs 0 xs fs) same-floors same-fractions
