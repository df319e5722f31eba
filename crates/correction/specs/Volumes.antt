-- "Correction and the last watt-hours": the last watt-hours.
use Rattle.std.specs.Prelude.{ℕ, suc, ◌+◌, Bool, ◌&&◌, ◌||◌, cond, List, [], ◌∷◌, ◌++◌, map, ltb, eqb, ℤ, pos, nat_abs, ◌+ℤ◌, ◌-ℤ◌, drop}
use Rattle.integers.specs.Sum.{sum}
use Rattle.cells.specs.Cells.{units}
use Rattle.correction.specs.declared.UnitSums.{UnitSums}
use Rattle.correction.specs.Correction.{unallocated_of, weighted_total, share_floor, share_fraction}

-- "to the units with the largest fraction, equal fractions to the lower unit number": whether unit j, of fraction g, comes before unit i, of fraction f
abbrev pub comes_before : ℕ → ℕ → ℕ → ℕ → Bool
comes_before i f j g = ltb f g || (eqb f g && ltb j i)

-- how many units come before unit i, of fraction f, among those from unit j on
unfoldable pub count_before : ℕ → ℕ → ℕ → List ℕ → ℕ
count_before i f j [] = 0
count_before i f j (g ∷ fractions) = cond (comes_before i f j g) 1 0 + count_before i f (suc j) fractions

-- "The Wh still lacking go one each": one for each unit that fewer than `lack` come before
unfoldable pub extra_wh : ℕ → List ℕ → ℕ → ℕ → ℤ
extra_wh lack fractions i f = cond (ltb (count_before i f 0 fractions) lack) (pos 1) (pos 0)

-- the volumes of the units from unit i on: "Each volume starts as its share rounded down", and its extra Wh
unfoldable pub rounded_volumes : ℕ → List ℕ → ℕ → List ℤ → List ℕ → List ℤ
rounded_volumes lack fractions i [] fs = []
rounded_volumes lack fractions i (v ∷ floors) [] = []
rounded_volumes lack fractions i (v ∷ floors) (f ∷ fs) =
    (v +ℤ extra_wh lack fractions i f) ∷ rounded_volumes lack fractions (suc i) floors fs

-- "The Wh still lacking": the Take less the shares rounded down
unfoldable pub lacking_wh : ℤ → List ℤ → ℕ
lacking_wh take_wh floors = nat_abs (take_wh -ℤ sum floors)

-- the volumes of the 32 units, from the Take, U, W and the units' sums
unfoldable pub volumes_from : ℤ → ℤ → ℤ → List UnitSums → List ℤ
volumes_from take_wh u w sums =
    rounded_volumes (lacking_wh take_wh (map (share_floor u w) sums)) (map (share_fraction u w) sums) 0
    (map (share_floor u w) sums) (map (share_fraction u w) sums)

unfoldable pub volumes_of : ℤ → List UnitSums → List ℤ
volumes_of take_wh sums = volumes_from take_wh (unallocated_of take_wh sums) (weighted_total sums) sums

-- "writes the first 32 words": a slice with these volumes at its start and every word after the 32nd as it was
unfoldable pub with_volumes : List ℤ → List ℤ → List ℤ
with_volumes volumes slice = volumes ++ drop units slice
