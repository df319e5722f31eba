-- "Correction": n and a of a unit, U, W, and the exact share; and sums over the loss classes of a unit, with the signs of n.
use Rattle.std.specs.Prelude.{ℕ, suc, ◌/◌, ◌%◌, ◌*◌, cond, Bool, List, [], ◌∷◌, map, eqb, ltb, ℤ, pos, neg_ℤ, nat_abs, ◌+ℤ◌, ◌-ℤ◌, ◌*ℤ◌}
use Rattle.std.specs.Int.Signed.{lt_z}
use Rattle.refusals.specs.Causes.{refuse, accepted, weighted_below_one, tolerance_exceeded}
use Rattle.integers.specs.Sum.{sum}
use Rattle.integers.specs.Quotient.{floor_of, fraction_of}
use Rattle.book.specs.Limits.{classes}
use Rattle.cells.specs.Cells.{is_loss_class, sum_below}
use Rattle.correction.specs.declared.UnitSums.{UnitSums}

-- "import cells minus export cells": a cell with its sign, by the direction in its class
abbrev pub by_direction : ℕ → ℤ → ℤ
by_direction class c = cond (eqb (class / 4 % 2) 0) c (neg_ℤ c)

-- document 02, request 3: "import minus export", of what each loss class of a unit has
abbrev pub over_losses : (ℕ → ℤ) → ℤ
over_losses f = sum_below classes (λ class. cond (is_loss_class class) (by_direction class (f class)) (pos 0))

-- "n = import cells minus export cells", over the cells from a class on
unfoldable pub net_of : ℕ → List ℤ → ℤ
net_of class [] = pos 0
net_of class (c ∷ cells) = by_direction class c +ℤ net_of (suc class) cells

-- "a = the sum of c × w over all 24 classes"
unfoldable pub weighted_of : List ℤ → List ℕ → ℤ
weighted_of [] weights = pos 0
weighted_of (c ∷ cells) [] = pos 0
weighted_of (c ∷ cells) (w ∷ weights) = c *ℤ pos w +ℤ weighted_of cells weights

-- the two together, of a unit's 24 cells
abbrev pub sums_of : List ℤ → List ℕ → UnitSums
sums_of cells weights = record { net = net_of 0 cells; weighted = weighted_of cells weights }

abbrev pub net_in : UnitSums → ℤ
net_in x = x.net

abbrev pub weighted_in : UnitSums → ℤ
weighted_in x = x.weighted

-- "U = Take − the sum of n"
unfoldable pub unallocated_of : ℤ → List UnitSums → ℤ
unallocated_of take_wh sums = take_wh -ℤ sum (map net_in sums)

-- "W = the sum of a"
unfoldable pub weighted_total : List UnitSums → ℤ
weighted_total sums = sum (map weighted_in sums)

-- "The exact share of a unit is n + U × a / W", "compared after multiplying by W": n × W + U × a, a whole number over W
unfoldable pub share_numerator : ℤ → ℤ → UnitSums → ℤ
share_numerator u w x = x.net *ℤ w +ℤ u *ℤ x.weighted

-- "its share rounded down (toward minus infinity)"
unfoldable pub share_floor : ℤ → ℤ → UnitSums → ℤ
share_floor u w x = floor_of (share_numerator u w x) (nat_abs w)

-- a share's fraction, times W
unfoldable pub share_fraction : ℤ → ℤ → UnitSums → ℕ
share_fraction u w x = fraction_of (share_numerator u w x) (nat_abs w)

-- "size of U × 1,000,000 above g × W"
unfoldable pub exceeds_tolerance : ℕ → ℤ → ℤ → Bool
exceeds_tolerance g u w = ltb (g * nat_abs w) (nat_abs u * 1000000)

-- causes 10 and 11, "W below 1" first, of a Take, a tolerance and the sums of the units
unfoldable pub sums_cause : ℤ → ℕ → List UnitSums → ℕ
sums_cause take_wh tolerance sums =
    refuse (lt_z (weighted_total sums) (pos 1)) weighted_below_one
    (refuse (exceeds_tolerance tolerance (unallocated_of take_wh sums) (weighted_total sums)) tolerance_exceeded accepted)
