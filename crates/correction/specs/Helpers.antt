-- What the functions between the cells of the units and their volumes are held to.
use Rattle.std.specs.Prelude.{ℕ, suc, ◌+◌, ◌*◌, ◌-◌, ◌≤◌, ◌<◌, ◌≡◌, cond, List, [], ◌∷◌, map, ℤ, pos, nat_abs, length, get_or, ◌<ℤ◌}
use Rattle.std.specs.Int.Signed.{lt_z}
use Rattle.refusals.specs.Causes.{refuse, accepted, weighted_below_one, tolerance_exceeded}
use Rattle.integers.specs.declared.Quotient.{Quotient}
use Rattle.integers.specs.Sum.{sizes}
use Rattle.integers.specs.Helpers.{energy_most, weighted_most}
use Rattle.integers.specs.Rounding.{dropped_thousandths}
use Rattle.cells.specs.Cells.{is_loss_class, units}
use Rattle.correction.specs.declared.UnitSums.{UnitSums}
use Rattle.correction.specs.declared.Corrected.{Corrected}
use Rattle.correction.specs.Correction.{net_of, net_in, weighted_in, share_floor, share_fraction, exceeds_tolerance}

-- what rounding a cell drops that counts: of a loss, and nothing of a consumption
abbrev pub dropped_cell : ℕ → ℤ → ℤ
dropped_cell class c = cond (is_loss_class class) (dropped_thousandths c) (pos 0)

-- a number for each cell of a unit, from a class on
unfoldable pub each_from : (ℕ → ℤ → ℤ) → ℕ → List ℤ → List ℤ
each_from f class [] = []
each_from f class (c ∷ cells) = f class c ∷ each_from f (suc class) cells

-- what is dropped of the cells of a unit, from a class on
abbrev pub dropped_from : ℕ → List ℤ → List ℤ
dropped_from class cells = each_from dropped_cell class cells

-- a unit's droppings: import minus export
abbrev pub droppings_of : List ℤ → ℤ
droppings_of cells = net_of 0 (dropped_from 0 cells)

-- what `unit_sums` is held to: rounded cells of a size that all cells together may reach, and weights in range
pub record UnitArguments (cells : List ℤ) (weights : List ℕ) : Type 0 where
  pub cells-bound : (k : ℕ) → nat_abs (get_or cells k (pos 0)) ≤ energy_most
  pub weights-bound : (k : ℕ) → get_or weights k 0 ≤ 1000

-- what `all_units` is held to
pub record AllUnitsArguments (table : List (List ℤ)) (weights : List ℕ) : Type 0 where
  pub each : (unit : ℕ) → unit < units → UnitArguments (get_or table unit []) weights

-- what is read where there is no unit
abbrev pub no_sums : UnitSums
no_sums = record { net = pos 0; weighted = pos 0 }

-- U and W of a size that no full book exceeds
pub record CorrectedBound (x : Corrected) : Type 0 where
  pub u-bound : nat_abs x.unallocated ≤ energy_most
  pub w-bound : nat_abs x.weighted ≤ weighted_most

-- U and W as an allocation within tolerance has them
pub record IsWithinTolerance (x : Corrected) : Type 0 where
  pub sizes-bound : CorrectedBound x
  pub w-positive : pos 0 <ℤ x.weighted
  pub within-tolerance : nat_abs x.unallocated * 1000 ≤ nat_abs x.weighted

-- a unit's share rounded down, and its fraction times W
abbrev pub share_of : Corrected → UnitSums → Quotient
share_of x sums = record { floor = share_floor x.unallocated x.weighted sums; fraction = share_fraction x.unallocated x.weighted sums }

-- n and a of a size that no full book exceeds
pub record UnitBound (sums : UnitSums) : Type 0 where
  pub net-bound : nat_abs sums.net ≤ 100000000000000000
  pub weighted-bound : nat_abs sums.weighted ≤ weighted_most

-- what `share_down` is held to
pub record ShareDownArguments (sums : List UnitSums) (floors : List ℤ) : Type 0 where
  pub floors-long : length floors ≡ units
  pub bound : (k : ℕ) → UnitBound (get_or sums k no_sums)

-- what `share_down` gives
pub record SharedDown (x : Corrected) (sums : List UnitSums) (floors : List ℤ) (fractions : List ℕ) : Type 0 where
  pub floors-are : floors ≡ map (share_floor x.unallocated x.weighted) sums
  pub fractions-are : fractions ≡ map (share_fraction x.unallocated x.weighted) sums

-- a unit's key in the order of handing out: the larger fraction has the larger key, and of equal fractions the lower unit number
abbrev pub order_key : ℕ → ℕ → ℕ
order_key unit fraction = 32 * fraction + (31 - unit)

-- fractions of a W as an allocation has it
pub record FractionsBound (fractions : List ℕ) : Type 0 where
  pub each : (k : ℕ) → k < units → get_or fractions k 0 ≤ weighted_most

-- what `order_keys` gives: the key of each unit
pub record OrderKeys (fractions keys : List ℕ) : Type 0 where
  pub each-is : (k : ℕ) → k < units → get_or keys k 0 ≡ order_key k (get_or fractions k 0)

-- what `hand_out` is held to
pub record HandOutArguments (volumes : List ℤ) (lack : ℕ) : Type 0 where
  pub volumes-long : length volumes ≡ units
  pub lack-few : lack ≤ units
  pub volumes-bound : (k : ℕ) → nat_abs (get_or volumes k (pos 0)) ≤ 1000000000000000000

-- what U and W are worked from: sums of the units that no full book exceeds
pub record SumsArguments (take_wh : ℤ) (sums : List UnitSums) : Type 0 where
  pub take_bound : nat_abs take_wh ≤ 5000000000
  pub nets-bound : sizes (map net_in sums) ≤ 1390000000000
  pub weighted-bound : sizes (map weighted_in sums) ≤ weighted_most

-- causes 10 and 11 of U and W, "W below 1" first
abbrev pub cause_of : ℕ → Corrected → ℕ
cause_of tolerance x =
    refuse (lt_z x.weighted (pos 1)) weighted_below_one (refuse (exceeds_tolerance tolerance x.unallocated x.weighted) tolerance_exceeded accepted)

-- what the test of the tolerance is held to
pub record ToleranceArguments (g : ℕ) (x : Corrected) : Type 0 where
  pub g-bound : g ≤ 1000
  pub sizes-bound : CorrectedBound x

-- what `correct_units` is held to: bounds on numbers
pub record CorrectArguments (take_wh : ℤ) (tolerance : ℕ) (sums : List UnitSums) (volumes : List ℤ) : Type 0 where
  pub sums-within : SumsArguments take_wh sums
  pub tolerance-bound : tolerance ≤ 1000
  pub volumes-long : units ≤ length volumes
