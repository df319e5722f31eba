-- What rounding drops of a unit's losses: as `round_unit` works it, a pair of classes after the other, and as a sum over the loss classes.
use Prim.Native.Nat.{ℕ, zero, suc, ◌+◌, ◌/◌, ◌%◌, ◌*◌, ◌≤◌, ◌<◌}
use mathlib.Core.Path.{◌≡◌, refl, ap, ◌∙◌, fun_ext}
use mathlib.Core.Bool.{Bool, true, false, cond}
use mathlib.Core.List.{List, ◌∷◌, map}
use native.Mathlib.Omega.{arith}
use native.Mathlib.Numerals.{add-one}
use lib.Dec.{eqb}
use lib.IntN.{ℤ, pos, neg_ℤ, nat_abs, ◌+ℤ◌, +ℤ_idl}
use lib.ListN.{length, take, get_or}
use lib.Seq.{take_all}
use mir.Syntax.{w64}
use mir.Val.{of_z, to_z}
use Rattle.integers.specs.declared.Rounded.{Rounded}
use Rattle.integers.specs.Sum.{sum}
use Rattle.integers.specs.Rounding.{dropped_thousandths, rounded_of}
use Rattle.integers.proofs.Linear.{sized}
use Rattle.integers.proofs.Nearest.{nearest-half}
use Rattle.book.specs.Limits.{classes}
use Rattle.cells.specs.Cells.{units, is_loss_class, count_from}
use Rattle.cells.proofs.Counting.{counted-length, counted-at, counted-list}
use Rattle.correction.specs.Correction.{by_direction, over_losses, net_of}
use Rattle.correction.specs.Slice.{unit_cells}
use Rattle.correction.specs.Helpers.{dropped_cell, each_from, dropped_from, droppings_of}
use Rattle.correction.proofs.UnitCells.{unit-cells-long}
use Rattle.correction.proofs.RunningSums.{each-length, none_dropped, loss-dropped, net-next-pair, net-counted, direction-size}

-- a pair more
pub next-droppings : (cells : List ℤ) (i : ℕ) → i + 1 < length cells → i % 2 ≡ 0
    → net_of 0 (take (i + 2) (dropped_from 0 cells)) ≡ net_of 0 (take i (dropped_from 0 cells)) +ℤ by_direction i (dropped_thousandths (get_or cells (i + 1) (pos 0)))
next-droppings cells i h even =
    let two : i + 2 ≡ suc (suc i) = omega arith in
    let lost = rw add-one at (loss-dropped cells i even h) in
    rw (two, net-next-pair (dropped_from 0 cells) i (omega (arith, each-length dropped_cell 0 cells)) even, none_dropped cells i even (omega arith), lost, +ℤ_idl, add-one)

-- past the last class
pub all-dropped : (cells : List ℤ) (i : ℕ) → length cells ≤ i → net_of 0 (take i (dropped_from 0 cells)) ≡ droppings_of cells
all-dropped cells i past = ap (net_of 0) (take_all i (dropped_from 0 cells) (omega (arith, each-length dropped_cell 0 cells)))

-- what is dropped, with its sign, is half a Wh at most
module _ (class : ℕ) (x : ℤ) {r : Rounded} {d : ℤ} (gives : r ≡ rounded_of x) (directed : d ≡ by_direction class (to_z w64 (of_z w64 r.dropped))) where
  dropped-half : nat_abs r.dropped ≤ 500
  dropped-half = rw gives (nearest-half x)

  directed-is : d ≡ by_direction class (dropped_thousandths x)
  directed-is = let read : to_z w64 (of_z w64 r.dropped) ≡ r.dropped = omega (sized, dropped-half) in rw (read, gives) at directed

  pub directed-half : (d ≡ by_direction class (dropped_thousandths x)) × (nat_abs d ≤ 500)
  directed-half = (directed-is, rw (directed-is, direction-size class (dropped_thousandths x)) (nearest-half x))

-- the droppings of a unit, class by class: what its loss classes drop, import minus export
each-counted : (g : ℕ → ℤ → ℤ) (f : ℕ → ℤ) (k n : ℕ) → each_from g k (map f (count_from k n)) ≡ map (λ class. g class (f class)) (count_from k n)
unfolding each_from count_from
each-counted g f k zero = refl
each-counted g f k (suc n) = ap (λ (xs : List ℤ). g k (f k) ∷ xs) (each-counted g f (suc k) n)

droppings-counted : (f : ℕ → ℤ) → droppings_of (map f (count_from 0 classes)) ≡ over_losses (λ class. dropped_thousandths (f class))
droppings-counted f =
    ap (net_of 0) (each-counted dropped_cell f 0 classes)
    ∙ net-counted (λ class. dropped_cell class (f class)) 0 classes
    ∙ ap (λ (g : ℕ → ℤ). sum (map g (count_from 0 classes))) (fun_ext each)
  where
    by : (loss import : Bool) (x : ℤ) → cond import (cond loss x (pos 0)) (neg_ℤ (cond loss x (pos 0))) ≡ cond loss (cond import x (neg_ℤ x)) (pos 0)
    by true import x = refl
    by false true x = refl
    by false false x = refl

    each : (class : ℕ) → by_direction class (dropped_cell class (f class)) ≡ cond (is_loss_class class) (by_direction class (dropped_thousandths (f class))) (pos 0)
    each class = by (is_loss_class class) (eqb (class / 4 % 2) 0) (dropped_thousandths (f class))

-- those of 24 cells, and of the units of a slice
abbrev loss_droppings : List ℤ → ℤ
loss_droppings cells = over_losses (λ class. dropped_thousandths (get_or cells class (pos 0)))

droppings-by-class : (cells : List ℤ) → length cells ≡ classes → droppings_of cells ≡ loss_droppings cells
droppings-by-class cells long =
    let f : ℕ → ℤ = λ class. get_or cells class (pos 0) in
    ap droppings_of (counted-list f classes cells (pos 0) long (λ i h. refl)) ∙ droppings-counted f

pub slice-droppings : (cells : List ℤ) → classes * units ≤ length cells
    → map (λ unit. droppings_of (unit_cells cells unit)) (count_from 0 units) ≡ map (λ unit. loss_droppings (unit_cells cells unit)) (count_from 0 units)
slice-droppings cells long =
    let worked : ℕ → ℤ = λ unit. droppings_of (unit_cells cells unit) in
    counted-list (λ unit. loss_droppings (unit_cells cells unit)) units (map worked (count_from 0 units)) (pos 0) (counted-length worked units)
    (λ unit h. counted-at worked units unit (pos 0) h ∙ droppings-by-class (unit_cells cells unit) (unit-cells-long cells unit long h))
