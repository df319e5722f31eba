-- n and a of a unit, one class after the other: what each cell adds to them.
use Prim.Native.Nat.{ℕ, zero, suc, ◌+◌, ◌/◌, ◌%◌, ◌<◌}
use mathlib.Core.Path.{◌≡◌, refl, sym, ap}
use mathlib.Core.Bool.{Bool, true, false, cond}
use mathlib.Core.List.{List, [], ◌∷◌, map}
use native.Mathlib.Omega.{arith}
use native.Mathlib.Nat.{zero-add, le_of_suc-le-suc}
use lib.Dec.{eqb}
use lib.IntN.{ℤ, pos, neg_ℤ, nat_abs, ◌+ℤ◌, ◌*ℤ◌, +ℤ_comm, +ℤ_assoc, neg_ℤ-+ℤ}
use lib.ListN.{length, take, get_or}
use Rattle.integers.specs.Sum.{sum}
use Rattle.integers.specs.Rounding.{dropped_thousandths}
use Rattle.integers.proofs.Size.{size-neg}
use Rattle.cells.specs.Cells.{count_from}
use Rattle.correction.specs.Correction.{by_direction, net_of, weighted_of}
use Rattle.correction.specs.Helpers.{dropped_cell, each_from, dropped_from}

-- a number for each cell: from any class on, and from the first
module _ (f : ℕ → ℤ → ℤ) where
  pub each-length : (class : ℕ) (cells : List ℤ) → length (each_from f class cells) ≡ length cells
  unfolding each_from
  each-length class [] = refl
  each-length class (c ∷ cells) = ap suc (each-length (suc class) cells)

  each_from_lem : (class : ℕ) (cells : List ℤ) (i : ℕ) → i < length cells → get_or (each_from f class cells) i (pos 0) ≡ f (class + i) (get_or cells i (pos 0))
  unfolding each_from
  each_from_lem class [] i h = absurd (omega arith)
  each_from_lem class (c ∷ cells) zero h = let e : class + 0 ≡ class = omega arith in rw e
  each_from_lem class (c ∷ cells) (suc i) h =
      let e : class + suc i ≡ suc class + i = omega arith in
      rw e (each_from_lem (suc class) cells i (le_of_suc-le-suc h))

  each-entry : (cells : List ℤ) (i : ℕ) → i < length cells → get_or (each_from f 0 cells) i (pos 0) ≡ f i (get_or cells i (pos 0))
  each-entry cells i h = rw zero-add at (each_from_lem 0 cells i h)

net-from : (class : ℕ) (cells : List ℤ) (i : ℕ) → i < length cells
    → net_of class (take (suc i) cells) ≡ net_of class (take i cells) +ℤ by_direction (class + i) (get_or cells i (pos 0))
unfolding net_of
net-from class [] i h = absurd (omega arith)
net-from class (c ∷ cells) zero h =
    let e : class + 0 ≡ class = omega arith in
    rw e (+ℤ_comm (by_direction class c) (pos 0))
net-from class (c ∷ cells) (suc i) h =
    let e : class + suc i ≡ suc class + i = omega arith in
    rw (e, net-from (suc class) cells i (le_of_suc-le-suc h))
    (sym (+ℤ_assoc (by_direction class c) (net_of (suc class) (take i cells)) (by_direction (suc class + i) (get_or cells i (pos 0)))))

pub net-next : (cells : List ℤ) (i : ℕ) → i < length cells → net_of 0 (take (suc i) cells) ≡ net_of 0 (take i cells) +ℤ by_direction i (get_or cells i (pos 0))
net-next cells i h = rw zero-add at (net-from 0 cells i h)

-- n of numbers worked out at each class, as a sum
pub net-counted : (f : ℕ → ℤ) (k n : ℕ) → net_of k (map f (count_from k n)) ≡ sum (map (λ class. by_direction class (f class)) (count_from k n))
unfolding net_of sum count_from
net-counted f k zero = refl
net-counted f k (suc n) = ap (λ z. by_direction k (f k) +ℤ z) (net-counted f (suc k) n)

pub weighted-next : (cells : List ℤ) (weights : List ℕ) (i : ℕ) → i < length cells → i < length weights
    → weighted_of (take (suc i) cells) weights ≡ weighted_of (take i cells) weights +ℤ get_or cells i (pos 0) *ℤ pos (get_or weights i 0)
unfolding weighted_of
weighted-next [] weights i h k = absurd (omega arith)
weighted-next (c ∷ cells) [] i h k = absurd (omega arith)
weighted-next (c ∷ cells) (w ∷ weights) zero h k = +ℤ_comm (c *ℤ pos w) (pos 0)
weighted-next (c ∷ cells) (w ∷ weights) (suc i) h k =
    rw (weighted-next cells weights i (le_of_suc-le-suc h) (le_of_suc-le-suc k))
    (sym (+ℤ_assoc (c *ℤ pos w) (weighted_of (take i cells) weights) (get_or cells i (pos 0) *ℤ pos (get_or weights i 0))))

-- a cell's sign in n does not change its size
pub direction-size : (class : ℕ) (c : ℤ) → nat_abs (by_direction class c) ≡ nat_abs c
direction-size class c = by (eqb (class / 4 % 2) 0)
  where
    by : (t : Bool) → nat_abs (cond t c (neg_ℤ c)) ≡ nat_abs c
    by true = refl
    by false = size-neg c

-- a pair of classes, consumption and the losses after it: what is dropped, and their one direction
module _ (cells : List ℤ) (i : ℕ) (even : i % 2 ≡ 0) where
  odd : (i + 1) % 2 ≡ 1
  odd = omega arith

  pub none_dropped : i < length cells → get_or (dropped_from 0 cells) i (pos 0) ≡ pos 0
  none_dropped h = rw (each-entry dropped_cell cells i h, even)

  pub loss-dropped : i + 1 < length cells → get_or (dropped_from 0 cells) (i + 1) (pos 0) ≡ dropped_thousandths (get_or cells (i + 1) (pos 0))
  loss-dropped h = rw (each-entry dropped_cell cells (i + 1) h, odd)

direction-pair : (class : ℕ) (a b : ℤ) → class % 2 ≡ 0 → by_direction class (a +ℤ b) ≡ by_direction class a +ℤ by_direction (suc class) b
direction-pair class a b even =
    let half : suc class / 2 ≡ class / 2 = omega arith in
    let e : suc class / 4 ≡ class / 4 = omega arith in
    rw e (by (eqb (class / 4 % 2) 0))
  where
    by : (t : Bool) → cond t (a +ℤ b) (neg_ℤ (a +ℤ b)) ≡ cond t a (neg_ℤ a) +ℤ cond t b (neg_ℤ b)
    by true = refl
    by false = neg_ℤ-+ℤ a b

pub net-next-pair : (cells : List ℤ) (i : ℕ) → suc i < length cells → i % 2 ≡ 0
    → net_of 0 (take (suc (suc i)) cells) ≡ net_of 0 (take i cells) +ℤ by_direction i (get_or cells i (pos 0) +ℤ get_or cells (suc i) (pos 0))
net-next-pair cells i h even =
    rw (net-next cells (suc i) h, net-next cells i (omega arith), direction-pair i (get_or cells i (pos 0)) (get_or cells (suc i) (pos 0)) even)
    (+ℤ_assoc (net_of 0 (take i cells)) (by_direction i (get_or cells i (pos 0))) (by_direction (suc i) (get_or cells (suc i) (pos 0))))
