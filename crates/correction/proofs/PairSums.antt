-- A pair of classes, consumption and its losses, as `unit_sums` works it: how large its numbers are, and what it adds to n and a.
use Prim.Native.Nat.{ℕ, suc, ◌+◌, ◌*◌, ◌%◌, ◌≤◌, ◌<◌}
use mathlib.Core.Path.{◌≡◌, ap₂}
use mathlib.Core.List.{List}
use native.Mathlib.Omega.{arith}
use native.Mathlib.Numerals.{add-one}
use borrow.Author.Differences.{up, down}
use lib.IntN.{ℤ, pos, nat_abs, ◌+ℤ◌, ◌*ℤ◌}
use lib.ListN.{length, take, get_or}
use mir.Syntax.{w64}
use mir.Val.{to_z, of_z}
use Rattle.integers.specs.Helpers.{energy_most, weighted_most}
use Rattle.integers.proofs.Linear.{linear, size, sized}
use Rattle.integers.proofs.Size.{plus-bound, times-bound}
use Rattle.correction.specs.Correction.{by_direction, net_of, weighted_of}
use Rattle.correction.specs.Helpers.{UnitArguments}
use Rattle.correction.proofs.RunningSums.{net-next-pair, weighted-next, direction-size}

-- n and a of the first i cells, and how large they can be
pub record Passed (cells : List ℤ) (weights : List ℕ) (i : ℕ) (net weighted : ℤ) : Type 0 where
  pub net-is : net ≡ net_of 0 (take i cells)
  pub weighted-is : weighted ≡ weighted_of (take i cells) weights
  pub net-bound : nat_abs net ≤ i * energy_most
  pub weighted-bound : nat_abs weighted ≤ i * weighted_most

-- a cell times its weight, as the code works it
pub record Product (worked product : ℤ) : Type 0 where
  is : worked ≡ product
  bound : nat_abs product ≤ weighted_most

module _ {cells : List ℤ} {weights : List ℕ} (args : UnitArguments cells weights) (k : ℕ) where
  pub cell-in : nat_abs (get_or cells k (pos 0)) ≤ energy_most
  cell-in = args.cells-bound k

  cell-read : to_z w64 (of_z w64 (get_or cells k (pos 0))) ≡ get_or cells k (pos 0)
  cell-read = omega (sized, cell-in)

  module _ {v : ℤ} (v-is : v ≡ pos (get_or weights k 0)) where
    times : Product (to_z w64 (of_z w64 (get_or cells k (pos 0))) *ℤ to_z w64 (of_z w64 v)) (get_or cells k (pos 0) *ℤ pos (get_or weights k 0))
    times =
        let weight-read : to_z w64 (of_z w64 v) ≡ pos (get_or weights k 0) = omega (linear, v-is, args.weights-bound k) in
        record { is = ap₂ ◌*ℤ◌ cell-read weight-read; bound = times-bound (get_or cells k (pos 0)) (pos (get_or weights k 0)) cell-in (args.weights-bound k) }

    pub times-in : up (to_z w64 (of_z w64 (get_or cells k (pos 0))) *ℤ to_z w64 (of_z w64 v)) + down (to_z w64 (of_z w64 (get_or cells k (pos 0))) *ℤ to_z w64 (of_z w64 v)) ≤ weighted_most
    times-in = rw times.is (omega (sized, times.bound))

-- the pair of the classes i and i + 1
module _ {cells : List ℤ} {weights : List ℕ} (i : ℕ) (args : UnitArguments cells weights) (cells-long : length cells ≡ 24) (weights-long : length weights ≡ 24) (inside : i + 1 < 24) (even : i % 2 ≡ 0) where
  abbrev used : ℤ
  used = get_or cells i (pos 0)

  abbrev lost : ℤ
  lost = get_or cells (i + 1) (pos 0)

  both-read : to_z w64 (of_z w64 (to_z w64 (of_z w64 used) +ℤ to_z w64 (of_z w64 lost))) ≡ used +ℤ lost
  both-read = omega (sized, cell-in args i, cell-in args (i + 1))

  two : i + 2 ≡ suc (suc i)
  two = omega arith

  next-net : net_of 0 (take (i + 2) cells) ≡ net_of 0 (take i cells) +ℤ by_direction i (used +ℤ lost)
  next-net = rw (two, net-next-pair cells i (omega arith) even, add-one)

  next-weighted : weighted_of (take (i + 2) cells) weights ≡ weighted_of (take i cells) weights +ℤ used *ℤ pos (get_or weights i 0) +ℤ lost *ℤ pos (get_or weights (i + 1) 0)
  next-weighted = rw (two, add-one, weighted-next cells weights (suc i) (omega arith) (omega arith), weighted-next cells weights i (omega arith) (omega arith))

  -- its part of n, d, and of a, with the weights v and w
  pub passed-next : (n a : ℕ) → Passed cells weights i (to_z w64 n) (to_z w64 a) → {d v w : ℤ}
      → d ≡ by_direction i (to_z w64 (of_z w64 (to_z w64 (of_z w64 used) +ℤ to_z w64 (of_z w64 lost))))
      → v ≡ pos (get_or weights i 0) → w ≡ pos (get_or weights (i + 1) 0)
      → Passed cells weights (i + 2) (to_z w64 (of_z w64 (to_z w64 n +ℤ to_z w64 (of_z w64 d))))
      (to_z w64 (of_z w64 (to_z w64 (of_z w64 (to_z w64 a +ℤ to_z w64 (of_z w64 (to_z w64 (of_z w64 used) *ℤ to_z w64 (of_z w64 v)))))
      +ℤ to_z w64 (of_z w64 (to_z w64 (of_z w64 lost) *ℤ to_z w64 (of_z w64 w))))))
  passed-next n a p {d} d-is v-is w-is =
      let x = times args i v-is in
      let y = times args (i + 1) w-is in
      let u = used *ℤ pos (get_or weights i 0) in
      let l = lost *ℤ pos (get_or weights (i + 1) 0) in
      let is : d ≡ by_direction i (used +ℤ lost) = rw both-read at d-is in
      let d-bound : nat_abs d ≤ energy_most + energy_most =
      rw (is, direction-size i (used +ℤ lost)) (plus-bound used lost (cell-in args i) (cell-in args (i + 1))) in
      record {
        net-is = omega (linear, p.net-is, p.net-bound, size (to_z w64 n), size d, is, d-bound, next-net);
        weighted-is = omega (linear, p.weighted-is, p.weighted-bound, size (to_z w64 a), x.is, x.bound, size u, y.is, y.bound, size l, next-weighted);
        net-bound = omega (linear, p.net-bound, size (to_z w64 n), size d, d-bound);
        weighted-bound = omega (linear, p.weighted-bound, size (to_z w64 a), x.is, x.bound, size u, y.is, y.bound, size l);
      }

pub ruleset pair_sums = (sized, cell-in, times-in)
