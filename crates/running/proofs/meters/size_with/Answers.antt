-- `size_with` meets its contract: the two cells are far inside an i64, and the sizes added up inside a u64.
use Prim.Native.Nat.{ℕ, ◌*◌, ◌+◌, ◌≤◌}
use mathlib.Core.Path.{◌≡◌, ap, ap₂, ◌∙◌}
use mathlib.Core.List.{List}
use native.Mathlib.Omega.{arith}
use lib.IntN.{ℤ, pos, nat_abs, ◌+ℤ◌}
use lib.ListN.{get_or}
use mir.Syntax.{w64}
use mir.Val.{to_z, of_z}
use Rattle.integers.proofs.Linear.{sized}
use Rattle.running.specs.Running.{sizes_most}
use Rattle.running.specs.Helpers.{amount_most, pair_size, PairArguments}
use Rattle.running.proofs.SizeAfter.{pair_small}
use Rattle.running.proofs.meters.size_with.Goals as goal

-- the size of a cell as it is, and with an amount
module _ (x : ℤ) (h : nat_abs x ≤ sizes_most + 0 * amount_most) where
  size-now : nat_abs (to_z w64 (of_z w64 x)) ≡ nat_abs (x +ℤ pos 0)
  size-now = let e : to_z w64 (of_z w64 x) ≡ x +ℤ pos 0 = omega (sized, h) in ap nat_abs e

  size-then : (a : ℤ) → nat_abs a ≤ 2 * amount_most → nat_abs (to_z w64 (of_z w64 (to_z w64 (of_z w64 x) +ℤ to_z w64 (of_z w64 a)))) ≡ nat_abs (x +ℤ a)
  size-then a k = let e : to_z w64 (of_z w64 (to_z w64 (of_z w64 x) +ℤ to_z w64 (of_z w64 a))) ≡ x +ℤ a = omega (sized, h, k) in ap nat_abs e

-- both cells, from their sizes as the code works them
module _ {cells : List ℤ} {at : ℕ} {first second : ℤ} {size : ℕ} (p : PairArguments cells at first second size) where
  abbrev x : ℤ
  x = get_or cells at (pos 0)

  abbrev y : ℤ
  y = get_or cells (at + 1) (pos 0)

  x-most : nat_abs x ≤ sizes_most + 0 * amount_most
  x-most = p.near.word-most at (omega (arith, p.at_bound))

  y-most : nat_abs y ≤ sizes_most + 0 * amount_most
  y-most = p.near.word-most (at + 1) (omega (arith, p.at_bound))

  before-is : {m n : ℕ} → m ≡ nat_abs (to_z w64 (of_z w64 x)) → n ≡ nat_abs (to_z w64 (of_z w64 y)) → m + n ≡ pair_size cells at (pos 0) (pos 0)
  unfolding pair_size
  before-is e f = ap₂ ◌+◌ (e ∙ size-now x x-most) (f ∙ size-now y y-most)

  module _ {m n : ℕ} (e : m ≡ nat_abs (to_z w64 (of_z w64 (to_z w64 (of_z w64 x) +ℤ to_z w64 (of_z w64 first))))) (f : n ≡ nat_abs (to_z w64 (of_z w64 (to_z w64 (of_z w64 y) +ℤ to_z w64 (of_z w64 second))))) where
    after_is : m + n ≡ pair_size cells at first second
    unfolding pair_size
    after_is = ap₂ ◌+◌ (e ∙ size-then x x-most first p.first-bound) (f ∙ size-then y y-most second p.second-bound)

    after-most : m + n ≤ 2621480000000000
    after-most = omega (arith, after_is, pair_small cells at first second p.near p.at_bound, p.first-bound, p.second-bound)

pub overflow_add-after : goal.overflow_add-after
overflow_add-after c = omega (arith, after-most c.requires c.unsigned_abs.ensures.value c.unsigned_abs-2.ensures.value)

pub overflow_add-result : goal.overflow_add-result
overflow_add-result c = omega (arith, after-most c.requires c.unsigned_abs.ensures.value c.unsigned_abs-2.ensures.value, c.requires.size-bound)

pub overflow_sub-result : goal.overflow_sub-result
overflow_sub-result c =
    omega (
      arith,
      before-is c.requires c.unsigned_abs-3.ensures.value c.unsigned_abs-4.ensures.value,
      after_is c.requires c.unsigned_abs.ensures.value c.unsigned_abs-2.ensures.value,
      c.requires.among,
    )

pub returns : goal.returns
returns c =
    omega (
      arith,
      before-is c.requires c.unsigned_abs-3.ensures.value c.unsigned_abs-4.ensures.value,
      after_is c.requires c.unsigned_abs.ensures.value c.unsigned_abs-2.ensures.value,
      c.requires.among,
    )
