-- One digit of a first factor, in base 2,048: how large its product with the second factor is, as the code works it.
use Prim.Native.Nat.{ℕ, ◌≤◌, ◌<◌}
use mathlib.Core.Path.{◌≡◌, ap₂}
use native.Mathlib.Omega.{arith}
use lib.IntN.{ℤ, pos, nat_abs, ◌*ℤ◌}
use mir.Syntax.{w64}
use mir.Val.{to_z, of_z}
use Rattle.integers.specs.Helpers.{weighted_most}
use Rattle.integers.proofs.Linear.{linear, sized}
use Rattle.integers.proofs.Size.{times-bound}

module _ (digit : ℕ) (a : ℤ) (h : digit < 2048) (k : nat_abs a ≤ weighted_most) where
  pub product-read : to_z w64 digit *ℤ to_z w64 (of_z w64 a) ≡ pos digit *ℤ a
  product-read =
      let read-digit : to_z w64 digit ≡ pos digit = omega linear in
      let read-a : to_z w64 (of_z w64 a) ≡ a = omega sized in
      ap₂ ◌*ℤ◌ read-digit read-a

  pub product-size : nat_abs (pos digit *ℤ a) ≤ 2865800000000000000
  product-size =
      let d : digit ≤ 2047 = omega arith in
      times-bound (pos digit) a d k

  pub product-within : nat_abs (to_z w64 digit *ℤ to_z w64 (of_z w64 a)) ≤ 2865800000000000000
  product-within = rw product-read product-size

pub ruleset digit_sums = (sized, product-within)
