-- Linear arithmetic over ℤ by `omega linear`: equations and orders of ℤ and the range of an i64. The library's `ints` reads a number z as
-- two naturals, `up z` less `down z`. That one of the two is 0 it does not say: a proof that needs it names `size z`, `one_side z`.
use Prim.Native.Nat.{◌+◌, min}
use mathlib.Core.Path.{◌≡◌}
use native.Mathlib.Omega.{arith}
use lib.IntN.{ℤ, pos, negsuc, nat_abs, ◌+ℤ◌, ◌-ℤ◌}
use borrow.Author.Differences.{up, down, ints}

pub ruleset linear = (arith, ints)

-- one of the two is 0
pub one_side : (z : ℤ) → min (up z) (down z) ≡ 0
one_side (pos n) = omega arith
one_side (negsuc n) = omega arith

-- what the size, the sum and the difference are in these terms
pub size : (z : ℤ) → nat_abs z ≡ up z + down z
size (pos n) = omega arith
size (negsuc n) = omega arith

-- the same, for a tactic to apply wherever it meets a number: `sized` knows what a bound of the size says
pub sides : (z : ℤ) → up z + down z ≡ nat_abs z
sides z = omega (arith, size z)

pub ruleset sized = (linear, sides)

module _ (a b : ℤ) where
  pub plus : up (a +ℤ b) + (down a + down b) ≡ down (a +ℤ b) + (up a + up b)
  plus = omega linear

  pub minus : up (a -ℤ b) + (down a + up b) ≡ down (a -ℤ b) + (up a + down b)
  minus = omega linear
