-- The size of a number, `nat_abs`: of sums, products and negations, and as a bound on both sides.
use Prim.Native.Nat.{ℕ, suc, ◌+◌, ◌*◌, ◌≤◌, ◌<◌}
use mathlib.Core.Path.{◌≡◌, refl}
use native.Mathlib.Omega.{arith}
use native.Mathlib.Nat.{mul-le-mul}
use lib.IntN.{ℤ, pos, negsuc, nat_abs, neg_ℤ, ◌+ℤ◌, ◌-ℤ◌, ◌*ℤ◌}
use lib.Signed.{◌≤ℤ◌, ◌<ℤ◌}
use Rattle.integers.proofs.Linear.{linear, size, one_side}

pub size-neg : (z : ℤ) → nat_abs (neg_ℤ z) ≡ nat_abs z
size-neg z = omega (linear, size z, size (neg_ℤ z))

pub size-positive : (z : ℤ) → pos 0 <ℤ z → 0 < nat_abs z
size-positive z p = omega (linear, size z)

pub size-plus : (a b : ℤ) → nat_abs (a +ℤ b) ≤ nat_abs a + nat_abs b
size-plus a b = omega (linear, size a, size b, size (a +ℤ b), one_side (a +ℤ b))

pub size-minus : (a b : ℤ) → nat_abs (a -ℤ b) ≤ nat_abs a + nat_abs b
size-minus a b = omega (arith, size-plus a (neg_ℤ b), size-neg b)

pub size-times : (a b : ℤ) → nat_abs (a *ℤ b) ≡ nat_abs a * nat_abs b
size-times (pos a) (pos b) = refl
size-times (pos a) (negsuc b) = size-neg (pos (a * suc b))
size-times (negsuc a) (pos b) = size-neg (pos (suc a * b))
size-times (negsuc a) (negsuc b) = refl

-- bounds of two numbers as bounds of their sum, difference and product
module _ (a b : ℤ) {A B : ℕ} (h : nat_abs a ≤ A) (k : nat_abs b ≤ B) where
  pub plus-bound : nat_abs (a +ℤ b) ≤ A + B
  plus-bound = omega (arith, size-plus a b)

  pub minus-bound : nat_abs (a -ℤ b) ≤ A + B
  minus-bound = omega (arith, size-minus a b)

  pub times-bound : nat_abs (a *ℤ b) ≤ A * B
  times-bound = rw size-times (mul-le-mul h k)

-- within B, from two orders
module _ {x : ℤ} {B : ℕ} where
  pub within : neg_ℤ (pos B) ≤ℤ x → x ≤ℤ pos B → nat_abs x ≤ B
  within h k = omega (linear, size x, one_side x)
