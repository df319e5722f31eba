-- The order of handing out by keys: of two units the one with the larger key comes first.
use Prim.Native.Nat.{ℕ, ◌≤◌, ◌<◌}
use mathlib.Core.Path.{◌≡◌}
use mathlib.Core.Bool.{true, false}
use native.Mathlib.Omega.{arith}
use borrow.Author.Tests.{ltb-true, ltb-false}
use lib.Dec.{ltb}
use Rattle.words.proofs.Tests.{by-test}
use Rattle.correction.specs.Volumes.{comes_before}
use Rattle.correction.specs.Helpers.{order_key}
use Rattle.correction.proofs.Ranked.{Before, larger, lower, order-of-test, test-of-order}

larger-key : {i f j g : ℕ} → i < 32 → j < 32 → Before i f j g → order_key i f < order_key j g
larger-key p q (larger h) = omega arith
larger-key p q (lower e h) = omega arith

module _ (i f j g : ℕ) (p : i < 32) (q : j < 32) where
  pub key-before : order_key i f < order_key j g → comes_before i f j g ≡ true
  key-before h =
      by-test (ltb f g)
      (λ t. test-of-order {i = i} {f = f} {j = j} {g = g} (larger (ltb-true f g t)))
      (λ t. test-of-order {i = i} {f = f} {j = j} {g = g} (lower (omega (arith, ltb-false f g t)) (omega (arith, ltb-false f g t))))

  pub key-after : order_key j g ≤ order_key i f → comes_before i f j g ≡ false
  key-after h =
      by-test (comes_before i f j g)
      (λ t. absurd (omega (arith, larger-key p q (order-of-test {i = i} {f = f} {j = j} {g = g} t))))
      (λ t. t)
