-- The amounts of entries as the code holds, turns and subtracts them.
use Prim.Native.Nat.{◌≤◌}
use mathlib.Core.Path.{◌≡◌}
use lib.IntN.{ℤ, pos, nat_abs, neg_ℤ, ◌-ℤ◌}
use mir.Syntax.{w64}
use mir.Val.{to_z, of_z}
use Rattle.integers.proofs.Linear.{sized}
use Rattle.running.specs.Helpers.{amount_most}

module _ (x : ℤ) (h : nat_abs x ≤ amount_most) where
  pub read : to_z w64 (of_z w64 x) ≡ x
  read = omega (sized, h)

  pub turned-read : to_z w64 (of_z w64 (pos 0 -ℤ to_z w64 (of_z w64 x))) ≡ neg_ℤ x
  turned-read = omega (sized, h)

  pub difference-read : (y : ℤ) → nat_abs y ≤ amount_most → to_z w64 (of_z w64 (to_z w64 (of_z w64 x) -ℤ to_z w64 (of_z w64 y))) ≡ x -ℤ y
  difference-read y k = omega (sized, h, k)
