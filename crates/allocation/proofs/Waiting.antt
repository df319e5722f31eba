-- Cause 9 of a slice: one category after the other decides, until shapes or numbers are at their end.
use Prim.Native.Nat.{ℕ}
use mathlib.Core.Path.{◌≡◌, refl}
use mathlib.Core.Bool.{false}
use mathlib.Core.List.{List, [], ◌∷◌}
use native.Mathlib.Omega.{arith}
use lib.IntN.{ℤ}
use lib.ListN.{length}
use Rattle.allocation.specs.Running.{any_waits}

pub no-shape-left : (shapes : List ℕ) (numbers : List ℤ) → length shapes ≡ 0 → any_waits shapes numbers ≡ false
unfolding any_waits
no-shape-left [] numbers h = refl
no-shape-left (shape ∷ shapes) numbers h = absurd (omega arith)

pub no-number-left : (shapes : List ℕ) (numbers : List ℤ) → length numbers ≡ 0 → any_waits shapes numbers ≡ false
unfolding any_waits
no-number-left [] numbers h = refl
no-number-left (shape ∷ shapes) [] h = refl
no-number-left (shape ∷ shapes) (x ∷ numbers) h = absurd (omega arith)
