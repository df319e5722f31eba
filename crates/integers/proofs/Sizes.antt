-- The sizes of numbers, added up: of lists put together, one after the other, as a bound of each and of their sum, and where one number is replaced.
use Prim.Native.Nat.{ℕ, zero, suc, ◌+◌, ◌≤◌, ◌<◌}
use mathlib.Core.Path.{◌≡◌}
use mathlib.Core.List.{List, [], ◌∷◌, ◌++◌}
use native.Mathlib.Omega.{arith}
use lib.IntN.{ℤ, pos, nat_abs}
use lib.ListN.{length, get_or, set, take}
use lib.Seq.{take-suc}
use Rattle.integers.specs.Sum.{sum, sizes}
use Rattle.integers.proofs.Size.{size-plus}

pub size-sum : (xs : List ℤ) → nat_abs (sum xs) ≤ sizes xs
unfolding sum sizes
size-sum [] = omega arith
size-sum (x ∷ xs) = omega (arith, size-plus x (sum xs), size-sum xs)

pub size-entry : (xs : List ℤ) (i : ℕ) → nat_abs (get_or xs i (pos 0)) ≤ sizes xs
unfolding sizes
size-entry [] i = omega arith
size-entry (x ∷ xs) zero = omega arith
size-entry (x ∷ xs) (suc i) = omega (arith, size-entry xs i)

pub sizes-append : (xs ys : List ℤ) → sizes (xs ++ ys) ≡ sizes xs + sizes ys
unfolding sizes
sizes-append [] ys = omega arith
sizes-append (x ∷ xs) ys = omega (arith, sizes-append xs ys)

-- added up one after the other, as a loop does
pub sizes-take : (xs : List ℤ) (i : ℕ) → i < length xs → sizes (take (suc i) xs) ≡ sizes (take i xs) + nat_abs (get_or xs i (pos 0))
unfolding sizes
sizes-take xs i h = rw (take-suc xs i (pos 0) h, sizes-append (take i xs) (get_or xs i (pos 0) ∷ [])) (omega arith)

pub sizes-set : (xs : List ℤ) (i : ℕ) (x : ℤ) → i < length xs → sizes (set xs i x) + nat_abs (get_or xs i (pos 0)) ≡ sizes xs + nat_abs x
unfolding sizes
sizes-set [] i x h = absurd (omega arith)
sizes-set (y ∷ xs) zero x h = omega arith
sizes-set (y ∷ xs) (suc i) x h = omega (arith, sizes-set xs i x (omega arith))
