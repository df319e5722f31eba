-- Sums of natural numbers over a range, as bounds of sums of signed numbers.
use Prim.Native.Nat.{ℕ, zero, suc, ◌+◌, ◌*◌, ◌≤◌, ◌<◌}
use mathlib.Core.Path.{◌≡◌, refl, ap}
use mathlib.Core.Bool.{Bool, true, false, cond}
use native.Mathlib.Omega.{arith}
use mathlib.Core.List.{map}
use lib.Dec.{eqb}
use lib.IntN.{ℤ, nat_abs}
use borrow.Author.Tests.{eqb-true, ne_eqb}
use Rattle.integers.specs.Sum.{sizes}
use Rattle.cells.specs.Cells.{count_from}

-- f j + f (j + 1) + .., n numbers
unfoldable pub total : (ℕ → ℕ) → ℕ → ℕ → ℕ
total f j zero = 0
total f j (suc n) = f j + total f (suc j) n

pub total-plus : (f g h : ℕ → ℕ) → ((i : ℕ) → f i ≤ g i + h i) → (j n : ℕ) → total f j n ≤ total g j n + total h j n
unfolding total
total-plus f g h le j zero = omega arith
total-plus f g h le j (suc n) = omega (arith, le j, total-plus f g h le (suc j) n)

pub total_mono : (f g : ℕ → ℕ) → ((i : ℕ) → f i ≤ g i) → (j n : ℕ) → total f j n ≤ total g j n
unfolding total
total_mono f g le j zero = omega arith
total_mono f g le j (suc n) = omega (arith, le j, total_mono f g le (suc j) n)

pub total-const : (c j n : ℕ) → total (λ i. c) j n ≡ n * c
unfolding total
total-const c j zero = omega arith
total-const c j (suc n) = omega (arith, total-const c (suc j) n)

pub total-times : (k : ℕ) (f : ℕ → ℕ) (j n : ℕ) → total (λ i. k * f i) j n ≡ k * total f j n
unfolding total
total-times k f j zero = omega arith
total-times k f j (suc n) = omega (arith, total-times k f (suc j) n)

-- one term that is not 0
unfoldable pub only_at : ℕ → ℕ → ℕ → ℕ
only_at m v i = cond (eqb m i) v 0

total-past : (m v j n : ℕ) → m < j → total (only_at m v) j n ≡ 0
unfolding total only_at
total-past m v j zero h = refl
total-past m v j (suc n) h = rw (ne_eqb m j (omega arith)) (omega (arith, total-past m v (suc j) n (omega arith)))

pub total-only : (m v j n : ℕ) → total (only_at m v) j n ≤ v
unfolding total only_at
total-only m v j zero = omega arith
total-only m v j (suc n) = by (eqb m j) refl (total-only m v (suc j) n)
  where
    by : (t : Bool) → eqb m j ≡ t → total (only_at m v) (suc j) n ≤ v → cond (eqb m j) v 0 + total (only_at m v) (suc j) n ≤ v
    by true e rest = rw e (omega (arith, total-past m v (suc j) n (omega (arith, eqb-true))))
    by false e rest = rw e (omega arith)

-- the sizes of numbers, added up
pub sizes-total : (f : ℕ → ℤ) (j n : ℕ) → sizes (map f (count_from j n)) ≡ total (λ i. nat_abs (f i)) j n
unfolding sizes total count_from
sizes-total f j zero = refl
sizes-total f j (suc n) = ap (λ s. nat_abs (f j) + s) (sizes-total f (suc j) n)
