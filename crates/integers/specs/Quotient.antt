-- Quotients by a whole number above 0.
use Rattle.std.specs.Prelude.{ℕ, ◌-◌, ◌/◌, ◌%◌, ℤ, pos, negsuc}
use Rattle.integers.specs.declared.Quotient.{Quotient}

-- "rounded down (toward minus infinity)": the largest whole number that is not above x / d
unfoldable pub floor_of : ℤ → ℕ → ℤ
floor_of (pos n) d = pos (n / d)
floor_of (negsuc n) d = negsuc (n / d)

-- "the largest fraction": how far x / d is above that number, times d
unfoldable pub fraction_of : ℤ → ℕ → ℕ
fraction_of (pos n) d = n % d
fraction_of (negsuc n) d = d - 1 - n % d

-- the two together
abbrev pub quotient_of : ℤ → ℕ → Quotient
quotient_of x d = record { floor = floor_of x d; fraction = fraction_of x d }
