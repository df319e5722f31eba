-- U × a / W: what its arguments are held to, and those of one digit of |U| on the way to it.
use Rattle.std.specs.Prelude.{ℕ, ◌≤◌, ◌<◌, ℤ, pos, nat_abs, ◌<ℤ◌}
use Rattle.integers.specs.declared.Quotient.{Quotient}

-- the most Wh that a full book comes to, and the most that its weighted Wh do: a weight is at most 1,000
abbrev pub energy_most : ℕ
energy_most = 1400000000000

abbrev pub weighted_most : ℕ
weighted_most = 1400000000000000

-- the sizes that U, a and W reach in a full book, and W above 0. The tolerance keeps U far below W: then no quotient on the way, of
-- the digits of |U| taken so far times a, is larger than a, and an i64 holds each
pub record ShareArguments (u a w : ℤ) : Type 0 where
  pub u-bound : nat_abs u ≤ energy_most
  pub a-bound : nat_abs a ≤ weighted_most
  pub w-bound : nat_abs w ≤ weighted_most
  pub w-positive : pos 0 <ℤ w
  pub u-within-w : nat_abs u ≤ nat_abs w

-- a digit in base 2,048, and the quotient before it, no larger than a can be
pub record DigitArguments (done : Quotient) (digit : ℕ) (a w : ℤ) : Type 0 where
  pub floor-bound : nat_abs done.floor ≤ weighted_most
  pub fraction-below-w : done.fraction < nat_abs w
  pub digit-bound : digit < 2048
  pub a-bound : nat_abs a ≤ weighted_most
  pub w-bound : nat_abs w ≤ weighted_most
  pub w-positive : pos 0 <ℤ w
