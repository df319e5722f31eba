-- `product_quotient` meets its contract. The loop's invariant: what is done is the quotient of m / 2^(11 i), the digits taken, times a.
use mathlib.Core.Path.{◌≡◌}
use Prim.Native.Nat.{ℕ, ◌*◌, ◌/◌, ◌^◌, ◌≤◌}
use lib.IntN.{ℤ, pos, nat_abs, ◌*ℤ◌}
use Rattle.integers.specs.declared.Quotient.{Quotient}
use Rattle.integers.specs.Quotient.{quotient_of}
use Rattle.integers.proofs.product_quotient.Given as goal

-- the quotient of what the digits from place i on give
abbrev pub taken : ℕ → ℤ → ℤ → ℕ → Quotient
taken m a w i = quotient_of (pos (m / 2 ^ (11 * i)) *ℤ a) (nat_abs w)

abbrev pub invariant-loop-i : goal.invariant-loop-i
invariant-loop-i l = (l.i ≤ 4) × (l.done ≡ taken l.m l.a l.w l.i)
