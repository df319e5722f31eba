-- Numbers in the range of an i64, as the code holds, adds and multiplies them.
use Prim.Native.Nat.{ℕ, ◌+◌, ◌*◌, ◌^◌, ◌≤◌, ◌<◌}
use mathlib.Core.Path.{◌≡◌}
use native.Mathlib.Nat.{le_refl}
use lib.IntN.{ℤ, pos, nat_abs, ◌+ℤ◌, ◌-ℤ◌, ◌*ℤ◌}
use mir.Syntax.{w64}
use mir.Val.{SFits, to_z, of_z}
use mir.ValLaws.{to_z-of_z, to_z_pos}
use Rattle.integers.proofs.Linear.{linear, size}
use Rattle.integers.proofs.Size.{plus-bound, minus-bound, times-bound}

-- by a bound: at a number that is written out, `B < 2 ^ 63` is `lit< tt`
pub fit : (x : ℤ) (B : ℕ) → nat_abs x ≤ B → B < 2 ^ 63 → SFits w64 x
fit x B h t = omega (linear, size x)

-- the bits n are read as z, whose size is at most B
pub record Held (n : ℕ) (z : ℤ) (B : ℕ) : Type 0 where
  pub reads : to_z w64 n ≡ z
  pub bound : nat_abs z ≤ B

pub held : (z : ℤ) (B : ℕ) → nat_abs z ≤ B → B < 2 ^ 63 → Held (of_z w64 z) z B
held z B h t = record { reads = to_z-of_z w64 z (fit z B h t); bound = h }

pub held-literal : (n : ℕ) → n < 2 ^ 63 → Held n (pos n) n
held-literal n t = record { reads = to_z_pos w64 n t; bound = le_refl n }

-- an operation on two of them: that it stays in range, and what it gives
module _ {m n : ℕ} {a b : ℤ} {A B : ℕ} (h : Held m a A) (k : Held n b B) where
  pub plus-fits : A + B < 2 ^ 63 → SFits w64 (to_z w64 m +ℤ to_z w64 n)
  plus-fits t = rw (h.reads, k.reads) (fit (a +ℤ b) (A + B) (plus-bound a b h.bound k.bound) t)

  pub plus-held : A + B < 2 ^ 63 → Held (of_z w64 (to_z w64 m +ℤ to_z w64 n)) (a +ℤ b) (A + B)
  plus-held t = rw (h.reads, k.reads) (held (a +ℤ b) (A + B) (plus-bound a b h.bound k.bound) t)

  pub minus-fits : A + B < 2 ^ 63 → SFits w64 (to_z w64 m -ℤ to_z w64 n)
  minus-fits t = rw (h.reads, k.reads) (fit (a -ℤ b) (A + B) (minus-bound a b h.bound k.bound) t)

  pub minus-held : A + B < 2 ^ 63 → Held (of_z w64 (to_z w64 m -ℤ to_z w64 n)) (a -ℤ b) (A + B)
  minus-held t = rw (h.reads, k.reads) (held (a -ℤ b) (A + B) (minus-bound a b h.bound k.bound) t)

  pub times-fits : A * B < 2 ^ 63 → SFits w64 (to_z w64 m *ℤ to_z w64 n)
  times-fits t = rw (h.reads, k.reads) (fit (a *ℤ b) (A * B) (times-bound a b h.bound k.bound) t)

  pub times-held : A * B < 2 ^ 63 → Held (of_z w64 (to_z w64 m *ℤ to_z w64 n)) (a *ℤ b) (A * B)
  times-held t = rw (h.reads, k.reads) (held (a *ℤ b) (A * B) (times-bound a b h.bound k.bound) t)
