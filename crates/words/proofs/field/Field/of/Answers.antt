-- `Field::of` meets its contract: 1 << width is the power itself, and to mask by one less is to take the remainder.
use mathlib.Core.Path.{◌≡◌}
use Prim.Native.Nat.{ℕ, ◌*◌, ◌%◌, ◌^◌, ◌<◌}
use native.Mathlib.Nat.{one-mul, mod-eq_of_lt}
use lib.Bits.{and_mask}
use lib.Pow.{pow-lt}
use Rattle.words.proofs.field.Field.of.Goals as goal

one_shifted : (k : ℕ) → k < 64 → 1 * 2 ^ k % 2 ^ 64 ≡ 2 ^ k
one_shifted k h = rw one-mul (mod-eq_of_lt (pow-lt h))

pub returns : goal.returns
returns c = rw (one_shifted c.args.self.width c.args.self.short) (and_mask _ c.args.self.width)
