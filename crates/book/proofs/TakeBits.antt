-- A signed number is 0 where its bits are.
use Prim.Native.Nat.{suc, ◌-◌, ◌^◌}
use mathlib.Core.Path.{◌≡◌, refl, sym, ◌∙◌}
use native.Mathlib.Omega.{arith}
use borrow.Author.Tests.{ne_eqb}
use lib.Dec.{eqb}
use lib.IntN.{ℤ, pos, negsuc, nat_abs}
use mir.Syntax.{w64}
use mir.Val.{SFits, of_z}
use mir.ValLaws.{to_z-of_z}

pub zero_bits : (z : ℤ) → SFits w64 z → eqb (of_z w64 z) 0 ≡ eqb (nat_abs z) 0
zero_bits (pos n) h = refl
zero_bits (negsuc n) h =
    let f = h.sfits in
    ne_eqb (2 ^ 64 - suc n) 0 (omega arith) ∙ sym (ne_eqb (suc n) 0 (omega arith))

pub ruleset takes = (zero_bits, to_z-of_z)
