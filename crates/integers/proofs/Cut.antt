-- Quotients by a number above 0 as the processor makes them, cut toward zero, and what those rounded down are then: where the remainder,
-- which has the sign of x, is below 0, the floor is one less, and the fraction d more.
use Prim.Native.Nat.{ℕ, suc, ◌*◌, ◌/◌, ◌%◌, ◌<◌}
use mathlib.Core.Path.{◌≡◌, refl, sym, ap}
use native.Mathlib.Omega.{arith}
use native.Mathlib.Nat.{mod-lt, div-add-mod', div-le_self}
use lib.IntN.{ℤ, pos, negsuc, nat_abs, ◌+ℤ◌, ◌-ℤ◌, ◌*ℤ◌}
use lib.Signed.{◌≤ℤ◌, ◌<ℤ◌, quot_z, rem_z, mag_rem, pos-nat_abs, yes_non_neg}
use mir.Syntax.{w64}
use mir.Val.{SFits}
use Rattle.integers.specs.Quotient.{quotient_of}
use Rattle.integers.proofs.Linear.{linear, size, one_side}
use Rattle.integers.proofs.Ring.{neg-times, minus-times}
use Rattle.integers.proofs.Size.{size-neg}
use Rattle.integers.proofs.Floor.{floor-fits, floor-unique, fraction-unique}

pub cut-whole : (x : ℤ) (d : ℕ) → x ≡ quot_z x (pos d) *ℤ pos d +ℤ rem_z x (pos d)
cut-whole (pos n) d = ap pos (sym (div-add-mod' n d))
cut-whole (negsuc n) d =
    let q = pos (suc n / d * d) in
    let r = pos (suc n % d) in
    rw (neg-times (pos (suc n / d)) (pos d)) (omega (linear, div-add-mod' (suc n) d))

pub cut_left : (x : ℤ) (d : ℕ) → 0 < d → nat_abs (rem_z x (pos d)) < d
cut_left (pos n) d p = mod-lt n p
cut_left (negsuc n) d p = omega (arith, size-neg (pos (suc n % d)), mod-lt (suc n) p)

-- how large a quotient is
pub cut-size : (x : ℤ) (d : ℕ) → nat_abs (quot_z x (pos d)) ≡ nat_abs x / d
cut-size (pos n) d = refl
cut-size (negsuc n) d = size-neg (pos (suc n / d))

-- both are in the range of an i64 if x is
pub cut_fits : (x : ℤ) (d : ℕ) → SFits w64 x → SFits w64 (quot_z x (pos d))
cut_fits (pos n) d f = omega (linear, div-le_self n d)
cut_fits (negsuc n) d f = omega (linear, div-le_self (suc n) d)

pub left-fits : (x d : ℤ) → SFits w64 x → SFits w64 (rem_z x d)
left-fits x d f = record { sfits = omega (arith, mag_rem x d) }

module _ (x : ℤ) (d : ℕ) (p : 0 < d) where
  made_of : (q r : ℤ) → pos 0 ≤ℤ r → r <ℤ pos d → x ≡ q *ℤ pos d +ℤ r → record { floor = q; fraction = nat_abs r } ≡ quotient_of x d
  made_of q r h k e =
      let s : pos (nat_abs r) ≡ r = pos-nat_abs r (yes_non_neg h) in
      let b : nat_abs r < d = omega linear in
      rw (floor-unique x q d (nat_abs r) b (rw s e), fraction-unique x q d (nat_abs r) b (rw s e))

  pub cut-above : pos 0 ≤ℤ rem_z x (pos d) → record { floor = quot_z x (pos d); fraction = nat_abs (rem_z x (pos d)) } ≡ quotient_of x d
  cut-above h =
      let r = rem_z x (pos d) in
      made_of (quot_z x (pos d)) r h (omega (linear, size r, cut_left x d p)) (cut-whole x d)

  -- a remainder below 0
  module _ (h : rem_z x (pos d) <ℤ pos 0) where
    pub raised-low : pos 0 ≤ℤ (rem_z x (pos d) +ℤ pos d)
    raised-low = let r = rem_z x (pos d) in omega (linear, size r, cut_left x d p)

    pub raised-fits : SFits w64 (pos d) → SFits w64 (rem_z x (pos d) +ℤ pos d)
    raised-fits f = let r = rem_z x (pos d) in omega (linear, raised-low, one_side (r +ℤ pos d))

    pub cut_below : record { floor = quot_z x (pos d) -ℤ pos 1; fraction = nat_abs (rem_z x (pos d) +ℤ pos d) } ≡ quotient_of x d
    cut_below =
        let q = quot_z x (pos d) in
        let r = rem_z x (pos d) in
        let one = pos (1 * d) in
        made_of (q -ℤ pos 1) (r +ℤ pos d) raised-low (omega linear)
        (rw (minus-times q (pos 1) (pos d))
        (omega (linear, cut-whole x d)))

    pub one_less_fits : SFits w64 x → SFits w64 (quot_z x (pos d) -ℤ pos 1)
    one_less_fits f = rw (ap (λ q. q.floor) cut_below) (floor-fits x d f)
