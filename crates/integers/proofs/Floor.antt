-- Quotients by a number above 0, rounded down, and their fractions.
use Prim.Native.Nat.{ℕ, ◌-◌, ◌*◌, ◌/◌, ◌≤◌, ◌<◌}
use mathlib.Core.Path.{◌≡◌, sym, ap, ◌∙◌}
use native.Mathlib.Omega.{arith}
use native.Mathlib.Nat.{mod-lt, div-add-mod', div-le_self, div-le_of_le-mul, div-lt_iff_lt-mul, mul-le-mul_right}
use lib.IntN.{ℤ, pos, negsuc, nat_abs, ◌+ℤ◌, ◌-ℤ◌, ◌*ℤ◌}
use lib.Dec.{le→leb}
use lib.Signed.{◌≤ℤ◌, ◌<ℤ◌, le_z_yes}
use mir.Syntax.{w64}
use mir.Val.{SFits}
use Rattle.integers.specs.Quotient.{floor_of, fraction_of}
use Rattle.integers.proofs.Linear.{linear}
use Rattle.integers.proofs.Ring.{plus_times}
use Rattle.integers.proofs.Order.{antisymmetric, le-of-lt-next, times-cancel-lt}
use Rattle.integers.proofs.Size.{size-times}

-- the quotient is no larger than x
pub size-floor : (x : ℤ) (d : ℕ) → nat_abs (floor_of x d) ≤ nat_abs x
unfolding floor_of
size-floor (pos n) d = div-le_self n d
size-floor (negsuc n) d = omega (arith, div-le_self n d)

pub floor-fits : (x : ℤ) (d : ℕ) → SFits w64 x → SFits w64 (floor_of x d)
unfolding floor_of
floor-fits (pos n) d f = record { sfits = omega (arith, div-le_self n d) }
floor-fits (negsuc n) d f = record { sfits = omega (arith, div-le_self n d) }

-- and no larger than d goes into a bound of x
pub floor-most : (x : ℤ) (d m : ℕ) → 0 < d → nat_abs x ≤ m * d → nat_abs (floor_of x d) ≤ m
unfolding floor_of
floor-most (pos n) d m p h = div-le_of_le-mul d (omega arith)
floor-most (negsuc n) d m p h = (div-lt_iff_lt-mul p).1 h

-- where U is no larger than W, U × a / W is no larger than a
pub quotient-most : (u a w : ℤ) → 0 < nat_abs w → nat_abs u ≤ nat_abs w → nat_abs (floor_of (u *ℤ a) (nat_abs w)) ≤ nat_abs a
quotient-most u a w p h = floor-most (u *ℤ a) (nat_abs w) (nat_abs a) p (omega (arith, size-times u a, mul-le-mul_right (nat_abs a) h))

pub fraction-below : (x : ℤ) (d : ℕ) → 0 < d → fraction_of x d < d
unfolding fraction_of
fraction-below (pos n) d p = mod-lt n p
fraction-below (negsuc n) d p = omega arith

-- the whole: x is the quotient times d, and the fraction
pub whole : (x : ℤ) (d : ℕ) → 0 < d → x ≡ floor_of x d *ℤ pos d +ℤ pos (fraction_of x d)
unfolding floor_of fraction_of
whole (pos n) d p = ap pos (sym (div-add-mod' n d))
whole (negsuc n) d p =
    let q = negsuc (n / d) in
    omega (linear, div-add-mod' n d, mod-lt n p)

-- and no other number and fraction below d make x
at_most : (f q : ℤ) (d g r : ℕ) → r < d → f *ℤ pos d +ℤ pos g ≡ q *ℤ pos d +ℤ pos r → f ≤ℤ q
at_most f q d g r h e =
    let k : (f *ℤ pos d) <ℤ ((q +ℤ pos 1) *ℤ pos d) =
    omega (linear, plus_times q (pos 1) (pos d)) in
    le-of-lt-next (times-cancel-lt f (q +ℤ pos 1) (pos d) (le_z_yes (le→leb 0 d (omega arith))) k)

module _ (x q : ℤ) (d r : ℕ) (h : r < d) (e : x ≡ q *ℤ pos d +ℤ pos r) where
  pub floor-unique : floor_of x d ≡ q
  floor-unique =
      let p : 0 < d = omega arith in
      antisymmetric
      (at_most (floor_of x d) q d (fraction_of x d) r h (sym (whole x d p) ∙ e))
      (at_most q (floor_of x d) d r (fraction_of x d) (fraction-below x d p) (sym e ∙ whole x d p))

  pub fraction-unique : fraction_of x d ≡ r
  fraction-unique =
      let p : 0 < d = omega arith in
      let w : q *ℤ pos d +ℤ pos (fraction_of x d) ≡ q *ℤ pos d +ℤ pos r = rw floor-unique at (sym (whole x d p)) ∙ e in
      omega linear

module _ (n x : ℤ) (d : ℕ) (p : 0 < d) where
  shifted : n *ℤ pos d +ℤ x ≡ (n +ℤ floor_of x d) *ℤ pos d +ℤ pos (fraction_of x d)
  shifted =
      let f = floor_of x d in
      let g = pos (fraction_of x d) in
      omega (linear, whole x d p, plus_times n f (pos d))

  pub floor-shift : floor_of (n *ℤ pos d +ℤ x) d ≡ n +ℤ floor_of x d
  floor-shift = floor-unique (n *ℤ pos d +ℤ x) (n +ℤ floor_of x d) d (fraction_of x d) (fraction-below x d p) shifted

  pub fraction-shift : fraction_of (n *ℤ pos d +ℤ x) d ≡ fraction_of x d
  fraction-shift = fraction-unique (n *ℤ pos d +ℤ x) (n +ℤ floor_of x d) d (fraction_of x d) (fraction-below x d p) shifted

-- how far x is from the number below it and from the next
module _ (x : ℤ) (d : ℕ) (p : 0 < d) where
  pub above_floor : x -ℤ floor_of x d *ℤ pos d ≡ pos (fraction_of x d)
  above_floor =
      let f = floor_of x d *ℤ pos d in
      omega (linear, whole x d p)

  pub below_next : (floor_of x d +ℤ pos 1) *ℤ pos d -ℤ x ≡ pos (d - fraction_of x d)
  below_next =
      let f = floor_of x d *ℤ pos d in
      let n = (floor_of x d +ℤ pos 1) *ℤ pos d in
      omega (linear, whole x d p, fraction-below x d p, plus_times (floor_of x d) (pos 1) (pos d))
