use mathlib.Core.Path.{◌≡◌, sym, ap, ◌∙◌}
use Prim.Native.Nat.{ℕ, ◌+◌, ◌-◌, ◌*◌, ◌/◌, ◌%◌, ◌^◌, ◌≤◌, ◌<◌}
use native.Mathlib.Omega.{arith}
use native.Mathlib.Nat.{div-add-mod', zero-div, zero-mod, div-one}
use lib.IntN.{ℤ, pos, negsuc, nat_abs, ◌+ℤ◌, ◌*ℤ◌, zero-*ℤ}
use lib.Pow.{shr-shr, shr_le}
use lib.Signed.{◌<ℤ◌}
use mir.Syntax.{w64}
use mir.Val.{SFits, to_z, of_z}
use mir.ValLaws.{to_z-of_z}
use Rattle.integers.specs.declared.Quotient.{Quotient}
use Rattle.integers.specs.Quotient.{floor_of, fraction_of, quotient_of}
use Rattle.integers.specs.Helpers.{ShareArguments, DigitArguments}
use Rattle.integers.proofs.Linear.{linear}
use Rattle.integers.proofs.Ring.{plus_times, times-exchange}
use Rattle.integers.proofs.Size.{size-positive}
use Rattle.integers.proofs.Floor.{whole, fraction-below, quotient-most}
use Rattle.integers.proofs.product_quotient.Invariants.{taken}
use Rattle.integers.proofs.product_quotient.Goals as goal

-- what is done, times w and with its fraction
whole_before : (x w : ℤ) {done : Quotient} → pos 0 <ℤ w → done ≡ quotient_of x (nat_abs w) → done.floor *ℤ w +ℤ pos done.fraction ≡ x
whole_before x (pos d) p e = rw e (sym (whole x d (omega linear)))
whole_before x (negsuc d) p e = absurd p.lt

-- one digit more: the digits before it are p / 2,048, where p is those with it, and both go times a
with-digit : (p : ℕ) (a : ℤ) → pos (p / 2048) *ℤ a *ℤ pos 2048 +ℤ pos (p % 2048) *ℤ a ≡ pos p *ℤ a
with-digit p a =
    rw (times-exchange (pos (p / 2048)) a (pos 2048))
    (sym (plus_times (pos (p / 2048 * 2048)) (pos (p % 2048)) a) ∙ ap (λ n. pos n *ℤ a) (div-add-mod' p 2048))

module _ {m : ℕ} {a w : ℤ} (args : ShareArguments (pos m) a w) (i : ℕ) where
  no_digit : m / 2 ^ (11 * i) ≡ 0 → record { floor = pos 0; fraction = 0 } ≡ taken m a w i
  unfolding floor_of fraction_of
  no_digit e = rw (e, zero-*ℤ a, zero-div, zero-mod)

  module _ {done : Quotient} (e : done ≡ taken m a w i) where
    all_digits : i ≡ 0 → done ≡ quotient_of (pos m *ℤ a) (nat_abs w)
    all_digits z = e ∙ rw (z, div-one)

    digit-arguments : DigitArguments done (m / 2 ^ (11 * (i - 1)) % 2048) a w
    digit-arguments =
        let p = size-positive w args.w-positive in
        let h : m / 2 ^ (11 * i) ≤ nat_abs w = omega (arith, shr_le m (11 * i), args.u-within-w) in
        record {
          floor-bound = rw e (omega (arith, quotient-most (pos (m / 2 ^ (11 * i))) a w p h, args.a-bound));
          fraction-below-w = rw e (fraction-below _ (nat_abs w) p);
          digit-bound = omega arith;
          a-bound = args.a-bound;
          w-bound = args.w-bound;
          w-positive = args.w-positive;
        }

    next-taken : 0 < i → quotient_of ((done.floor *ℤ w +ℤ pos done.fraction) *ℤ pos 2048 +ℤ pos (m / 2 ^ (11 * (i - 1)) % 2048) *ℤ a) (nat_abs w) ≡ taken m a w (i - 1)
    next-taken h =
        let k : 11 * i ≡ 11 * (i - 1) + 11 = omega arith in
        rw (whole_before _ w args.w-positive e, k, ← (shr-shr m (11 * (i - 1)) 11), with-digit (m / 2 ^ (11 * (i - 1))) a)

-- the arguments as the code reads them
read : {m : ℕ} {a w : ℤ} → ShareArguments (pos m) a w → SFits w64 a → SFits w64 w → ShareArguments (pos m) (to_z w64 (of_z w64 a)) (to_z w64 (of_z w64 w))
read args f g = rw (to_z-of_z w64 _ f, to_z-of_z w64 _ g) args

pub loop-i-init : goal.loop-i-init
loop-i-init c = (c.digit_count-i.ensures.0, no_digit (read c.requires c.ranges.a c.ranges.w) c.digit_count-i.result c.digit_count-i.ensures.1)

pub next_digit-done-requires : goal.next_digit-done-requires
next_digit-done-requires c = digit-arguments (read c.requires c.ranges.a c.ranges.w) c.loop-i.i c.loop-i.invariant.1

pub loop-i-preserved : goal.loop-i-preserved
loop-i-preserved c =
    let l = c.loop-i in
    (omega arith, c.next_digit-done.ensures ∙ next-taken (read c.requires c.ranges.a c.ranges.w) l.i l.invariant.1 (omega arith))
