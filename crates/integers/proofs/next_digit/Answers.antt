-- `next_digit` meets its contract: the quotient so far times 2,048 times w comes out of the sum whole, and what is left is divided by w.
use mathlib.Core.Path.{◌≡◌}
use Prim.Native.Nat.{ℕ, ◌*◌, ◌≤◌}
use lib.IntN.{ℤ, pos, negsuc, nat_abs, ◌+ℤ◌, ◌*ℤ◌, +ℤ_assoc}
use lib.Signed.{◌<ℤ◌}
use mir.Syntax.{w64}
use mir.Val.{SFits, to_z, of_z}
use mir.ValLaws.{to_z-of_z}
use Rattle.integers.specs.declared.Quotient.{Quotient}
use Rattle.integers.specs.Quotient.{floor_of, fraction_of, quotient_of}
use Rattle.integers.specs.Helpers.{DigitArguments}
use Rattle.integers.proofs.Linear.{linear, sized}
use Rattle.integers.proofs.Ring.{plus_times, times-exchange}
use Rattle.integers.proofs.Floor.{size-floor, floor-shift, fraction-shift}
use Rattle.integers.proofs.Digit.{product-read, product-size, product-within}
use Rattle.integers.proofs.next_digit.Goals as goal

regrouped : (q w l : ℤ) (r : ℕ) → (q *ℤ w +ℤ pos r) *ℤ pos 2048 +ℤ l ≡ q *ℤ pos 2048 *ℤ w +ℤ (pos r *ℤ pos 2048 +ℤ l)
regrouped q w l r = rw (plus_times (q *ℤ w) (pos r) (pos 2048), times-exchange q w (pos 2048)) (+ℤ_assoc (q *ℤ pos 2048 *ℤ w) (pos (r * 2048)) l)

quotient_is : (q w l : ℤ) (r : ℕ) → pos 0 <ℤ w
    → record { floor = q *ℤ pos 2048 +ℤ floor_of (pos r *ℤ pos 2048 +ℤ l) (nat_abs w); fraction = fraction_of (pos r *ℤ pos 2048 +ℤ l) (nat_abs w) }
    ≡ quotient_of ((q *ℤ w +ℤ pos r) *ℤ pos 2048 +ℤ l) (nat_abs w)
quotient_is q (pos d) l r p =
    let x = pos r *ℤ pos 2048 +ℤ l in
    rw (regrouped q (pos d) l r, floor-shift (q *ℤ pos 2048) x d (omega linear), fraction-shift (q *ℤ pos 2048) x d (omega linear))
quotient_is q (negsuc d) l r p = absurd p.lt

-- the code's sum, and the quotient of it
module _ {done : Quotient} {digit : ℕ} {a w : ℤ} (ok : DigitArguments done digit a w) where
  left-read : to_z w64 (of_z w64 (to_z w64 (of_z w64 (to_z w64 done.fraction *ℤ pos 2048)) +ℤ to_z w64 (of_z w64 (to_z w64 digit *ℤ to_z w64 (of_z w64 a)))))
      ≡ pos done.fraction *ℤ pos 2048 +ℤ pos digit *ℤ a
  left-read = omega (sized, product-within, product-read digit a ok.digit-bound ok.a-bound)

  module _ {r : Quotient} (f : SFits w64 w)
      (e : r ≡ quotient_of (to_z w64 (of_z w64 (to_z w64 (of_z w64 (to_z w64 done.fraction *ℤ pos 2048)) +ℤ to_z w64 (of_z w64 (to_z w64 digit *ℤ to_z w64 (of_z w64 a)))))) (nat_abs (to_z w64 (of_z w64 w)))) where
    step_is : r ≡ quotient_of (pos done.fraction *ℤ pos 2048 +ℤ pos digit *ℤ a) (nat_abs w)
    step_is = rw (left-read, to_z-of_z w64 _ f) at e

    step-size : nat_abs r.floor ≤ 5733000000000000000
    step-size = rw (step_is) (omega (sized, product-size, size-floor))

pub overflow_add-result : goal.overflow_add-result
overflow_add-result c = omega (sized, step-size c.requires c.ranges.w c.floor_quotient-step.ensures)

pub returns : goal.returns
returns c =
    let done = c.args.done in
    let r = c.floor_quotient-step.result.floor in
    let sum : to_z w64 (of_z w64 (to_z w64 (of_z w64 (to_z w64 (of_z w64 done.floor) *ℤ pos 2048)) +ℤ to_z w64 (of_z w64 r))) ≡ done.floor *ℤ pos 2048 +ℤ r =
    omega (sized, step-size c.requires c.ranges.w c.floor_quotient-step.ensures) in
    rw (sum, step_is c.requires c.ranges.w c.floor_quotient-step.ensures) (quotient_is done.floor c.args.w (pos c.args.digit *ℤ c.args.a) done.fraction c.requires.w-positive)
