-- `floor_quotient` meets its contract, by the sign of the processor's remainder.
use mathlib.Core.Path.{◌≡◌, sym, ◌∙◌}
use Prim.Native.Nat.{ℕ, ◌<◌}
use lib.IntN.{ℤ, pos, nat_abs, ◌+ℤ◌, ◌-ℤ◌}
use lib.Signed.{◌≤ℤ◌, ◌<ℤ◌, quot_z, rem_z, pos-nat_abs, yes_non_neg}
use mir.Syntax.{w64}
use mir.Val.{SFits, of_z, to_z}
use mir.ValLaws.{to_z-of_z}
use Rattle.integers.proofs.Linear.{linear}
use Rattle.integers.proofs.Order.{lt-true, lt-false, le_of_lt}
use Rattle.integers.proofs.Size.{size-positive}
use Rattle.integers.proofs.Cut.{cut_fits, left-fits, cut-above, cut_below, one_less_fits, raised-low, raised-fits}
use Rattle.integers.proofs.floor_quotient.Goals as goal
use Rattle.integers.proofs.floor_quotient.Goals.{Start}

-- what the code divides, and what it holds then
module _ (c : Start) where
  abbrev x : ℤ
  x = c.args.x

  abbrev d : ℕ
  d = nat_abs c.args.d

  positive : 0 < d
  positive = size-positive _ c.requires

  d-is : c.args.d ≡ pos d
  d-is = sym (pos-nat_abs _ (yes_non_neg (le_of_lt c.requires)))

  read-x : to_z w64 (of_z w64 x) ≡ x
  read-x = to_z-of_z w64 x c.ranges.x

  read-d : to_z w64 (of_z w64 c.args.d) ≡ pos d
  read-d = to_z-of_z w64 _ c.ranges.d ∙ d-is

  quotient_is : to_z w64 (of_z w64 (quot_z (to_z w64 (of_z w64 x)) (to_z w64 (of_z w64 c.args.d)))) ≡ quot_z x (pos d)
  quotient_is = rw (read-x, read-d) (to_z-of_z w64 _ (cut_fits x d c.ranges.x))

  remainder_is : to_z w64 (of_z w64 (rem_z (to_z w64 (of_z w64 x)) (to_z w64 (of_z w64 c.args.d)))) ≡ rem_z x (pos d)
  remainder_is = rw (read-x, read-d) (to_z-of_z w64 _ (left-fits x (pos d) c.ranges.x))

  -- with a remainder below 0
  module _ (h : rem_z x (pos d) <ℤ pos 0) where
    less : SFits w64 (quot_z x (pos d) -ℤ pos 1)
    less = one_less_fits x d positive h c.ranges.x

    raised : SFits w64 (rem_z x (pos d) +ℤ pos d)
    raised = raised-fits x d positive h (rw d-is at c.ranges.d)

-- the sign that the test found
negative : (c : goal.Then-remainder-lt0) → rem_z (x c.before) (pos (d c.before)) <ℤ pos 0
negative c = lt-true _ _ (rw (remainder_is c.before) at c.if-remainder-lt0.true)

nonnegative : (c : goal.Else-remainder-lt0) → pos 0 ≤ℤ rem_z (x c.before) (pos (d c.before))
nonnegative c = lt-false _ _ (rw (remainder_is c.before) at c.if-remainder-lt0.false)

pub overflow_cast-result : goal.overflow_cast-result
overflow_cast-result c =
    let s = c.before in
    let f = raised s (negative c) in
    let low = raised-low (x s) (d s) (positive s) (negative c) in
    rw (remainder_is s, read-d s, to_z-of_z w64 _ f) (yes_non_neg low, omega linear)

pub returns-then-remainder-lt0 : goal.returns-then-remainder-lt0
returns-then-remainder-lt0 c =
    let s = c.before in
    rw (quotient_is s, remainder_is s, read-d s, to_z-of_z w64 _ (less s (negative c)), to_z-of_z w64 _ (raised s (negative c)))
    (cut_below (x s) (d s) (positive s) (negative c))

pub returns : goal.returns
returns c =
    let s = c.before in
    rw (quotient_is s, remainder_is s) (cut-above (x s) (d s) (positive s) (nonnegative c))
