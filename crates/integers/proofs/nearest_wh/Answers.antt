-- `nearest_wh` meets its contract, by the remainder: from half a Wh on it adds one Wh of its sign, whose thousandths go from what is dropped. Assumes nothing.
use Prim.Native.Nat.{suc, ◌/◌, ◌%◌, ◌≤◌}
use mathlib.Core.Path.{◌≡◌, ap₂, ◌∙◌}
use native.Mathlib.Omega.{arith}
use lib.Dec.{lit<}
use lib.IntN.{ℤ, pos, negsuc, nat_abs, ◌+ℤ◌, ◌-ℤ◌, ◌*ℤ◌, *ℤ_comm}
use lib.Signed.{◌≤ℤ◌, ◌<ℤ◌, quot_z, rem_z, nat_abs-le}
use mir.Syntax.{w64}
use mir.Val.{SFits, to_z, of_z}
use mir.ValLaws.{to_z-of_z}
use Rattle.integers.specs.Rounding.{nearest_wh, dropped_thousandths}
use Rattle.integers.proofs.Linear.{linear, sized}
use Rattle.integers.proofs.Ring.{times-plus}
use Rattle.integers.proofs.Order.{lt-true, lt-false}
use Rattle.integers.proofs.Fit.{fit}
use Rattle.integers.proofs.Cut.{cut-whole, cut_left, cut-size}
use Rattle.integers.proofs.nearest_wh.Goals as goal
use Rattle.integers.proofs.nearest_wh.Goals.{then-rest-ltminus499, else-rest-ltminus499+then-rest-gt499, else-rest-ltminus499+else-rest-gt499}

abbrev whole : ℤ → ℤ
whole t = quot_z t (pos 1000)

abbrev rest : ℤ → ℤ
rest t = rem_z t (pos 1000)

-- the Wh that rounding adds, by the remainder
one_down : (t : ℤ) → rest t <ℤ negsuc 498 → whole t -ℤ pos 1 ≡ nearest_wh t
unfolding nearest_wh
one_down (pos n) h = absurd (omega linear)
one_down (negsuc n) h =
    let q = pos (suc n / 1000) in
    let r = pos (suc n % 1000) in
    omega linear

one_up : (t : ℤ) → pos 499 <ℤ rest t → whole t +ℤ pos 1 ≡ nearest_wh t
unfolding nearest_wh
one_up (pos n) h = omega linear
one_up (negsuc n) h = absurd (omega linear)

none_more : (t : ℤ) → negsuc 498 ≤ℤ rest t → rest t ≤ℤ pos 499 → whole t +ℤ pos 0 ≡ nearest_wh t
unfolding nearest_wh
none_more (pos n) h k = omega linear
none_more (negsuc n) h k =
    let q = pos (suc n / 1000) in
    omega linear

-- where it adds e Wh, their thousandths go from the remainder, and what is left of it is dropped
left_over : (t e : ℤ) → whole t +ℤ e ≡ nearest_wh t → rest t -ℤ pos 1000 *ℤ e ≡ dropped_thousandths t
unfolding dropped_thousandths
left_over t e h =
    let q = whole t *ℤ pos 1000 in
    let a = pos 1000 *ℤ e in
    rw (← h, times-plus (pos 1000) (whole t) e, *ℤ_comm (pos 1000) (whole t))
    (omega (linear, cut-whole t 1000))

-- how large they are
whole-size : (t : ℤ) → SFits w64 t → nat_abs (whole t) ≤ 9223372036854776
whole-size t f = omega (arith, cut-size t 1000, nat_abs-le t f.sfits)

rest-size : (t : ℤ) → nat_abs (rest t) ≤ 999
rest-size t = omega (arith, cut_left t 1000 (lit< tt))

-- what the code reads of them
module _ (t : ℤ) (f : SFits w64 t) where
  whole-read : to_z w64 (of_z w64 (quot_z (to_z w64 (of_z w64 t)) (pos 1000))) ≡ whole t
  whole-read = rw (to_z-of_z w64 t f) (to_z-of_z w64 (whole t) (fit (whole t) 9223372036854776 (whole-size t f) (lit< tt)))

  rest-read : to_z w64 (of_z w64 (rem_z (to_z w64 (of_z w64 t)) (pos 1000))) ≡ rest t
  rest-read = rw (to_z-of_z w64 t f) (to_z-of_z w64 (rest t) (fit (rest t) 999 (rest-size t) (lit< tt)))

-- what is left of the remainder r, as the code works it
less : (e : ℤ) {z r d : ℤ} → z ≡ r → nat_abs r ≤ 999 → nat_abs e ≤ 1 → r -ℤ pos 1000 *ℤ e ≡ d → to_z w64 (of_z w64 (z -ℤ to_z w64 (of_z w64 (pos 1000 *ℤ e)))) ≡ d
less e is small few h =
    let read : to_z w64 (of_z w64 (pos 1000 *ℤ e)) ≡ pos 1000 *ℤ e = omega sized in
    rw (is, read) (to_z-of_z w64 _ (omega sized) ∙ h)

-- e are the Wh that rounding adds
record Adds (t e : ℤ) : Type 0 where
  few : nat_abs e ≤ 1
  rounds : whole t +ℤ e ≡ nearest_wh t

adds-as : (t e : ℤ) {a : ℤ} → a ≡ e → nat_abs e ≤ 1 → whole t +ℤ e ≡ nearest_wh t → Adds t a
adds-as t e same h r = rw same record { few = h; rounds = r }

-- by what the two tests told
adds : (c : goal.Joined-rest-ltminus499) → Adds c.args.thousandths (to_z w64 c.if-rest-ltminus499.away-bits)
adds c =
    let t = c.args.thousandths in
    let read-rest = rest-read t c.ranges.thousandths in
    elim c.if-rest-ltminus499.branch [
      | then-rest-ltminus499 w ↦ adds-as t (negsuc 0) w.away-is (omega arith) (one_down t (lt-true _ _ (rw read-rest at w.if-rest-ltminus499.true)))
      | else-rest-ltminus499+then-rest-gt499 w ↦ adds-as t (pos 1) w.away-is (omega arith) (one_up t (lt-true _ _ (rw read-rest at w.if-rest-gt499.true)))
      | else-rest-ltminus499+else-rest-gt499 w ↦ adds-as t (pos 0) w.away-is (omega arith) (none_more t (lt-false _ _ (rw read-rest at w.if-rest-ltminus499.false)) (lt-false _ _ (rw read-rest at w.if-rest-gt499.false)))
    ]

pub returns : goal.returns
returns c =
    let t = c.args.thousandths in
    let f = c.ranges.thousandths in
    let x = adds c in
    ap₂ (λ (w d : ℤ). record { wh = w; dropped = d })
    (omega (sized, whole-read t f, whole-size t f, x.few, x.rounds))
    (less (to_z w64 c.if-rest-ltminus499.away-bits) (rest-read t f) (rest-size t) x.few (left_over t (to_z w64 c.if-rest-ltminus499.away-bits) x.rounds))
