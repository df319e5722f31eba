-- Each unit that gets one of the Wh lacking has a fraction above 0, since the fractions of the units before it do not add up to that many Wh.
use Prim.Native.Nat.{ℕ, zero, suc, ◌+◌, ◌*◌, ◌≤◌, ◌<◌}
use mathlib.Core.Path.{◌≡◌, refl}
use mathlib.Core.Bool.{Bool, true, false}
use mathlib.Core.List.{List, [], ◌∷◌, map}
use native.Mathlib.Omega.{arith}
use native.Mathlib.Nat.{le_of_mul-le-mul_right}
use lib.Dec.{ltb}
use lib.IntN.{pos, ◌+ℤ◌}
use lib.Signed.{◌≤ℤ◌}
use borrow.Author.Tests.{ltb-true, ltb-false}
use Rattle.integers.specs.Sum.{sum}
use Rattle.integers.proofs.Linear.{linear, plus}
use Rattle.correction.specs.Volumes.{comes_before, count_before}
use Rattle.correction.proofs.CountWhere.{At, here, later, bit, count_where, where-le}
use Rattle.correction.proofs.Ranked.{larger, test-of-order, count-is-where}

-- a fraction above 0
abbrev pub has_fraction : ℕ → ℕ → Bool
has_fraction i f = ltb 0 f

-- fractions below d add up to at most d for each that is above 0
pub fractions-most : (d j : ℕ) (fs : List ℕ) → ((i f : ℕ) → At i f j fs → f < d) → sum (map pos fs) ≤ℤ pos (count_where has_fraction j fs * d)
unfolding sum count_where
fractions-most d j [] h = omega linear
fractions-most d j (f ∷ fs) h = by (ltb 0 f) refl (fractions-most d (suc j) fs (λ i g a. h i g (later a)))
  where
    by : (t : Bool) → ltb 0 f ≡ t → sum (map pos fs) ≤ℤ pos (count_where has_fraction (suc j) fs * d)
        → (pos f +ℤ sum (map pos fs)) ≤ℤ pos ((bit (ltb 0 f) + count_where has_fraction (suc j) fs) * d)
    by true e rest = rw e (omega (linear, plus (pos f) (sum (map pos fs)), h j f here))
    by false e rest = rw e (omega (linear, plus (pos f) (sum (map pos fs)), ltb-false 0 f e))

-- if fractions below d add up to `lack` times d, a unit that fewer than `lack` come before has a fraction above 0
pub served-above-zero : (d lack : ℕ) (fs : List ℕ) → ((i f : ℕ) → At i f 0 fs → f < d) → 0 < d → pos (lack * d) ≡ sum (map pos fs)
    → (i f : ℕ) → count_before i f 0 fs < lack → 0 < f
served-above-zero d lack fs small p e i zero h =
    let few : count_where has_fraction 0 fs ≤ count_before i 0 0 fs =
    rw (count-is-where i 0 0 fs) (where-le has_fraction (comes_before i 0) 0 fs (λ j g a t. test-of-order {i = i} {j = j} (larger (ltb-true 0 g t)))) in
    let k : lack * d ≤ count_where has_fraction 0 fs * d = omega (linear, fractions-most d 0 fs small) in
    absurd (omega (arith, le_of_mul-le-mul_right k p))
served-above-zero d lack fs small p e i (suc f) h = omega arith
