-- Numbers f x over a list, each divided by d and rounded down. If the numbers add up to t times d, the quotients lack something of t:
-- the fractions' sum over d, which is not negative and below the list's length.
use Prim.Native.Nat.{ℕ, suc, ◌-◌, ◌*◌, ◌<◌}
use mathlib.Core.Path.{◌≡◌, ap}
use mathlib.Core.List.{List, [], ◌∷◌, map}
use native.Mathlib.Omega.{arith}
use lib.ListN.{length}
use lib.IntN.{ℤ, pos, ◌+ℤ◌, ◌-ℤ◌, ◌*ℤ◌}
use lib.Signed.{◌≤ℤ◌, ◌<ℤ◌, ≤ℤ_refl}
use Rattle.integers.specs.Sum.{sum}
use Rattle.integers.specs.Quotient.{floor_of, fraction_of}
use Rattle.integers.proofs.Linear.{linear}
use Rattle.integers.proofs.Ring.{plus_times, minus-times}
use Rattle.integers.proofs.Order.{times-cancel-lt, times-cancel-le}
use Rattle.integers.proofs.Floor.{whole, fraction-below}

module _ {A : Type 0} (f : A → ℤ) (d : ℕ) (p : 0 < d) where
  abbrev floors : List A → ℤ
  floors xs = sum (map (λ x. floor_of (f x) d) xs)

  abbrev fractions : List A → ℤ
  fractions xs = sum (map (λ x. pos (fraction_of (f x) d)) xs)

  pub sum-whole : (xs : List A) → sum (map f xs) ≡ sum (map (λ x. floor_of (f x) d) xs) *ℤ pos d +ℤ sum (map (λ x. pos (fraction_of (f x) d)) xs)
  unfolding sum
  sum-whole [] = ap pos (omega arith)
  sum-whole (x ∷ xs) =
      let q = floor_of (f x) d in
      let r = pos (fraction_of (f x) d) in
      omega (linear, sum-whole xs, whole (f x) d p, plus_times q (floors xs) (pos d))

  pub fractions-low : (xs : List A) → pos 0 ≤ℤ sum (map (λ x. pos (fraction_of (f x) d)) xs)
  unfolding sum
  fractions-low [] = ≤ℤ_refl (pos 0)
  fractions-low (x ∷ xs) = omega (linear, fractions-low xs)

  pub fractions-high : (xs : List A) → sum (map (λ x. pos (fraction_of (f x) d)) xs) ≤ℤ pos (length xs * (d - 1))
  unfolding sum
  fractions-high [] = omega linear
  fractions-high (x ∷ xs) = omega (linear, fractions-high xs, fraction-below (f x) d p)

  module _ (xs : List A) (t : ℤ) (e : sum (map f xs) ≡ t *ℤ pos d) where
    pub lacking-times : (t -ℤ sum (map (λ x. floor_of (f x) d) xs)) *ℤ pos d ≡ sum (map (λ x. pos (fraction_of (f x) d)) xs)
    lacking-times =
        omega (linear, sum-whole xs, minus-times t (floors xs) (pos d))

    pub lacking-low : pos 0 ≤ℤ (t -ℤ sum (map (λ x. floor_of (f x) d) xs))
    lacking-low = times-cancel-le (pos 0) (t -ℤ floors xs) (pos d) (omega linear) (omega (linear, fractions-low xs, lacking-times))

    pub lacking-high : 0 < length xs → (t -ℤ sum (map (λ x. floor_of (f x) d) xs)) <ℤ pos (length xs)
    lacking-high h =
        let g : suc (d - 1) ≡ d = omega arith in
        times-cancel-lt (t -ℤ floors xs) (pos (length xs)) (pos d) (omega linear)
        (omega (linear, fractions-high xs, lacking-times, ap (λ k. length xs * k) g))
