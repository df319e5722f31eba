-- Rounding to the nearest Wh: by size under the sign, what is dropped is never more than half a Wh, and the sizes of rounded numbers, added up.
use Prim.Native.Nat.{ℕ, zero, suc, ◌*◌, ◌≤◌, ◌+◌}
use mathlib.Core.Path.{◌≡◌, refl, ap, ◌∙◌}
use mathlib.Core.List.{List, [], ◌∷◌, map}
use native.Mathlib.Omega.{arith}
use lib.IntN.{ℤ, pos, negsuc, nat_abs, neg_ℤ, ◌-ℤ◌, ◌*ℤ◌}
use lib.ListN.{length}
use Rattle.integers.specs.Sum.{sizes}
use Rattle.integers.specs.Rounding.{nearest, nearest_wh, dropped_thousandths}
use Rattle.integers.proofs.Linear.{linear, size, one_side}
use Rattle.integers.proofs.Size.{size-neg}

pub nearest-size : (x : ℤ) → nat_abs (nearest_wh x) ≡ nearest (nat_abs x)
unfolding nearest_wh
nearest-size (pos n) = refl
nearest-size (negsuc n) = size-neg (pos (nearest (suc n)))

pub nearest-half : (x : ℤ) → nat_abs (dropped_thousandths x) ≤ 500
unfolding nearest_wh dropped_thousandths
nearest-half (pos n) =
    let z = pos n -ℤ pos (1000 * nearest n) in
    omega (linear, size z, one_side z)
nearest-half (negsuc n) =
    let q = neg_ℤ (pos (nearest (suc n))) in
    let z = negsuc n -ℤ pos 1000 *ℤ q in
    omega (linear, size z, one_side z)

nearest-negated : (m : ℕ) → nearest_wh (neg_ℤ (pos m)) ≡ neg_ℤ (pos (nearest m))
unfolding nearest_wh
nearest-negated zero = refl
nearest-negated (suc k) = refl

-- whole Wh stay as they are
pub nearest-whole : (x : ℤ) → nearest_wh (pos 1000 *ℤ x) ≡ x
unfolding nearest_wh
nearest-whole (pos n) = let e : nearest (1000 * n) ≡ n = omega arith in ap pos e
nearest-whole (negsuc n) =
    let e : nearest (1000 * suc n) ≡ suc n = omega arith in
    nearest-negated (1000 * suc n) ∙ ap (λ (k : ℕ). neg_ℤ (pos k)) e

pub rounded-sizes : (xs : List ℤ) → 1000 * sizes (map nearest_wh xs) ≤ sizes xs + 500 * length xs
unfolding sizes
rounded-sizes [] = omega arith
rounded-sizes (x ∷ xs) = omega (arith, nearest-size x, rounded-sizes xs)
