-- The sums of the units as a list of n and a list of a, taken together: that n and a are read back from them.
use Prim.Native.Nat.{ℕ, zero, suc}
use mathlib.Core.Path.{◌≡◌, refl, ap}
use mathlib.Core.List.{List, [], ◌∷◌, map}
use native.Mathlib.Omega.{arith}
use lib.IntN.{ℤ, pos}
use lib.ListN.{length, get_or}
use Rattle.correction.specs.declared.UnitSums.{UnitSums}
use Rattle.correction.specs.Correction.{net_in, weighted_in}
use Rattle.correction.specs.Helpers.{no_sums}

-- the sums of the units, from their n and their a
unfoldable pub pairs_of : List ℤ → List ℤ → List UnitSums
pairs_of [] weighted = []
pairs_of (n ∷ nets) [] = []
pairs_of (n ∷ nets) (a ∷ weighted) = record { net = n; weighted = a } ∷ pairs_of nets weighted

-- the n and the a of a list of sums make that list
pub pairs-of-sums : (sums : List UnitSums) → pairs_of (map net_in sums) (map weighted_in sums) ≡ sums
unfolding pairs_of
pairs-of-sums [] = refl
pairs-of-sums (x ∷ sums) = ap (λ (xs : List UnitSums). x ∷ xs) (pairs-of-sums sums)

pub pairs-length : (nets weighted : List ℤ) → length nets ≡ length weighted → length (pairs_of nets weighted) ≡ length nets
unfolding pairs_of
pairs-length [] weighted e = refl
pairs-length (n ∷ nets) [] e = absurd (omega arith)
pairs-length (n ∷ nets) (a ∷ weighted) e = ap suc (pairs-length nets weighted (omega arith))

pub pairs-nets : (nets weighted : List ℤ) → length nets ≡ length weighted → map net_in (pairs_of nets weighted) ≡ nets
unfolding pairs_of
pairs-nets [] weighted e = refl
pairs-nets (n ∷ nets) [] e = absurd (omega arith)
pairs-nets (n ∷ nets) (a ∷ weighted) e = ap (λ (xs : List ℤ). n ∷ xs) (pairs-nets nets weighted (omega arith))

pub pairs-weighted : (nets weighted : List ℤ) → length nets ≡ length weighted → map weighted_in (pairs_of nets weighted) ≡ weighted
unfolding pairs_of
pairs-weighted [] [] e = refl
pairs-weighted [] (a ∷ weighted) e = absurd (omega arith)
pairs-weighted (n ∷ nets) [] e = absurd (omega arith)
pairs-weighted (n ∷ nets) (a ∷ weighted) e = ap (λ (xs : List ℤ). a ∷ xs) (pairs-weighted nets weighted (omega arith))

-- which stands where
pub pairs-at : (nets weighted : List ℤ) → length nets ≡ length weighted → (i : ℕ)
    → get_or (pairs_of nets weighted) i no_sums ≡ record { net = get_or nets i (pos 0); weighted = get_or weighted i (pos 0) }
unfolding pairs_of
pairs-at [] [] e i = refl
pairs-at [] (a ∷ weighted) e i = absurd (omega arith)
pairs-at (n ∷ nets) [] e i = absurd (omega arith)
pairs-at (n ∷ nets) (a ∷ weighted) e zero = refl
pairs-at (n ∷ nets) (a ∷ weighted) e (suc i) = pairs-at nets weighted (omega arith) i
