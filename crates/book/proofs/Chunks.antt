-- The words of the first rows, three by three.
use Prim.Native.Nat.{ℕ, zero, suc, ◌≤◌}
use mathlib.Core.Path.{◌≡◌, refl, ap}
use mathlib.Core.List.{List, [], ◌∷◌, map}
use native.Mathlib.Nat.{le_of_suc-le-suc, not-suc-le-zero}
use lib.ListN.{take, drop}
use Rattle.std.specs.Simd.{first_chunks}
use Rattle.book.specs.Rows.{first_row, rows_of}

pub take-chunks : (k n : ℕ) (words : List ℕ) → k ≤ n → take k (first_chunks 3 n words) ≡ first_chunks 3 k words
take-chunks zero n words h = refl
take-chunks (suc k) zero words h = absurd (not-suc-le-zero h)
take-chunks (suc k) (suc n) words h = ap (λ (r : List (List ℕ)). take 3 words ∷ r) (take-chunks k n (drop 3 words) (le_of_suc-le-suc h))

-- three words are the row that they begin
row-of-three : (words : List ℕ) → first_row (take 3 words) ≡ first_row words
row-of-three [] = refl
row-of-three (a ∷ []) = refl
row-of-three (a ∷ b ∷ []) = refl
row-of-three (a ∷ b ∷ c ∷ words) = refl

-- the arrays of three words are the rows
pub rows-cut : (n : ℕ) (words : List ℕ) → map first_row (first_chunks 3 n words) ≡ rows_of n words
unfolding rows_of
rows-cut zero words = refl
rows-cut (suc n) words = rw (row-of-three words, rows-cut n (drop 3 words))

pub ruleset taken = (take-chunks, rows-cut)
