-- A slice that has kept up with the rows, its first 836 words being sums over them: it passes no limit, a change of the rows added to it leaves one that has kept up with them then, and a slice of zeros has kept up with no rows.
use Prim.Native.Nat.{ℕ, zero, suc, ◌+◌, ◌≤◌}
use mathlib.Core.Path.{◌≡◌, refl, sym, ap, ap₂, ◌∙◌}
use mathlib.Core.Bool.{true}
use mathlib.Core.List.{List, [], ◌∷◌, ◌++◌, map}
use native.Mathlib.Omega.{arith}
use lib.IntN.{ℤ, pos, ◌-ℤ◌}
use lib.ListN.{length, take, drop, replicate, take-append-drop, length-append}
use Rattle.integers.specs.Sum.{sum, sizes}
use Rattle.integers.proofs.Ring.{plus-rest}
use Rattle.book.specs.Limits.{meters_most}
use Rattle.book.specs.Rows.{Row}
use Rattle.cells.specs.Cells.{count_from, sum_over}
use Rattle.cells.proofs.Each.{Each}
use Rattle.cells.proofs.RowBounds.{RowBounds}
use Rattle.running.specs.Words.{cell_words, slice_words, sum_in}
use Rattle.running.specs.Running.{cells_for, added_from, with_change, is_number, number_words, within_limits}
use Rattle.running.proofs.WithinLimits.{each_within}
use Rattle.running.proofs.CellsFor.{cells-for-length, word_at}
use Rattle.running.proofs.SumBounds.{cells-most, number-within}

-- words worked out at each number of a range, and words after them
module _ (f : ℕ → ℤ) (later : List ℤ) where
  take_counted : (k m n : ℕ) → take m (map f (count_from k (m + n)) ++ later) ≡ map f (count_from k m)
  unfolding count_from
  take_counted k zero n = refl
  take_counted k (suc m) n =
      let e : suc m + n ≡ suc (m + n) = omega arith in
      rw e (ap (λ (l : List ℤ). f k ∷ l) (take_counted (suc k) m n))

  -- the change from f to g added
  changed-counted : (g : ℕ → ℤ) (k n : ℕ) → added_from (λ i. g i -ℤ f i) k n (map f (count_from k n) ++ later) ≡ map g (count_from k n) ++ later
  unfolding added_from count_from
  changed-counted g k zero = refl
  changed-counted g k (suc n) = ap₂ (λ (x : ℤ) (l : List ℤ). x ∷ l) (plus-rest (f k) (g k)) (changed-counted g (suc k) n)

-- zeros
zeros-counted : (f : ℕ → ℤ) → ((i : ℕ) → f i ≡ pos 0) → (k n : ℕ) → replicate n (pos 0) ≡ map f (count_from k n)
unfolding count_from
zeros-counted f h k zero = refl
zeros-counted f h k (suc n) = ap₂ (λ (x : ℤ) (l : List ℤ). x ∷ l) (sym (h k)) (zeros-counted f h (suc k) n)

module _ (shapes : List ℕ) (meters : List Row) where
  first-cells : (later : List ℤ) → take cell_words (cells_for shapes meters ++ later) ≡ map (sum_in shapes meters) (count_from 0 cell_words)
  unfolding cells_for
  first-cells later = take_counted (sum_in shapes meters) later 0 cell_words number_words

  module _ (later : List ℤ) where
    pub kept-long : slice_words ≤ length (cells_for shapes meters ++ later)
    kept-long = omega (arith, length-append (cells_for shapes meters) later, cells-for-length shapes meters)

    -- 65,536 meters of 10,000,000 Wh and their losses add up to the limit of the cells
    pub kept-within : Each (RowBounds shapes) meters → length meters ≤ meters_most → within_limits (cells_for shapes meters ++ later) ≡ true
    kept-within bounds few =
        each_within (cells_for shapes meters ++ later)
        (record {
          sizes-most = omega (arith, ap sizes (first-cells later), cells-most shapes meters bounds);
          number = λ k h l. ap is_number (word_at shapes meters later k l) ∙ number-within shapes meters few k h;
        })

    -- "every call adds the change in the sum over the rows"
    pub kept-changed : (shapes' : List ℕ) (meters' : List Row)
        → with_change (λ k. sum_in shapes' meters' k -ℤ sum_in shapes meters k) (cells_for shapes meters ++ later) ≡ cells_for shapes' meters' ++ later
    unfolding cells_for
    kept-changed shapes' meters' = changed-counted (sum_in shapes meters) later (sum_in shapes' meters') 0 slice_words

-- "with the first 836 at 0 at the start"
pub kept-zeros : (shapes : List ℕ) (cells : List ℤ) → take slice_words cells ≡ replicate slice_words (pos 0) → cells ≡ cells_for shapes [] ++ drop slice_words cells
unfolding cells_for sum_in sum_over sum
kept-zeros shapes cells h =
    sym (take-append-drop slice_words cells)
    ∙ ap (λ (l : List ℤ). l ++ drop slice_words cells) (h ∙ zeros-counted (sum_in shapes []) (λ i. refl) 0 slice_words)
