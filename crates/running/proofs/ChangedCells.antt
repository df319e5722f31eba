-- A change of the first words of a slice and of no others: made word by word, and what it leaves of the limits.
use Prim.Native.Nat.{ℕ, zero, suc, ◌+◌, ◌≤◌, ◌<◌}
use mathlib.Core.Path.{◌≡◌, refl, sym, ap, ap₂, ◌∙◌}
use mathlib.Core.Bool.{true, and-true, and-eq-true_iff}
use mathlib.Core.List.{List, [], ◌∷◌}
use native.Mathlib.Numerals.{add-one}
use native.Mathlib.Omega.{arith}
use lib.Dec.{leb}
use lib.IntN.{ℤ, pos, nat_abs, ◌+ℤ◌, +ℤ_idr}
use lib.ListN.{length, get_or, set, take, drop}
use lib.Seq.{get_or-take}
use Rattle.integers.specs.Sum.{sizes}
use Rattle.integers.proofs.Sizes.{size-entry}
use Rattle.running.specs.Words.{cell_words}
use Rattle.running.specs.Running.{added_from, sizes_most, number_words, all_numbers, within_limits}
use Rattle.running.specs.Helpers.{amount_at, cells_changed}
use Rattle.running.proofs.WithinLimits.{within-each}
use Rattle.running.proofs.Changed.{length-changed, changed-from, changed-after, twice-from, one_from}

-- the words after those that are changed
pub kept_from : (f : ℕ → ℤ) (k n i : ℕ) (cells : List ℤ) → n ≤ i → get_or (added_from f k n cells) i (pos 0) ≡ get_or cells i (pos 0)
unfolding added_from
kept_from f k zero i cells h = refl
kept_from f k (suc n) i [] h = refl
kept_from f k (suc n) zero (x ∷ cells) h = absurd (omega arith)
kept_from f k (suc n) (suc i) (x ∷ cells) h = kept_from f (suc k) n i cells (omega arith)

-- one word more
more-from : (f : ℕ → ℤ) (k n : ℕ) (cells : List ℤ)
    → set (added_from f k n cells) n (get_or (added_from f k n cells) n (pos 0) +ℤ f (k + n)) ≡ added_from f k (suc n) cells
unfolding added_from
more-from f k zero [] = refl
more-from f k zero (x ∷ cells) = let e : k + 0 ≡ k = omega arith in ap (λ (j : ℕ). (x +ℤ f j) ∷ cells) e
more-from f k (suc n) [] = refl
more-from f k (suc n) (x ∷ cells) =
    let e : k + suc n ≡ suc k + n = omega arith in
    let after = added_from f (suc k) n cells in
    ap (λ (ys : List ℤ). (x +ℤ f k) ∷ ys) (ap (λ (j : ℕ). set after n (get_or after n (pos 0) +ℤ f j)) e ∙ more-from f (suc k) n cells)

pub one_word_more : (f : ℕ → ℤ) (n : ℕ) (cells : List ℤ)
    → set (added_from f 0 n cells) n (get_or (added_from f 0 n cells) n (pos 0) +ℤ f n) ≡ added_from f 0 (n + 1) cells
one_word_more f n cells =
    let e : n ≡ 0 + n = omega arith in
    let after = added_from f 0 n cells in
    rw add-one (ap (λ (j : ℕ). set after n (get_or after n (pos 0) +ℤ f j)) e ∙ more-from f 0 n cells)

-- each of the first n words
pub first-at : (f : ℕ → ℤ) (n i : ℕ) (cells : List ℤ) → i < n → i < length cells → get_or (added_from f 0 n cells) i (pos 0) ≡ get_or cells i (pos 0) +ℤ f i
first-at f n i cells h l =
    let e : 0 + i ≡ i = omega arith in
    changed-from f 0 n i cells h l ∙ ap (λ (j : ℕ). get_or cells i (pos 0) +ℤ f j) e

-- two words, one after the other
pub two-added : (n at : ℕ) (a b : ℤ) (cells : List ℤ) → at + 1 < n → n ≤ length cells
    → let first = set cells at (get_or cells at (pos 0) +ℤ a) in
    set first (at + 1) (get_or first (at + 1) (pos 0) +ℤ b) ≡ added_from (λ k. amount_at at a k +ℤ amount_at (at + 1) b k) 0 n cells
two-added n at a b cells h long =
    let one = one_from a at 0 n at cells (omega arith) (omega arith) (omega arith) in
    let next : at + 1 < length (added_from (amount_at at a) 0 n cells) = omega (arith, length-changed (amount_at at a) 0 n cells) in
    rw (← one)
    (sym (one_from b (at + 1) 0 n (at + 1) (added_from (amount_at at a) 0 n cells) (omega arith) h next)
    ∙ twice-from (amount_at at a) (amount_at (at + 1) b) 0 n cells)

-- where nothing is added to the words after the first n
pub only-first : (f : ℕ → ℤ) (k n m : ℕ) (cells : List ℤ) → n ≤ m → ((i : ℕ) → k + n ≤ i → i < k + m → f i ≡ pos 0) → added_from f k m cells ≡ added_from f k n cells
unfolding added_from
only-first f k zero zero cells h none = refl
only-first f k zero (suc m) [] h none = refl
only-first f k zero (suc m) (x ∷ cells) h none =
    ap₂ (λ (y : ℤ) (ys : List ℤ). y ∷ ys)
    (ap (λ (y : ℤ). x +ℤ y) (none k (omega arith) (omega arith)) ∙ +ℤ_idr x)
    (only-first f (suc k) zero m cells (omega arith) (λ i a b. none i (omega arith) (omega arith)))
only-first f k (suc n) zero cells h none = absurd (omega arith)
only-first f k (suc n) (suc m) [] h none = refl
only-first f k (suc n) (suc m) (x ∷ cells) h none =
    ap (λ (ys : List ℤ). (x +ℤ f k) ∷ ys) (only-first f (suc k) n m cells (omega arith) (λ i a b. none i (omega arith) (omega arith)))

-- limits

module _ (cells : List ℤ) (within : within_limits cells ≡ true) where
  pub cell-within : (k : ℕ) → k < cell_words → nat_abs (get_or cells k (pos 0)) ≤ sizes_most
  cell-within k h = omega (arith, (within-each cells within).sizes-most, rw (get_or-take cell_words cells k (pos 0) h) at (size-entry (take cell_words cells) k))

  -- the numbers after the cells stay as they were, so the sizes of the cells decide
  pub changed-within : (f : ℕ → ℤ) → within_limits (cells_changed f cells) ≡ leb (sizes (take cell_words (cells_changed f cells))) sizes_most
  unfolding within_limits
  changed-within f =
      let numbers = ((and-eq-true_iff (leb (sizes (take cell_words cells)) sizes_most) (all_numbers number_words (drop cell_words cells))).0 within).1 in
      rw (changed-after f 0 cell_words cells, numbers) (and-true (leb (sizes (take cell_words (cells_changed f cells))) sizes_most))
