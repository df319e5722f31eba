-- The rows of a slice by their place in it: three words a row.
use Prim.Native.Nat.{ℕ, zero, suc, ◌+◌, ◌*◌, ◌-◌, ◌≤◌, ◌<◌}
use mathlib.Core.Path.{◌≡◌, refl, sym, ◌∙◌, ap}
use mathlib.Core.List.{List, [], ◌∷◌}
use native.Mathlib.Nat.{add-zero, le_of_suc-le-suc, not-suc-le-zero}
use native.Mathlib.Omega.{arith}
use lib.ListN.{length, get_or, take, drop, length-drop}
use lib.Seq.{get_or-drop, drop-drop, take-add}
use Rattle.book.specs.Rows.{Row, first_row, rows_of, words_of}

-- the row whose words stand from `at` on
abbrev pub row_at : List ℕ → ℕ → Row
row_at words at = record { mpan = get_or words at 0; registration = get_or words (at + 1) 0; reading = get_or words (at + 2) 0 }

pub first-row : (words : List ℕ) (at : ℕ) → first_row (drop at words) ≡ row_at words at
first-row words at = simp (get_or-drop, add-zero)

-- the rows from row i on: row i, and the rows from the next on
pub rows_next : (words : List ℕ) (n i : ℕ) → i < n → rows_of (n - i) (drop (3 * i) words) ≡ row_at words (3 * i) ∷ rows_of (n - (i + 1)) (drop (3 * (i + 1)) words)
unfolding rows_of
rows_next words n i h =
    let k : n - i ≡ suc (n - (i + 1)) = omega arith in
    let e : 3 * i + 3 ≡ 3 * (i + 1) = omega arith in
    rw k (rw (drop-drop 3 (3 * i) words, e, first-row words (3 * i)))

pub length-rows : (n : ℕ) (words : List ℕ) → length (rows_of n words) ≡ n
unfolding rows_of
length-rows zero words = refl
length-rows (suc n) words = ap suc (length-rows n (drop 3 words))

-- the rows before row k, and the rows from row k on
pub take-rows : (k n : ℕ) (words : List ℕ) → k ≤ n → take k (rows_of n words) ≡ rows_of k words
unfolding rows_of
take-rows zero n words h = refl
take-rows (suc k) zero words h = absurd (not-suc-le-zero h)
take-rows (suc k) (suc n) words h = ap (λ (r : List Row). first_row words ∷ r) (take-rows k n (drop 3 words) (le_of_suc-le-suc h))

pub drop-rows : (k n : ℕ) (words : List ℕ) → k ≤ n → drop k (rows_of n words) ≡ rows_of (n - k) (drop (3 * k) words)
unfolding rows_of
drop-rows zero n words h =
    let e : n - 0 ≡ n = omega arith in
    rw e
drop-rows (suc k) zero words h = absurd (not-suc-le-zero h)
drop-rows (suc k) (suc n) words h =
    let e : suc n - suc k ≡ n - k = omega arith in
    let f : 3 * suc k ≡ 3 + 3 * k = omega arith in
    rw (e, f) (drop-rows k n (drop 3 words) (le_of_suc-le-suc h) ∙ ap (rows_of (n - k)) (drop-drop (3 * k) 3 words))

-- row i by its words
pub row-of : (n i : ℕ) (words : List ℕ) (d : Row) → i < n → get_or (rows_of n words) i d ≡ row_at words (3 * i)
row-of n i words d h =
    let e : get_or (drop i (rows_of n words)) 0 d ≡ get_or (rows_of n words) i d = simp (get_or-drop, add-zero) in
    sym e ∙ ap (λ (l : List Row). get_or l 0 d) (drop-rows i n words (omega arith) ∙ rows_next words n i h)

pub first_three : (words : List ℕ) → 3 ≤ length words → take 3 words ≡ get_or words 0 0 ∷ get_or words 1 0 ∷ get_or words 2 0 ∷ []
first_three [] h = absurd (omega arith)
first_three (a ∷ []) h = absurd (omega arith)
first_three (a ∷ b ∷ []) h = absurd (omega arith)
first_three (a ∷ b ∷ c ∷ words) h = refl

-- the words of the first rows are the first words
pub words-of-rows : (n : ℕ) (words : List ℕ) → 3 * n ≤ length words → words_of (rows_of n words) ≡ take (3 * n) words
unfolding rows_of words_of
words-of-rows zero words h = refl
words-of-rows (suc n) words h =
    let e : 3 * suc n ≡ 3 + 3 * n = omega arith in
    let l : 3 * n ≤ length (drop 3 words) = rw length-drop (omega arith) in
    rw (e, take-add 3 (3 * n) words, first_three words (omega arith), words-of-rows n (drop 3 words) l)

pub length-words : (rows : List Row) → length (words_of rows) ≡ 3 * length rows
unfolding words_of
length-words [] = refl
length-words (r ∷ rows) = rw (length-words rows) (omega arith)
