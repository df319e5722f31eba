-- How the functions that merge the two parts in place speak: the row that stands last of those left, and where it is put.
use Rattle.std.specs.Prelude.{ℕ, ◌*◌, ◌-◌, ◌≡◌, Bool, ◌&&◌, cond, List, [], ◌∷◌, ◌++◌, ltb, drop}
use Rattle.book.specs.Rows.{Row, first_row, rows_of, written}

-- row i of a slice
abbrev pub row_of : ℕ → List ℕ → Row
row_of i words = first_row (drop (3 * i) words)

-- a slice with another row i
unfoldable pub row_put : ℕ → Row → List ℕ → List ℕ
row_put i r words = written (rows_of i words ++ r ∷ []) words

-- Of the first part `left` rows are left in the slice, and of the second those up to row `at - left` of the copy held:
-- whether the last of them all is the first part's.
unfoldable pub last_is_first : ℕ → ℕ → List ℕ → List ℕ → Bool
last_is_first left at held words = ltb 0 left && ltb (row_of (at - left) held).mpan (row_of (left - 1) words).mpan

-- the last row left is put at row `at`
pub record LastPlaced (left at : ℕ) (held words : List ℕ) (new_left : ℕ) (words_after : List ℕ) : Type 0 where
  pub left_after : new_left ≡ cond (last_is_first left at held words) (left - 1) left
  pub placed : words_after ≡ row_put at (cond (last_is_first left at held words) (row_of (left - 1) words) (row_of (at - left) held)) words
