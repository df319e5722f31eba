-- Rows in two parts that each rise. While a list of calls is made, the rows of new meters are gathered behind the rows that were
-- there, and the two parts are merged from time to time: a new row then moves few others, in whatever order meters arrive.
use Rattle.std.specs.Prelude.{ℕ, ◌+◌, ◌-◌, ◌*◌, ◌≤◌, ◌<◌, ◌≡◌, true, false, cond, List, [], ◌∷◌, ltb, drop}
use Rattle.book.specs.Rows.{Row, capacity, rows_of, rows_formed, is_known, written}

-- a row put in its place among rows
unfoldable pub with_row : Row → List Row → List Row
with_row r [] = r ∷ []
with_row r (x ∷ rows) = cond (ltb x.mpan r.mpan) (x ∷ with_row r rows) (r ∷ x ∷ rows)

-- rows put in their places among others
unfoldable pub merged : List Row → List Row → List Row
merged rows [] = rows
merged rows (r ∷ more) = with_row r (merged rows more)

-- the rows of the second part: those after the first `first` rows
unfoldable pub later_rows : ℕ → ℕ → List ℕ → List Row
later_rows first later words = rows_of later (drop (3 * first) words)

-- the slice as it is with the two parts merged: the rows of one book, and every word after them as it was
unfoldable pub as_one : ℕ → ℕ → List ℕ → List ℕ
as_one first later words = written (merged (rows_of first words) (later_rows first later words)) words

-- the most rows that the second part has
abbrev pub later_most : ℕ
later_most = 512

-- the rows of two parts: both rise, and no meter stands in both
pub record RowsApart (first later : List Row) : Type 0 where
  pub first-formed : rows_formed 0 first ≡ true
  pub later-formed : rows_formed 0 later ≡ true
  pub apart : (m : ℕ) → is_known m later ≡ true → is_known m first ≡ false

-- two parts in which a meter may be looked for, and stored
pub record PartsReady (first later : ℕ) (words : List ℕ) : Type 0 where
  pub within-capacity : first + later ≤ capacity words
  pub rows : RowsApart (rows_of first words) (later_rows first later words)

-- what making room in the second part leaves, for rows that are `meters` in both: the same rows merged, and a second part that has room for one more
pub record HasRoom (first meters : ℕ) (words : List ℕ) (first_after : ℕ) (words_after : List ℕ) : Type 0 where
  pub within : first_after ≤ meters
  pub ready : PartsReady first_after (meters - first_after) words_after
  pub same : as_one first_after (meters - first_after) words_after ≡ as_one first (meters - first) words
  pub room : meters - first_after < later_most
