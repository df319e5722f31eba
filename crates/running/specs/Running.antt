-- Document 02, request 4: a book with its slice of running cells, how a change of the book changes the slice, and the limits of its words.
use Rattle.std.specs.Prelude.{ℕ, zero, suc, Bool, true, not, ◌&&◌, List, [], ◌∷◌, map, leb, ltb, ℤ, pos, ◌+ℤ◌, ◌-ℤ◌, length, take, drop}
use Rattle.std.specs.Int.Signed.{le_z}
use Rattle.refusals.specs.Causes.{refuse, accepted, book_ill_formed, cells_short}
use Rattle.integers.specs.Sum.{sizes}
use Rattle.book.specs.declared.Settings.{Settings}
use Rattle.book.specs.Rows.{Row}
use Rattle.book.specs.Book.{Book, lent, used_rows, well_formed}
use Rattle.cells.specs.Cells.{count_from}
use Rattle.running.specs.Words.{cell_words, slice_words, sum_in}

-- "The book now lends a signed slice": the book and that slice
pub record Running : Type 0 where
  pub book : Book
  pub cells : List ℤ

abbrev pub running_of : Settings → List ℕ → List ℤ → Running
running_of s words cells = record { book = lent s words; cells = cells }

-- "a sum over the rows": the first 836 words of a slice that has kept up with these meters under these shapes
unfoldable pub cells_for : List ℕ → List Row → List ℤ
cells_for shapes meters = map (sum_in shapes meters) (count_from 0 slice_words)

-- a slice with an amount added to each of n words, from its word k on; the words after them as they were
unfoldable pub added_from : (ℕ → ℤ) → ℕ → ℕ → List ℤ → List ℤ
added_from f k zero cells = cells
added_from f k (suc n) [] = []
added_from f k (suc n) (x ∷ cells) = (x +ℤ f k) ∷ added_from f (suc k) n cells

-- and to each of its first 836
abbrev pub with_change : (ℕ → ℤ) → List ℤ → List ℤ
with_change f cells = added_from f 0 slice_words cells

-- "the change in the sum over the rows", from one book to another, at word k
unfoldable pub change_in : Book → Book → ℕ → ℤ
change_in before after k = sum_in after.settings.shapes (used_rows after) k -ℤ sum_in before.settings.shapes (used_rows before) k

-- "every call adds the change in the sum over the rows": the book and the cells of a call that makes this book
abbrev pub kept_up : Running → Book → Running
kept_up r made = record { book = made; cells = with_change (change_in r.book made) r.cells }

-- "cell sizes add up above 1,310,720,000,000,000"
abbrev pub sizes_most : ℕ
sizes_most = 1310720000000000

-- "a count or waiting number is outside 0 to 4,294,967,295"
abbrev pub number_most : ℤ
number_most = pos 4294967295

abbrev pub is_number : ℤ → Bool
is_number x = le_z (pos 0) x && le_z x number_most

unfoldable pub all_numbers : ℕ → List ℤ → Bool
all_numbers zero words = true
all_numbers (suc n) [] = true
all_numbers (suc n) (x ∷ words) = is_number x && all_numbers n words

-- a slice that passes no limit: its 768 cells and its 68 numbers
abbrev pub number_words : ℕ
number_words = 68

unfoldable pub within_limits : List ℤ → Bool
within_limits cells = leb (sizes (take cell_words cells)) sizes_most && all_numbers number_words (drop cell_words cells)

-- "Refusal 13, before 1, is a cell slice shorter than 836 words"; "Refusal 1 is also given if" the slice passes a limit: these two causes, before what comes after them
abbrev pub is_short : List ℤ → Bool
is_short cells = ltb (length cells) slice_words

unfoldable pub running_formed : Running → Bool
running_formed r = well_formed r.book && within_limits r.cells

abbrev pub lent_cause : Running → ℕ → ℕ
lent_cause r rest = refuse (is_short r.cells) cells_short (refuse (not (running_formed r)) book_ill_formed rest)

-- "or, after all else, if the call would bring that about": 1 again, where no other cause applies and a limit would be passed
unfoldable pub limit_cause : ℕ → Bool → ℕ
limit_cause zero within = refuse (not within) book_ill_formed accepted
limit_cause (suc k) within = suc k
