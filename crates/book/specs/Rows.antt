-- "The rows stand in a lent slice of 64-bit words, three words a meter, in strictly rising order of MPAN".
use Rattle.std.specs.Prelude.{ℕ, zero, suc, ◌*◌, ◌/◌, min, Bool, true, false, ◌&&◌, cond, List, [], ◌∷◌, ◌++◌, ltb, eqb, length, get_or, drop}
use Rattle.words.specs.Mpan.{is_mpan}
use Rattle.words.specs.Registration.{is_registration, without_charges}
use Rattle.words.specs.Reading.{is_reading, no_reading, issue_of}
use Rattle.book.specs.Limits.{meters_most}

-- one meter's words: "Word 0: MPAN", word 1 its registration, "Word 2" its reading
pub record Row : Type 0 where
  pub mpan : ℕ
  pub registration : ℕ
  pub reading : ℕ

-- "Capacity is the slice length divided by 3, rounded down, and at most 65,536"
unfoldable pub capacity : List ℕ → ℕ
capacity words = min (length words / 3) meters_most

-- the row that stands first in a slice
abbrev pub first_row : List ℕ → Row
first_row words = record { mpan = get_or words 0 0; registration = get_or words 1 0; reading = get_or words 2 0 }

-- "three words a meter": the first n rows of a slice
unfoldable pub rows_of : ℕ → List ℕ → List Row
rows_of zero words = []
rows_of (suc n) words = first_row words ∷ rows_of n (drop 3 words)

-- the words of rows
unfoldable pub words_of : List Row → List ℕ
words_of [] = []
words_of (r ∷ rows) = r.mpan ∷ r.registration ∷ r.reading ∷ words_of rows

-- "Nothing else in a lent slice changes": a slice with these rows at its start and every word after them as it was
unfoldable pub written : List Row → List ℕ → List ℕ
written rows words = words_of rows ++ drop (3 * length rows) words

-- "each used word [..] is one that accepted calls could have written"
abbrev pub is_row : Row → Bool
is_row r = is_mpan r.mpan && is_registration r.registration && is_reading r.reading

-- "the rows rise strictly": each row well formed, with an MPAN above the one before it (0 before the first)
unfoldable pub rows_formed : ℕ → List Row → Bool
rows_formed before [] = true
rows_formed before (r ∷ rows) = is_row r && ltb before r.mpan && rows_formed r.mpan rows

-- whether a meter is in the book
unfoldable pub is_known : ℕ → List Row → Bool
is_known m [] = false
is_known m (r ∷ rows) = cond (eqb r.mpan m) true (is_known m rows)

-- the issue that a meter holds; 0 if it has no reading
unfoldable pub issue_held : ℕ → List Row → ℕ
issue_held m [] = 0
issue_held m (r ∷ rows) = cond (eqb r.mpan m) (issue_of r.reading) (issue_held m rows)

-- "A new meter gets its row in order, [..] and it has no reading"
abbrev pub new_row : ℕ → ℕ → Row
new_row m word = record { mpan = m; registration = word; reading = no_reading }

-- "Register: stores or replaces word 1. A new meter gets its row in order, later rows move up three words, and it has no reading. A known meter keeps its reading"
unfoldable pub with_registration : ℕ → ℕ → List Row → List Row
with_registration m word [] = new_row m word ∷ []
with_registration m word (r ∷ rows) =
    cond (ltb r.mpan m)
    (r ∷ with_registration m word rows)
    (cond (eqb r.mpan m)
    (record { mpan = m; registration = word; reading = r.reading } ∷ rows)
    (new_row m word ∷ r ∷ rows))

-- "Reading: stored": word 2 of that meter replaced
unfoldable pub with_reading : ℕ → ℕ → List Row → List Row
with_reading m word [] = []
with_reading m word (r ∷ rows) =
    cond (eqb r.mpan m)
    (record { mpan = m; registration = r.registration; reading = word } ∷ rows)
    (r ∷ with_reading m word rows)

-- document 02, request 1: "the new fields", the embedded network and the tariff, left out of a row
abbrev pub row_without_charges : Row → Row
row_without_charges r = record { mpan = r.mpan; registration = without_charges r.registration; reading = r.reading }
