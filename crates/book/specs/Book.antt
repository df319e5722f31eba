-- One book: the settings and the slice with the rows.
use Rattle.std.specs.Prelude.{ℕ, Bool, ◌&&◌, List, leb, length}
use Rattle.book.specs.declared.Settings.{Settings}
use Rattle.book.specs.Settings.{fresh_settings, settings_formed, with_meters}
use Rattle.book.specs.Rows.{Row, capacity, rows_of, rows_formed, written}

-- "Every call is lent the rows with the settings"
pub record Book : Type 0 where
  pub settings : Settings
  pub rows : List ℕ

abbrev pub lent : Settings → List ℕ → Book
lent s words = record { settings = s; rows = words }

-- "it starts from the fresh settings and that slice, whatever its length and words"
abbrev pub fresh_book : List ℕ → Book
fresh_book words = record { settings = fresh_settings; rows = words }

-- the rows in use; "Words past the last used row mean nothing"
unfoldable pub used_rows : Book → List Row
used_rows b = rows_of b.settings.meters b.rows

-- "A book is well formed if each used word and each setting is one that accepted calls could have written, the rows rise strictly, and the number of meters is within capacity"
unfoldable pub well_formed : Book → Bool
well_formed b =
    leb b.settings.meters (capacity b.rows)
    && settings_formed b.settings
    && rows_formed 0 (used_rows b)

-- the book with these rows in use, the number of meters with them
abbrev pub with_rows : List Row → Book → Book
with_rows rows b = record { settings = with_meters (length rows) b.settings; rows = written rows b.rows }
