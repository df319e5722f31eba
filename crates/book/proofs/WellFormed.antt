-- The parts of a well-formed book and of well-formed settings, taken apart and put together.
use Prim.Native.Nat.{ℕ, ◌*◌, ◌≤◌, ◌<◌}
use mathlib.Core.Path.{◌≡◌}
use mathlib.Core.Bool.{true, false, and-false, and-eq-true_iff}
use mathlib.Core.List.{List}
use native.Mathlib.Omega.{arith}
use borrow.Author.Tests.{le-leb, lt-leb, leb-true}
use lib.ListN.{length}
use Rattle.book.specs.declared.Settings.{Settings}
use Rattle.std.specs.List.{list_all}
use Rattle.book.specs.Settings.{is_weight, is_shape, is_tolerance, take_formed, settings_formed}
use Rattle.book.specs.Rows.{capacity, rows_of, rows_formed}
use Rattle.book.specs.Book.{Book, used_rows, well_formed, lent}
use Rattle.book.specs.Helpers.{Searchable, RowsReady}
use Rattle.book.proofs.RowsOf.{length-rows}

-- a number of meters within capacity leaves room for their words
pub room : (words : List ℕ) (n : ℕ) → n ≤ capacity words → 3 * n ≤ length words
unfolding capacity
room words n h = omega arith

-- rows that are ready may be searched
pub ready-to-search : {meters : ℕ} {words : List ℕ} → RowsReady meters words → Searchable meters words
ready-to-search {meters} {words} r = record { within = room words meters r.within-capacity; formed = r.formed }

pub record FormedBook (b : Book) : Type 0 where
  pub within : b.settings.meters ≤ capacity b.rows
  pub settings-formed : settings_formed b.settings ≡ true
  pub rows-formed : rows_formed 0 (used_rows b) ≡ true

pub formed-book : (b : Book) → well_formed b ≡ true → FormedBook b
unfolding well_formed
formed-book b h =
    let k = simp and-eq-true_iff at h in
    record { within = leb-true b.settings.meters (capacity b.rows) k.0.0; settings-formed = k.0.1; rows-formed = k.1 }

pub book-formed : (b : Book) → FormedBook b → well_formed b ≡ true
unfolding well_formed
book-formed b f = rw (le-leb b.settings.meters (capacity b.rows) f.within, f.settings-formed, f.rows-formed)

pub record FormedSettings (s : Settings) : Type 0 where
  pub weights-formed : list_all is_weight s.weights ≡ true
  pub shapes-formed : list_all is_shape s.shapes ≡ true
  pub tolerance-formed : is_tolerance s.tolerance ≡ true
  pub take-formed : take_formed s.take_set s.take_wh ≡ true

pub formed-settings : (s : Settings) → settings_formed s ≡ true → FormedSettings s
unfolding settings_formed
formed-settings s h =
    let k = simp and-eq-true_iff at h in
    record { weights-formed = k.0.0.0; shapes-formed = k.0.0.1; tolerance-formed = k.0.1; take-formed = k.1 }

pub settings-formed : (s : Settings) → FormedSettings s → settings_formed s ≡ true
unfolding settings_formed
settings-formed s f = rw (f.weights-formed, f.shapes-formed, f.tolerance-formed, f.take-formed)

-- as many rows are in use as there are meters
pub used-count : (b : Book) → length (used_rows b) ≡ b.settings.meters
unfolding used_rows
used-count b = length-rows b.settings.meters b.rows

-- as the code tests a book
module _ (s : Settings) (words : List ℕ) where
  pub too-many-meters : capacity words < s.meters → false ≡ well_formed (lent s words)
  unfolding well_formed
  too-many-meters h = rw (lt-leb s.meters (capacity words) h)

  pub ill-formed-settings : settings_formed s ≡ false → false ≡ well_formed (lent s words)
  unfolding well_formed
  ill-formed-settings h = rw (h, and-false)

  pub rows-decide : s.meters ≤ capacity words → settings_formed s ≡ true → rows_formed 0 (rows_of s.meters words) ≡ well_formed (lent s words)
  unfolding well_formed used_rows
  rows-decide h t = rw (le-leb s.meters (capacity words) h, t)

  -- the rows of a well-formed book may be searched and written
  pub rows-ready : well_formed (lent s words) ≡ true → RowsReady s.meters words
  unfolding used_rows
  rows-ready h =
      let f = formed-book (lent s words) h in
      record { within-capacity = f.within; formed = f.rows-formed }

  -- and are in its words
  pub meters_within : well_formed (lent s words) ≡ true → 3 * s.meters ≤ length words
  meters_within h = room words s.meters (formed-book (lent s words) h).within

pub ruleset tested = (room, too-many-meters, ill-formed-settings, rows-decide)
