-- What making a call is held to: rows that are lent, what storing in them leaves, and the answer of a call that stored.
use Rattle.std.specs.Prelude.{ℕ, zero, suc, ◌≡◌, true, false, Bool, Result, Ok, Err, List, ℤ, ◌-ℤ◌}
use Rattle.refusals.specs.declared.Refusal.{Refusal}
use Rattle.refusals.specs.Refusal.{number_given}
use Rattle.words.specs.declared.Registration.{Registration}
use Rattle.words.specs.declared.Reading.{Reading}
use Rattle.book.specs.declared.Settings.{Settings}
use Rattle.book.specs.declared.Setting.{Setting}
use Rattle.book.specs.declared.Setting.TheVariants.{Shape, Weight, Tolerance, GroupTake}
use Rattle.book.specs.declared.Answer.{Answer}
use Rattle.book.specs.Settings.{with_meters, with_setting, setting_cause}
use Rattle.book.specs.Rows.{Row, capacity}
use Rattle.book.specs.Helpers.{Storing, registration_storing, reading_storing, answer_of}
use Rattle.cells.specs.Cells.{sum_over}
use Rattle.running.specs.Words.{sum_in}
use Rattle.running.specs.Running.{with_change, within_limits, limit_cause}
use Rattle.running.specs.Helpers.{RowsHeld, kept_by}
use Rattle.calls.specs.Stores.{Stores}

-- the settings after storing in the rows, with the meters that there are then
abbrev pub settings_counted : Settings → Result ℕ Refusal → Result Settings Refusal
settings_counted s (Ok meters) = Ok (with_meters meters s)
settings_counted s (Err refusal) = Err refusal

-- the answer of a call that stored in the rows
abbrev pub answer_counted : Settings → Result ℕ Refusal → Answer
answer_counted s outcome = answer_of s (settings_counted s outcome)

-- the answer of a call that left these settings
abbrev pub answer_with : {A : Type 0} → Result A Refusal → Settings → Answer
answer_with outcome s = record { number = number_given outcome; settings = s }

-- a setting that no cell depends on
abbrev pub keeps_cells : Setting → Bool
keeps_cells (Shape category wh) = false
keeps_cells (Weight class thousandths) = true
keeps_cells (Tolerance g) = true
keeps_cells (GroupTake wh) = true

-- rows that are lent, wherever they stand: the slice, the words of the book whose rows they are, and how many meters have one
pub record LentRows : Type 0 where
  pub slice : ℕ
  pub words : List ℕ
  pub meters : ℕ

-- the meters after storing, where there were so many before
abbrev pub meters_after : ℕ → Result ℕ Refusal → ℕ
meters_after meters (Ok n) = n
meters_after meters (Err refusal) = meters

-- what storing in them leaves, and of running cells
pub record StoresIn (store : List Row → Storing) (shapes : List ℕ) (before : LentRows) (cells : List ℤ) (outcome : Result ℕ Refusal) (after : LentRows) (cells_after : List ℤ) : Type 0 where
  pub same_slice : after.slice ≡ before.slice
  pub stores : Stores store shapes before.meters before.words cells outcome after.words cells_after
  pub counted : after.meters ≡ meters_after before.meters outcome

abbrev pub Registers : ℕ → Registration → List ℕ → LentRows → List ℤ → Result ℕ Refusal → LentRows → List ℤ → Type 0
Registers m r shapes before = StoresIn (registration_storing (capacity before.words) m r) shapes before

abbrev pub Records : ℕ → Reading → List ℕ → LentRows → List ℤ → Result ℕ Refusal → LentRows → List ℤ → Type 0
Records m r = StoresIn (reading_storing m r)

-- the rows of a book, in whatever order they stand: sums over them are the same
pub record InAnyOrder (meters listed : List Row) : Type 0 where
  pub held : RowsHeld listed
  pub same_sums : (f : ℕ → ℕ → ℤ) → sum_over f listed ≡ sum_over f meters

-- what replacing a setting leaves, of the settings and the cells of a book that has these rows: a shape changes the cells of meters that wait for it, and the limit is its last cause
unfoldable pub setting_change : Settings → List Row → Setting → ℕ → ℤ
setting_change s meters x k = sum_in (with_setting x s).shapes meters k -ℤ sum_in s.shapes meters k

-- and the settings, by the number given
unfoldable pub set_by : ℕ → Setting → Settings → Settings
set_by zero x s = with_setting x s
set_by (suc k) x s = s

pub record SetKept (s : Settings) (meters : List Row) (cells : List ℤ) (x : Setting) (a : Answer) (cells_after : List ℤ) : Type 0 where
  pub number : a.number ≡ limit_cause (setting_cause x) (within_limits (with_change (setting_change s meters x) cells))
  pub settings : a.settings ≡ set_by a.number x s
  pub cells_are : cells_after ≡ kept_by a.number (setting_change s meters x) cells
