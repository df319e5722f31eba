-- What the functions below the calls are held to: places of rows, and what storing leaves.
use Rattle.std.specs.Prelude.{ℕ, zero, suc, ◌*◌, ◌≤◌, ◌≡◌, Bool, true, ◌||◌, cond, Option, Some, None, Result, Ok, Err, List, [], ◌∷◌, leb, ltb, eqb, length}
use Rattle.refusals.specs.declared.Refusal.{Refusal}
use Rattle.refusals.specs.declared.Refusal.TheVariants.{ArgumentOutOfRange}
use Rattle.refusals.specs.Causes.{accepted}
use Rattle.refusals.specs.Refusal.{number_given}
use Rattle.words.specs.declared.Registration.{Registration}
use Rattle.words.specs.declared.Reading.{Reading}
use Rattle.words.specs.Registration.{registration_word}
use Rattle.words.specs.Reading.{reading_word}
use Rattle.book.specs.declared.Settings.{Settings}
use Rattle.book.specs.declared.Setting.{Setting}
use Rattle.book.specs.declared.Answer.{Answer}
use Rattle.book.specs.declared.Held.{Held}
use Rattle.book.specs.Settings.{setting_in_range, with_setting}
use Rattle.book.specs.Rows.{Row, capacity, rows_of, rows_formed, is_known, with_registration, with_reading}
use Rattle.book.specs.Store.{register_in_range, word_cause, registration_cause, reading_cause}

-- the row of these words
abbrev pub row : ℕ → ℕ → ℕ → Row
row m registration reading = record { mpan = m; registration = registration; reading = reading }

-- a number is at most `most`, or is the one other number allowed
abbrev pub within : ℕ → ℕ → ℕ → Bool
within most other x = leb x most || eqb x other

-- where a meter's row stands, or is to stand: after the rows at the front whose MPANs are below its own
unfoldable pub place_of : ℕ → List Row → ℕ
place_of m [] = 0
place_of m (r ∷ rows) = cond (ltb r.mpan m) (suc (place_of m rows)) 0

-- what a search for a meter finds: its row's place, or the place where its row is to stand
abbrev pub place_in : ℕ → List Row → Result ℕ ℕ
place_in m rows = cond (is_known m rows) (Ok (place_of m rows)) (Err (place_of m rows))

-- rows that a meter may be looked for in
pub record Searchable (meters : ℕ) (words : List ℕ) : Type 0 where
  pub within : 3 * meters ≤ length words
  pub formed : rows_formed 0 (rows_of meters words) ≡ true

-- rows that a call may look for a meter in, and write, without a test of its own
pub record RowsReady (meters : ℕ) (words : List ℕ) : Type 0 where
  pub within-capacity : meters ≤ capacity words
  pub formed : rows_formed 0 (rows_of meters words) ≡ true

-- what a meter holds in rows
abbrev pub row_held : ℕ → ℕ → Held
row_held registration reading = record { registration = registration; reading = reading }

unfoldable pub held_in : ℕ → List Row → Option Held
held_in m [] = None
held_in m (r ∷ rows) = cond (eqb r.mpan m) (Some (row_held r.registration r.reading)) (held_in m rows)

-- what storing leaves: the number given, and the rows
pub record Storing : Type 0 where
  pub number : ℕ
  pub rows : List Row

-- by its cause: the rows that it makes, or on a refusal the rows as they were
unfoldable pub storing : ℕ → List Row → List Row → Storing
storing zero made given = record { number = accepted; rows = made }
storing (suc k) made given = record { number = suc k; rows = given }

-- what a register call asks for: a word to store, which is in range
abbrev pub asked_of : ℕ → Registration → Result ℕ Refusal
asked_of m r = cond (register_in_range m r) (Ok (registration_word r)) (Err ArgumentOutOfRange)

-- what storing that word leaves, and what storing a registration or a reading leaves
unfoldable pub word_storing : ℕ → ℕ → ℕ → List Row → Storing
word_storing capacity m word rows = storing (word_cause capacity m rows) (with_registration m word rows) rows

unfoldable pub registration_storing : ℕ → ℕ → Registration → List Row → Storing
registration_storing capacity m r rows = storing (registration_cause capacity m r rows) (with_registration m (registration_word r) rows) rows

unfoldable pub reading_storing : ℕ → Reading → List Row → Storing
reading_storing m r rows = storing (reading_cause m r rows) (with_reading m (reading_word r) rows) rows

-- what replacing a setting gives
unfoldable pub setting_replaced : Setting → Settings → Result Settings Refusal
setting_replaced x s = cond (setting_in_range x) (Ok (with_setting x s)) (Err ArgumentOutOfRange)

-- "Returned", "Untouched": the settings after a call that was handed settings s
abbrev pub settings_after : Settings → Result Settings Refusal → Settings
settings_after s (Ok made) = made
settings_after s (Err refusal) = s

-- the answer of such a call
abbrev pub answer_of : Settings → Result Settings Refusal → Answer
answer_of s outcome = record { number = number_given outcome; settings = settings_after s outcome }
