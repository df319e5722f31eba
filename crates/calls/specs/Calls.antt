-- "The calls": the six that write the book, as total functions.
use Rattle.std.specs.Prelude.{ℕ, zero, suc, not, List, [], ◌∷◌}
use Rattle.refusals.specs.Causes.{refuse, accepted, book_ill_formed}
use Rattle.words.specs.Registration.{registration_word}
use Rattle.words.specs.Reading.{reading_word}
use Rattle.book.specs.Settings.{with_setting, setting_cause}
use Rattle.book.specs.Rows.{capacity, with_registration, with_reading}
use Rattle.book.specs.Book.{Book, used_rows, well_formed, with_rows}
use Rattle.book.specs.Store.{registration_cause, reading_cause}
use Rattle.calls.specs.declared.Call.{Call}
use Rattle.calls.specs.declared.Call.TheVariants.{Register, Record, Set}

-- what a call leaves: the book afterwards and the number given
pub record Outcome : Type 0 where
  pub number : ℕ
  pub book : Book

-- "Returned", "Untouched": on acceptance the book that the call makes, on a refusal the book as it was
unfoldable pub outcome : ℕ → Book → Book → Outcome
outcome zero made given = record { number = accepted; book = made }
outcome (suc k) made given = record { number = suc k; book = given }

-- the cause for which a well-formed book refuses a call
unfoldable pub cause_after_test : Book → Call → ℕ
cause_after_test b (Register m r) = registration_cause (capacity b.rows) m r (used_rows b)
cause_after_test b (Record m r) = reading_cause m r (used_rows b)
cause_after_test b (Set x) = setting_cause x

-- "The lowest number that applies is given": "book isn't well formed" before every other cause
unfoldable pub call_cause : Book → Call → ℕ
call_cause b c = refuse (not (well_formed b)) book_ill_formed (cause_after_test b c)

-- the book that an accepted call makes
unfoldable pub book_made : Book → Call → Book
book_made b (Register m r) = with_rows (with_registration m (registration_word r) (used_rows b)) b
book_made b (Record m r) = with_rows (with_reading m (reading_word r) (used_rows b)) b
book_made b (Set x) = record { settings = with_setting x b.settings; rows = b.rows }

-- any of the six
unfoldable pub call_outcome : Book → Call → Outcome
call_outcome b c = outcome (call_cause b c) (book_made b c) b

-- "Each call [..] is handed the settings as the one before returned them and the rows as it left them; a refused call stays in the list and alters nothing": the book after a list of calls
unfoldable pub book_after : Book → List Call → Book
book_after b [] = b
book_after b (c ∷ calls) = book_after (call_outcome b c).book calls

-- the numbers that the calls of a list give, in order
unfoldable pub numbers_given : Book → List Call → List ℕ
numbers_given b [] = []
numbers_given b (c ∷ calls) = (call_outcome b c).number ∷ numbers_given (call_outcome b c).book calls
