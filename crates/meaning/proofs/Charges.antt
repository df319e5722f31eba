-- Allocation ignores the networks and the tariffs: books, and lists of calls from the fresh settings, that differ only in these are allocated alike. By the calls one after the other: alike calls give two alike books the same number and leave them alike. Assumes nothing.
use Prim.Native.Nat.{ℕ, zero, suc, ◌+◌, ◌*◌, ◌-◌}
use mathlib.Core.Path.{◌≡◌, refl, sym, ◌∙◌, ap, ap₂}
use mathlib.Core.Bool.{true, false, and-false}
use mathlib.Core.List.{List, ◌∷◌}
use lib.IntN.{ℤ}
use lib.ListN.{length, take, length-append, length-drop}
use Rattle.words.specs.declared.Registration.{Registration}
use Rattle.words.specs.declared.Reading.{Reading}
use Rattle.words.specs.Registration.{without_charges, registration_word, registration_in_range, registration_without_charges}
use Rattle.words.specs.Reading.{reading_word}
use Rattle.words.specs.Mpan.{is_mpan}
use Rattle.words.proofs.Tests.{by-test}
use Rattle.words.proofs.Charges.{word-without-charges}
use Rattle.book.specs.declared.Settings.{Settings}
use Rattle.book.specs.declared.Setting.{Setting}
use Rattle.book.specs.Settings.{with_meters, with_setting, setting_cause}
use Rattle.book.specs.Rows.{Row, capacity, rows_of, written, with_registration, with_reading}
use Rattle.book.specs.Book.{Book, fresh_book, used_rows, well_formed, with_rows}
use Rattle.book.specs.Store.{register_in_range, registration_cause, reading_cause}
use Rattle.book.proofs.RowsOf.{length-words}
use Rattle.book.proofs.Written.{rows-of-written}
use Rattle.book.proofs.BookFormed.{fresh-book-formed, capacity-same, count_kept}
use Rattle.book.proofs.Charges.{RowsAlike, same-where-alike, count-alike, registration-cause-alike, reading-cause-alike, registered-alike, read_alike}
use Rattle.calls.specs.declared.Call.{Call}
use Rattle.calls.specs.declared.Call.TheVariants.{Register, Record, Set}
use Rattle.calls.specs.Calls.{Outcome, outcome, cause_after_test, call_cause, book_made, call_outcome, book_after, numbers_given}
use Rattle.calls.specs.Running.{running_numbers}
use Rattle.calls.proofs.CallFormed.{call-formed}
use Rattle.calls.proofs.RegisterCall.{register-out-of-range}
use Rattle.running.specs.Words.{slice_words}
use Rattle.running.specs.Running.{running_formed, cells_for}
use Rattle.running.proofs.Charges.{cells-for-without-charges}
use Rattle.allocation.specs.Allocate.{allocate_call}
use Rattle.allocation.specs.Running.{running_allocation_cause, allocate_running}
use Rattle.allocation.proofs.Charges.{answer-without-charges, volumes-without-charges}
use Rattle.meaning.specs.Kept.{FreshCells, fresh_running, listed_running}
use Rattle.meaning.specs.Demand.{allocation_after, rows_allocated}
use Rattle.meaning.specs.Charges.{BooksAlike, CallAlike, registers-alike, same-call, CallsAlike, no-calls, next-call, AllocationSame, ChargesIgnored}
use Rattle.meaning.proofs.Kept.{cells-kept, first-words, answer-same, volumes-same}

-- two books, with the same cells
books-allocated : (b other : Book) → BooksAlike b other → (cells slice : List ℤ)
    → AllocationSame (allocate_running (record { book = b; cells = cells }) slice) (allocate_running (record { book = other; cells = cells }) slice)
unfolding allocate_running running_allocation_cause running_formed
books-allocated b other a cells slice = rw (a.formed, a.other-formed, a.same-settings) (record { same_answer = refl; same-volumes = refl })

-- the sums over their rows, and the allocation from the rows
same-sums : (b other : Book) → BooksAlike b other → cells_for b.settings.shapes (used_rows b) ≡ cells_for other.settings.shapes (used_rows other)
same-sums b other a =
    same-where-alike (used_rows b) (used_rows other) a.rows_alike (cells_for b.settings.shapes) (cells-for-without-charges b.settings.shapes)
    ∙ ap (λ (s : Settings). cells_for s.shapes (used_rows other)) a.same-settings

rows-allocated : (b other : Book) → BooksAlike b other → (slice : List ℤ)
    → ((allocate_call b slice).answer ≡ (allocate_call other slice).answer) × ((allocate_call b slice).volumes ≡ (allocate_call other slice).volumes)
rows-allocated b other a slice =
    (answer-without-charges b other a.formed a.other-formed a.same-settings a.rows_alike slice, volumes-without-charges b other a.formed a.other-formed a.same-settings a.rows_alike slice)

-- what calls keep, besides the books being well formed: the same settings, alike rows, and slices of equal lengths
record Alike (b other : Book) : Type 0 where
  settings : b.settings ≡ other.settings
  rows : RowsAlike (used_rows b) (used_rows other)
  size : length b.rows ≡ length other.rows

-- with other rows in use
length-after : (rows : List Row) (words : List ℕ) → length (written rows words) ≡ 3 * length rows + (length words - 3 * length rows)
unfolding written
length-after rows words = rw (length-append, length-words, length-drop)

rows_made : (b other : Book) → Alike b other → (rows others : List Row) → RowsAlike rows others → Alike (with_rows rows b) (with_rows others other)
unfolding used_rows
rows_made b other a rows others alike =
    let count = count-alike rows others alike in
    record {
      settings = ap₂ with_meters count a.settings;
      rows = rw (rows-of-written (length rows) rows b.rows refl, rows-of-written (length others) others other.rows refl) alike;
      size = length-after rows b.rows ∙ ap₂ (λ (n l : ℕ). 3 * n + (l - 3 * n)) count a.size ∙ sym (length-after others other.rows);
    }

-- with a setting replaced
setting-made : (b other : Book) → Alike b other → (x : Setting) → Alike (book_made b (Set x)) (book_made other (Set x))
unfolding book_made used_rows
setting-made b other a x =
    record {
      settings = ap (with_setting x) a.settings;
      rows = rw (count_kept x b.settings, count_kept x other.settings) a.rows;
      size = a.size;
    }

-- what alike calls leave
record OutcomesAlike (x y : Outcome) : Type 0 where
  number : x.number ≡ y.number
  books : Alike x.book y.book

by-cause : {made other_made b other : Book} (cause : ℕ) → Alike made other_made → Alike b other → OutcomesAlike (outcome cause made b) (outcome cause other_made other)
unfolding outcome
by-cause zero made given = record { number = refl; books = made }
by-cause (suc k) made given = record { number = refl; books = given }

-- alike registrations in range have alike words
words-alike : (r q : Registration) → registration_without_charges r ≡ registration_without_charges q → registration_in_range r ≡ true → registration_in_range q ≡ true → without_charges (registration_word r) ≡ without_charges (registration_word q)
words-alike r q e range other-range = word-without-charges r range ∙ ap registration_word e ∙ sym (word-without-charges q other-range)

module _ (b other : Book) (formed : well_formed b ≡ true) (other-formed : well_formed other ≡ true) (a : Alike b other) where
  register-alike : (m : ℕ) (r q : Registration) → registration_without_charges r ≡ registration_without_charges q → registration_in_range r ≡ registration_in_range q
      → OutcomesAlike (call_outcome b (Register m r)) (call_outcome other (Register m q))
  unfolding call_outcome call_cause cause_after_test book_made
  register-alike m r q e range =
      by-test (registration_in_range r)
      (λ h.
      let words = words-alike r q e h (sym range ∙ h) in
      let cause : registration_cause (capacity b.rows) m r (used_rows b) ≡ registration_cause (capacity other.rows) m q (used_rows other) =
      rw (capacity-same b.rows other.rows a.size) (registration-cause-alike (used_rows b) (used_rows other) a.rows (capacity other.rows) m r q range)
      in
      rw (formed, other-formed, cause)
      (by-cause (registration_cause (capacity other.rows) m q (used_rows other))
      (rows_made b other a (with_registration m (registration_word r) (used_rows b)) (with_registration m (registration_word q) (used_rows other))
      (registered-alike (used_rows b) (used_rows other) a.rows m (registration_word r) (registration_word q) words))
      a))
      (λ h.
      let out : register_in_range m r ≡ false = rw h (and-false (is_mpan m)) in
      let other-out : register_in_range m q ≡ false = rw (← range, h) (and-false (is_mpan m)) in
      rw (register-out-of-range b m r formed out, register-out-of-range other m q other-formed other-out) (record { number = refl; books = a }))

  reading-alike : (m : ℕ) (r : Reading) → OutcomesAlike (call_outcome b (Record m r)) (call_outcome other (Record m r))
  unfolding call_outcome call_cause cause_after_test book_made
  reading-alike m r =
      rw (formed, other-formed, reading-cause-alike (used_rows b) (used_rows other) a.rows m r)
      (by-cause (reading_cause m r (used_rows other))
      (rows_made b other a (with_reading m (reading_word r) (used_rows b)) (with_reading m (reading_word r) (used_rows other))
      (read_alike (used_rows b) (used_rows other) a.rows m (reading_word r)))
      a)

  setting-alike : (x : Setting) → OutcomesAlike (call_outcome b (Set x)) (call_outcome other (Set x))
  unfolding call_outcome call_cause cause_after_test
  setting-alike x = rw (formed, other-formed) (by-cause (setting_cause x) (setting-made b other a x) a)

  same-call-alike : (c : Call) → OutcomesAlike (call_outcome b c) (call_outcome other c)
  same-call-alike (Register m r) = register-alike m r r refl refl
  same-call-alike (Record m r) = reading-alike m r
  same-call-alike (Set x) = setting-alike x

  call-alike : {c d : Call} → CallAlike c d → OutcomesAlike (call_outcome b c) (call_outcome other d)
  call-alike (registers-alike {m = m} {r = r} {q = q} e range) = register-alike m r q e range
  call-alike (same-call {c = c}) = same-call-alike c

-- whole lists
list-numbers : (b other : Book) → well_formed b ≡ true → well_formed other ≡ true → Alike b other → {calls others : List Call} → CallsAlike calls others → numbers_given b calls ≡ numbers_given other others
unfolding numbers_given
list-numbers b other formed other-formed a no-calls = refl
list-numbers b other formed other-formed a (next-call {c = c} {d = d} call rest) =
    let step = call-alike b other formed other-formed a call in
    ap₂ ◌∷◌ step.number (list-numbers (call_outcome b c).book (call_outcome other d).book (call-formed b formed c) (call-formed other other-formed d) step.books rest)

list-books : (b other : Book) → well_formed b ≡ true → well_formed other ≡ true → Alike b other → {calls others : List Call} → CallsAlike calls others → BooksAlike (book_after b calls) (book_after other others)
unfolding book_after
list-books b other formed other-formed a no-calls = record { formed = formed; other-formed = other-formed; same-settings = a.settings; rows_alike = a.rows }
list-books b other formed other-formed a (next-call {c = c} {d = d} call rest) =
    let step = call-alike b other formed other-formed a call in
    list-books (call_outcome b c).book (call_outcome other d).book (call-formed b formed c) (call-formed other other-formed d) step.books rest

-- from fresh books
fresh-alike : (words words' : List ℕ) → length words ≡ length words' → Alike (fresh_book words) (fresh_book words')
unfolding used_rows rows_of
fresh-alike words words' long = record { settings = refl; rows = refl; size = long }

-- two lists, on cells that are 0 at the start
module _ (words words' : List ℕ) (long : length words ≡ length words') (cells cells' : List ℤ) (fresh : FreshCells cells) (fresh' : FreshCells cells')
    {calls others : List Call} (alike : CallsAlike calls others) where
  abbrev first : Book
  first = book_after (fresh_book words) calls

  abbrev second : Book
  second = book_after (fresh_book words') others

  books-after : BooksAlike first second
  books-after = list-books (fresh_book words) (fresh_book words') (fresh-book-formed words) (fresh-book-formed words') (fresh-alike words words' long) alike

  numbers-alike : running_numbers (fresh_running words cells) calls ≡ running_numbers (fresh_running words' cells') others
  numbers-alike =
      (cells-kept words cells fresh calls).numbers-same
      ∙ list-numbers (fresh_book words) (fresh_book words') (fresh-book-formed words) (fresh-book-formed words') (fresh-alike words words' long) alike
      ∙ sym (cells-kept words' cells' fresh' others).numbers-same

  cells-alike : take slice_words (listed_running words cells calls).cells ≡ take slice_words (listed_running words' cells' others).cells
  cells-alike =
      first-words words cells fresh calls
      ∙ same-sums first second books-after
      ∙ sym (first-words words' cells' fresh' others)

  lists-allocated : (slice : List ℤ) → AllocationSame (allocation_after words cells calls slice) (allocation_after words' cells' others slice)
  unfolding rows_allocated
  lists-allocated slice =
      let allocated = rows-allocated first second books-after slice in
      record {
        same_answer = answer-same words cells fresh calls slice ∙ allocated.0 ∙ sym (answer-same words' cells' fresh' others slice);
        same-volumes = volumes-same words cells fresh calls slice ∙ allocated.1 ∙ sym (volumes-same words' cells' fresh' others slice);
      }

-- the theorem
pub charges-ignored : ChargesIgnored
charges-ignored =
    record {
      books = books-allocated;
      same-sums = same-sums;
      rows = rows-allocated;
      numbers = λ words words' long cells cells' fresh fresh' calls others alike. numbers-alike words words' long cells cells' fresh fresh' alike;
      same-cells = λ words words' long cells cells' fresh fresh' calls others alike. cells-alike words words' long cells cells' fresh fresh' alike;
      lists = λ words words' long cells cells' fresh fresh' calls others alike. lists-allocated words words' long cells cells' fresh fresh' alike;
    }
