-- What a call on a book with its running cells answers: refused for what is lent, and on a book and cells that are lent well, where a registration or a reading was stored, or a setting replaced.
use Prim.Native.Nat.{ℕ, zero, suc}
use mathlib.Core.Path.{◌≡◌, refl, ap, ◌∙◌}
use mathlib.Core.Bool.{true}
use mathlib.Core.List.{List}
use native.Mathlib.Omega.{arith}
use lib.IntN.{ℤ, ◌-ℤ◌}
use lib.ListN.{length}
use Rattle.std.specs.Prelude.{Result, Ok, Err, IfOk}
use Rattle.refusals.specs.declared.Refusal.{Refusal}
use Rattle.refusals.specs.Refusal.{number_of, number_given}
use Rattle.refusals.proofs.Numbers.{not-accepted}
use Rattle.words.specs.declared.Registration.{Registration}
use Rattle.words.specs.declared.Reading.{Reading}
use Rattle.words.specs.Registration.{registration_word}
use Rattle.words.specs.Reading.{reading_word}
use Rattle.book.specs.declared.Settings.{Settings}
use Rattle.book.specs.declared.Setting.{Setting}
use Rattle.book.specs.declared.Answer.{Answer}
use Rattle.book.specs.Settings.{with_meters, with_setting, setting_cause, settings_formed}
use Rattle.book.specs.Rows.{Row, capacity, rows_of, with_registration, with_reading, written}
use Rattle.book.specs.Book.{lent, used_rows, well_formed, with_rows}
use Rattle.book.specs.Store.{registration_cause, reading_cause}
use Rattle.book.specs.Helpers.{RowsReady, Storing, storing, registration_storing, reading_storing}
use Rattle.book.proofs.BookFormed.{count_kept}
use Rattle.book.proofs.WellFormed.{room, rows-ready, formed-book}
use Rattle.book.proofs.Written.{written_same, rows-of-written}
use Rattle.running.specs.Words.{word_in, sum_in}
use Rattle.running.specs.Running.{running_of, with_change, change_in, kept_up, within_limits, lent_cause, limit_cause}
use Rattle.running.specs.Helpers.{rows_change, kept_by}
use Rattle.running.proofs.Changed.{changed-same}
use Rattle.running.proofs.TestedFirst.{LentWell}
use Rattle.calls.specs.declared.Call.{Call}
use Rattle.calls.specs.declared.Call.TheVariants.{Register, Record, Set}
use Rattle.calls.specs.Calls.{cause_after_test, book_made}
use Rattle.calls.specs.Running.{running_made, running_cause, running_outcome, running_call, RunningGives}
use Rattle.calls.specs.Stores.{storing_kept, kept_storing, Stores}
use Rattle.calls.specs.Helpers.{answer_counted, LentRows, Registers, Records, InAnyOrder, setting_change, set_by, SetKept}
use Rattle.calls.proofs.ListOfCalls.{call-refused}
use Rattle.calls.proofs.SettingKept.{shapes-formed}

-- refused for what is lent
pub gives-unlent : (s : Settings) (words : List ℕ) (cells : List ℤ) (c : Call) (refusal : Refusal)
    → ((rest : ℕ) → lent_cause (running_of s words cells) rest ≡ number_of refusal)
    → RunningGives (running_call (running_of s words cells) c) (record { number = number_of refusal; settings = s }) words cells
gives-unlent s words cells c refusal first =
    rw (call-refused (running_of s words cells) first (not-accepted refusal) c) (record { number = refl; settings = refl; rows = refl; cells = refl })

-- a book and cells that are lent well
module _ {s : Settings} {words : List ℕ} {cells : List ℤ} {size : ℕ} (l : LentWell (running_of s words cells) size) where
  -- the causes of the call are left, and the limit after them
  pub call-left : (c : Call) → running_call (running_of s words cells) c
      ≡ running_outcome (limit_cause (cause_after_test (lent s words) c) (within_limits (running_made (running_of s words cells) c).cells)) (running_made (running_of s words cells) c) (running_of s words cells)
  unfolding running_call running_cause
  call-left c = rw (l.first (limit_cause (cause_after_test (lent s words) c) (within_limits (running_made (running_of s words cells) c).cells))) refl

  -- what was stored, by the number given
  by-number : (n : ℕ) (made : List Row) (change : ℕ → ℤ) (outcome : Result ℕ Refusal) {words_after : List ℕ} {cells_after : List ℤ}
      → number_given outcome ≡ (storing_kept n made (rows_of s.meters words) change cells).number
      → IfOk outcome (λ (k : ℕ). k ≡ length (storing_kept n made (rows_of s.meters words) change cells).rows)
      → words_after ≡ written (storing_kept n made (rows_of s.meters words) change cells).rows words
      → cells_after ≡ (storing_kept n made (rows_of s.meters words) change cells).cells
      → RunningGives (running_outcome n (record { book = with_rows made (lent s words); cells = with_change change cells }) (running_of s words cells)) (answer_counted s outcome) words_after cells_after
  unfolding storing_kept running_outcome
  by-number zero made change (Ok k) number counted slice kept =
      record { number = refl; settings = ap (λ (j : ℕ). with_meters j s) counted; rows = slice; cells = kept }
  by-number zero made change (Err refusal) number counted slice kept = absurd (not-accepted refusal number)
  by-number (suc n) made change (Ok k) number counted slice kept = absurd (omega arith)
  by-number (suc n) made change (Err refusal) number counted slice kept =
      record {
        number = number;
        settings = refl;
        rows = slice ∙ written_same s.meters words (room words s.meters (rows-ready s words l.formed).within-capacity);
        cells = kept;
      }

  -- what storing rows changes in the sums is what the book that it makes changes
  change-same : (made : List Row) → (kept_up (running_of s words cells) (with_rows made (lent s words))).cells ≡ with_change (rows_change s.shapes (rows_of s.meters words) made) cells
  unfolding change_in used_rows
  change-same made =
      changed-same _ cells (rows_change s.shapes (rows_of s.meters words) made)
      (λ k h. ap (λ (rows : List Row). sum_in s.shapes rows k -ℤ sum_in s.shapes (rows_of s.meters words) k) (rows-of-written (length made) made words refl))

  -- what was stored, by its cause
  by-cause : (cause : ℕ) (made : List Row) (outcome : Result ℕ Refusal) {words_after : List ℕ} {cells_after : List ℤ} {store : List Row → Storing}
      → store (rows_of s.meters words) ≡ storing cause made (rows_of s.meters words)
      → Stores store s.shapes s.meters words cells outcome words_after cells_after
      → RunningGives
      (running_outcome (limit_cause cause (within_limits (kept_up (running_of s words cells) (with_rows made (lent s words))).cells)) (kept_up (running_of s words cells) (with_rows made (lent s words))) (running_of s words cells))
      (answer_counted s outcome) words_after cells_after
  unfolding storing kept_storing limit_cause running_outcome
  by-cause zero made outcome e x =
      rw (change-same made)
      (by-number (limit_cause zero (within_limits (with_change (rows_change s.shapes (rows_of s.meters words) made) cells))) made (rows_change s.shapes (rows_of s.meters words) made) outcome
      (rw e at x.number) (rw e at x.counted) (rw e at x.slice) (rw e at x.cells_are))
  by-cause (suc n) made outcome e x =
      let given = rows_of s.meters words in
      by-number (suc n) given (rows_change s.shapes given given) outcome (rw e at x.number) (rw e at x.counted) (rw e at x.slice) (rw e at x.cells_are)

-- the rows of a book whose settings say how many meters have one
pub ready-in : (s : Settings) (rows : LentRows) → s.meters ≡ rows.meters → well_formed (lent s rows.words) ≡ true → RowsReady rows.meters rows.words
ready-in s rows count wf = rw (← count) (rows-ready s rows.words wf)

-- and the settings of such a book
pub settings-in : (s : Settings) (words : List ℕ) → well_formed (lent s words) ≡ true → settings_formed s ≡ true
settings-in s words wf = (formed-book (lent s words) wf).settings-formed

-- a call on the rows as those of one book
module _ {s : Settings} {rows : LentRows} {cells : List ℤ} {size : ℕ} (l : LentWell (running_of s rows.words cells) size) (count : s.meters ≡ rows.meters) (m : ℕ) {outcome : Result ℕ Refusal} {after : LentRows} {cells_after : List ℤ} where
  pub gives-registered : (r : Registration) → Registers m r s.shapes rows cells outcome after cells_after
      → RunningGives (running_call (running_of s rows.words cells) (Register m r)) (answer_counted s outcome) after.words cells_after
  unfolding cause_after_test book_made registration_storing used_rows
  gives-registered r x =
      let given = rows_of s.meters rows.words in
      let stores : Stores (registration_storing (capacity rows.words) m r) s.shapes s.meters rows.words cells outcome after.words cells_after = rw count x.stores in
      rw (call-left l (Register m r)) (by-cause l (registration_cause (capacity rows.words) m r given) (with_registration m (registration_word r) given) outcome refl stores)

  pub gives-recorded : (r : Reading) → Records m r s.shapes rows cells outcome after cells_after
      → RunningGives (running_call (running_of s rows.words cells) (Record m r)) (answer_counted s outcome) after.words cells_after
  unfolding cause_after_test book_made reading_storing used_rows
  gives-recorded r x =
      let given = rows_of s.meters rows.words in
      let stores : Stores (reading_storing m r) s.shapes s.meters rows.words cells outcome after.words cells_after = rw count x.stores in
      rw (call-left l (Record m r)) (by-cause l (reading_cause m r given) (with_reading m (reading_word r) given) outcome refl stores)

-- a setting replaced, by the number given
module _ {s : Settings} {words : List ℕ} {cells : List ℤ} {size : ℕ} (l : LentWell (running_of s words cells) size) (x : Setting) where
  set-by : (n : ℕ) (change : ℕ → ℤ) {a : Answer} {cells_after : List ℤ} → a.number ≡ n → a.settings ≡ set_by n x s
      → cells_after ≡ kept_by n change cells
      → RunningGives (running_outcome n (record { book = record { settings = with_setting x s; rows = words }; cells = with_change change cells }) (running_of s words cells)) a words cells_after
  unfolding kept_by running_outcome set_by
  set-by zero change number settings kept = record { number = number; settings = settings; rows = refl; cells = kept }
  set-by (suc n) change number settings kept = record { number = number; settings = settings; rows = refl; cells = kept }

  -- the change of the cells is the same, in whatever order the rows were looked at
  set-change : {listed : List Row} → InAnyOrder (rows_of s.meters words) listed → (running_made (running_of s words cells) (Set x)).cells ≡ with_change (setting_change s listed x) cells
  unfolding change_in book_made used_rows setting_change sum_in
  set-change {listed} same =
      changed-same _ cells (setting_change s listed x)
      (λ k h. rw (count_kept x s, same.same_sums (word_in (with_setting x s).shapes k), same.same_sums (word_in s.shapes k)) refl)

  pub gives-set : {listed : List Row} {a : Answer} {cells_after : List ℤ} → InAnyOrder (rows_of s.meters words) listed → SetKept s listed cells x a cells_after
      → RunningGives (running_call (running_of s words cells) (Set x)) a words cells_after
  unfolding cause_after_test book_made
  gives-set {listed} same kept =
      rw (call-left l (Set x), set-change same)
      (set-by (limit_cause (setting_cause x) (within_limits (with_change (setting_change s listed x) cells))) (setting_change s listed x) kept.number (rw (← kept.number) kept.settings) (rw (← kept.number) kept.cells_are))

  count-by : (n : ℕ) → (set_by n x s).meters ≡ s.meters
  unfolding set_by
  count-by zero = count_kept x s
  count-by (suc n) = refl

  pub set-count : {listed : List Row} {a : Answer} {cells_after : List ℤ} → SetKept s listed cells x a cells_after → a.settings.meters ≡ s.meters
  set-count {listed} {a} kept = rw kept.settings (count-by a.number)

-- for the search for a proof
pub ruleset made = (ready-in, settings-in, shapes-formed)
