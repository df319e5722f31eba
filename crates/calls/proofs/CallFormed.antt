-- A call on a well-formed book leaves a well-formed book; a list on an ill-formed one leaves it, and each of its calls is refused with number 1.
use Prim.Native.Nat.{ℕ, ◌≤◌, ◌<◌}
use mathlib.Core.Path.{◌≡◌, refl}
use mathlib.Core.Bool.{true, false}
use mathlib.Core.List.{List, [], ◌∷◌}
use native.Mathlib.Omega.{arith}
use borrow.Author.Tests.{leb-true, leb-false}
use lib.Dec.{leb}
use lib.ListN.{length, replicate}
use Rattle.refusals.specs.Causes.{book_ill_formed}
use Rattle.words.specs.declared.Registration.{Registration}
use Rattle.words.specs.declared.Reading.{Reading}
use Rattle.words.specs.Registration.{registration_word}
use Rattle.words.specs.Reading.{quality_allowed, reading_word}
use Rattle.words.proofs.Tests.{by-test}
use Rattle.book.specs.declared.Setting.{Setting}
use Rattle.book.specs.Settings.{setting_in_range, setting_cause}
use Rattle.book.specs.Rows.{capacity, rows_formed, is_known, issue_held, with_registration, with_reading}
use Rattle.book.specs.Book.{Book, used_rows, well_formed}
use Rattle.book.specs.Store.{register_in_range, reading_call_in_range}
use Rattle.book.proofs.WellFormed.{formed-book, used-count}
use Rattle.book.proofs.WithRegistration.{length_inserted, length-replaced}
use Rattle.book.proofs.WithReading.{length-reading}
use Rattle.book.proofs.BookFormed.{set-formed, rows-stored-formed}
use Rattle.book.proofs.StoredFormed.{rows-registered, rows-read}
use Rattle.calls.specs.declared.Call.{Call}
use Rattle.calls.specs.declared.Call.TheVariants.{Register, Record, Set}
use Rattle.calls.specs.Calls.{outcome, cause_after_test, call_cause, book_made, call_outcome, book_after, numbers_given}
use Rattle.calls.proofs.RegisterCall.{register-out-of-range, register-no-room, register-known, register-new}
use Rattle.calls.proofs.ReadingCall.{reading-out-of-range, reading-of-refused-quality, reading-of-unknown-meter, reading-not-above, reading-above}

module _ (b : Book) (wf : well_formed b ≡ true) where
  rows-within : length (used_rows b) ≤ capacity b.rows
  rows-within = rw (used-count b) (formed-book b wf).within

  setting-keeps : (x : Setting) → well_formed (call_outcome b (Set x)).book ≡ true
  unfolding call_outcome call_cause cause_after_test setting_cause book_made outcome
  setting-keeps x =
      by-test (setting_in_range x)
      (λ h. rw (wf, h) (set-formed b wf x h))
      (λ h. rw (wf, h) wf)

  -- the rows with an in-range registration stored: well formed, and within capacity if the meter is known or there is room
  module _ (m : ℕ) (r : Registration) where
    pub registered-rows-formed : register_in_range m r ≡ true → rows_formed 0 (with_registration m (registration_word r) (used_rows b)) ≡ true
    registered-rows-formed range = rows-registered m r (used_rows b) range (formed-book b wf).rows-formed

    pub known-row-fits : is_known m (used_rows b) ≡ true → length (with_registration m (registration_word r) (used_rows b)) ≤ capacity b.rows
    known-row-fits known = rw (length-replaced 0 m (registration_word r) (used_rows b) (formed-book b wf).rows-formed known) rows-within

    pub new-row-fits : is_known m (used_rows b) ≡ false → b.settings.meters < capacity b.rows → length (with_registration m (registration_word r) (used_rows b)) ≤ capacity b.rows
    new-row-fits unknown free = omega (arith, length_inserted m (registration_word r) (used_rows b) unknown, used-count b)

    register-keeps : well_formed (call_outcome b (Register m r)).book ≡ true
    register-keeps =
        let stored = rows-stored-formed b wf (with_registration m (registration_word r) (used_rows b)) in
        by-test (register_in_range m r)
        (λ range.
        by-test (is_known m (used_rows b))
        (λ known. rw (register-known b m r wf range known) (stored (registered-rows-formed range) (known-row-fits known)))
        (λ unknown.
        by-test (leb (capacity b.rows) b.settings.meters)
        (λ full. rw (register-no-room b m r wf range unknown (leb-true (capacity b.rows) b.settings.meters full)) wf)
        (λ room.
        let free = leb-false (capacity b.rows) b.settings.meters room in
        rw (register-new b m r wf range unknown free) (stored (registered-rows-formed range) (new-row-fits unknown free)))))
        (λ range. rw (register-out-of-range b m r wf range) wf)

  -- the rows with an in-range reading of an allowed quality stored
  module _ (m : ℕ) (r : Reading) where
    pub read-rows-formed : reading_call_in_range m r ≡ true → quality_allowed r ≡ true → rows_formed 0 (with_reading m (reading_word r) (used_rows b)) ≡ true
    read-rows-formed range quality = rows-read m r (used_rows b) range quality (formed-book b wf).rows-formed

    pub read-rows-fit : length (with_reading m (reading_word r) (used_rows b)) ≤ capacity b.rows
    read-rows-fit = rw (length-reading m (reading_word r) (used_rows b)) rows-within

    reading-keeps : well_formed (call_outcome b (Record m r)).book ≡ true
    reading-keeps =
        by-test (reading_call_in_range m r)
        (λ range.
        by-test (quality_allowed r)
        (λ quality.
        by-test (is_known m (used_rows b))
        (λ known.
        by-test (leb r.issue (issue_held m (used_rows b)))
        (λ h. rw (reading-not-above b m r wf range quality known (leb-true r.issue (issue_held m (used_rows b)) h)) wf)
        (λ h.
        rw (reading-above b m r wf range quality known (leb-false r.issue (issue_held m (used_rows b)) h))
        (rows-stored-formed b wf (with_reading m (reading_word r) (used_rows b)) (read-rows-formed range quality) read-rows-fit)))
        (λ unknown. rw (reading-of-unknown-meter b m r wf range quality unknown) wf))
        (λ refused. rw (reading-of-refused-quality b m r wf range refused) wf))
        (λ range. rw (reading-out-of-range b m r wf range) wf)

  pub call-formed : (c : Call) → well_formed (call_outcome b c).book ≡ true
  call-formed (Register m r) = register-keeps m r
  call-formed (Record m r) = reading-keeps m r
  call-formed (Set x) = setting-keeps x

module _ (b : Book) (h : well_formed b ≡ false) where
  -- any call on an ill-formed book is refused for it
  pub call-on-ill-formed : (c : Call) → call_outcome b c ≡ record { number = book_ill_formed; book = b }
  unfolding call_outcome call_cause outcome
  call-on-ill-formed c = rw h

  -- a whole list on an ill-formed book
  pub book-left : (calls : List Call) → book_after b calls ≡ b
  unfolding book_after
  book-left [] = refl
  book-left (c ∷ calls) = rw (call-on-ill-formed c) (book-left calls)

  pub numbers-ill-formed : (calls : List Call) → numbers_given b calls ≡ replicate (length calls) book_ill_formed
  unfolding numbers_given
  numbers-ill-formed [] = refl
  numbers-ill-formed (c ∷ calls) = rw (call-on-ill-formed c, numbers-ill-formed calls)
