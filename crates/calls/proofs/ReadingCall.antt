-- The ways of a reading call on a well-formed book.
use Prim.Native.Nat.{ℕ, ◌≤◌, ◌<◌}
use mathlib.Core.Path.{◌≡◌}
use mathlib.Core.Bool.{true, false}
use borrow.Author.Tests.{le-leb, lt-leb}
use Rattle.refusals.specs.Causes.{accepted, argument_out_of_range, quality_refused, meter_unknown, issue_not_above}
use Rattle.words.specs.declared.Reading.{Reading}
use Rattle.words.specs.Reading.{quality_allowed, reading_word}
use Rattle.book.specs.Rows.{is_known, issue_held, with_reading}
use Rattle.book.specs.Book.{Book, used_rows, well_formed, with_rows}
use Rattle.book.specs.Store.{reading_call_in_range, reading_cause}
use Rattle.calls.specs.declared.Call.TheVariants.{Record}
use Rattle.calls.specs.Calls.{outcome, cause_after_test, call_cause, book_made, call_outcome}

module _ (b : Book) (m : ℕ) (r : Reading) (wf : well_formed b ≡ true) where
  pub reading-out-of-range : reading_call_in_range m r ≡ false → call_outcome b (Record m r) ≡ record { number = argument_out_of_range; book = b }
  unfolding call_outcome call_cause cause_after_test reading_cause outcome
  reading-out-of-range h = rw (wf, h)

  module _ (in-range : reading_call_in_range m r ≡ true) where
    pub reading-of-refused-quality : quality_allowed r ≡ false → call_outcome b (Record m r) ≡ record { number = quality_refused; book = b }
    unfolding call_outcome call_cause cause_after_test reading_cause outcome
    reading-of-refused-quality h = rw (wf, in-range, h)

    module _ (allowed : quality_allowed r ≡ true) where
      pub reading-of-unknown-meter : is_known m (used_rows b) ≡ false → call_outcome b (Record m r) ≡ record { number = meter_unknown; book = b }
      unfolding call_outcome call_cause cause_after_test reading_cause outcome
      reading-of-unknown-meter h = rw (wf, in-range, allowed, h)

      module _ (known : is_known m (used_rows b) ≡ true) where
        pub reading-not-above : r.issue ≤ issue_held m (used_rows b) → call_outcome b (Record m r) ≡ record { number = issue_not_above; book = b }
        unfolding call_outcome call_cause cause_after_test reading_cause outcome
        reading-not-above h = rw (wf, in-range, allowed, known, le-leb r.issue (issue_held m (used_rows b)) h)

        pub reading-above : issue_held m (used_rows b) < r.issue → call_outcome b (Record m r) ≡ record { number = accepted; book = with_rows (with_reading m (reading_word r) (used_rows b)) b }
        unfolding call_outcome call_cause cause_after_test reading_cause book_made outcome
        reading-above h = rw (wf, in-range, allowed, known, lt-leb r.issue (issue_held m (used_rows b)) h)
