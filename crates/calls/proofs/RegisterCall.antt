-- The ways of a register call on a well-formed book.
use Prim.Native.Nat.{ℕ, ◌≤◌, ◌<◌}
use mathlib.Core.Path.{◌≡◌}
use mathlib.Core.Bool.{true, false}
use borrow.Author.Tests.{le-leb, lt-leb}
use Rattle.refusals.specs.Causes.{accepted, argument_out_of_range, capacity_reached}
use Rattle.words.specs.declared.Registration.{Registration}
use Rattle.words.specs.Registration.{registration_word}
use Rattle.book.specs.Rows.{capacity, is_known, with_registration}
use Rattle.book.specs.Book.{Book, used_rows, well_formed, with_rows}
use Rattle.book.specs.Store.{register_in_range, has_no_room, registration_cause}
use Rattle.book.proofs.WellFormed.{used-count}
use Rattle.calls.specs.declared.Call.TheVariants.{Register}
use Rattle.calls.specs.Calls.{outcome, cause_after_test, call_cause, book_made, call_outcome}

module _ (b : Book) (m : ℕ) (r : Registration) (wf : well_formed b ≡ true) where
  pub register-out-of-range : register_in_range m r ≡ false → call_outcome b (Register m r) ≡ record { number = argument_out_of_range; book = b }
  unfolding call_outcome call_cause cause_after_test registration_cause outcome
  register-out-of-range h = rw (wf, h)

  module _ (range : register_in_range m r ≡ true) where
    pub register-no-room : is_known m (used_rows b) ≡ false → capacity b.rows ≤ b.settings.meters → call_outcome b (Register m r) ≡ record { number = capacity_reached; book = b }
    unfolding call_outcome call_cause cause_after_test registration_cause has_no_room outcome
    register-no-room k full = rw (wf, range, k, used-count b, le-leb (capacity b.rows) b.settings.meters full)

    pub register-known : is_known m (used_rows b) ≡ true → call_outcome b (Register m r) ≡ record { number = accepted; book = with_rows (with_registration m (registration_word r) (used_rows b)) b }
    unfolding call_outcome call_cause cause_after_test registration_cause has_no_room book_made outcome
    register-known k = rw (wf, range, k)

    pub register-new : is_known m (used_rows b) ≡ false → b.settings.meters < capacity b.rows → call_outcome b (Register m r) ≡ record { number = accepted; book = with_rows (with_registration m (registration_word r) (used_rows b)) b }
    unfolding call_outcome call_cause cause_after_test registration_cause has_no_room book_made outcome
    register-new k free = rw (wf, range, k, used-count b, lt-leb (capacity b.rows) b.settings.meters free)
