-- A register call, made on a book that is what a list means, leaves the book that the list with this call means: out of range, of a known meter, of a new one, and of a new one when the book is full.
use Prim.Native.Nat.{ℕ, ◌≤◌, ◌<◌}
use mathlib.Core.Path.{◌≡◌, refl, sym, ◌∙◌}
use mathlib.Core.Bool.{true, false}
use mathlib.Core.List.{List, [], ◌∷◌, ◌++◌, map-append}
use borrow.Author.Tests.{leb-true, leb-false, eqb-true, eqb-false}
use lib.Dec.{leb, eqb}
use lib.ListN.{length}
use Rattle.words.specs.declared.Registration.{Registration}
use Rattle.words.specs.Registration.{registration_word}
use Rattle.words.proofs.Tests.{by-test}
use Rattle.book.specs.Rows.{Row, capacity, is_known, new_row, with_registration}
use Rattle.book.specs.Book.{Book, used_rows}
use Rattle.book.specs.Store.{register_in_range}
use Rattle.book.proofs.WellFormed.{formed-book}
use Rattle.calls.specs.declared.Call.{Call}
use Rattle.calls.specs.declared.Call.TheVariants.{Register}
use Rattle.calls.specs.Calls.{call_outcome}
use Rattle.calls.proofs.RegisterCall.{register-out-of-range, register-no-room, register-known, register-new}
use Rattle.calls.proofs.CallFormed.{registered-rows-formed, known-row-fits, new-row-fits}
use Rattle.cells.proofs.Permuted.{Permuted, keep, chain, to_the_end, mapped}
use Rattle.meaning.specs.Meaning.{only, gather, setting_set, mpan_registered, meant_mpans, newest_reading, meant_meter, meant_meters}
use Rattle.meaning.specs.Moves.{is_in}
use Rattle.meaning.proofs.Lists.{eqb-either-way, gather-end, map-after}
use Rattle.meaning.proofs.Different.{first-again, first-none, first-new, first-full}
use Rattle.meaning.proofs.Counted.{registered-in, counted_none}
use Rattle.meaning.proofs.MeantSettings.{mpans-kept}
use Rattle.meaning.proofs.MeantMeters.{meters-kept, registration-refused, registered-other, registered-itself, others-registered}
use Rattle.meaning.proofs.Stored.{at_meter, registered_as, changed-here, changed-not, registration-mapped, registration-added}
use Rattle.meaning.proofs.Means.{Means, known-meant, room-left, no-room-left, refused-means, rows-means}

module _ (words : List ℕ) (b : Book) (calls : List Call) (means : Means words b calls) (m : ℕ) (r : Registration) where
  out_of_range : register_in_range m r ≡ false → Means words (call_outcome b (Register m r)).book (calls ++ Register m r ∷ [])
  unfolding setting_set mpan_registered only
  out_of_range h =
      rw (register-out-of-range b m r means.formed h)
      (refused-means words b calls means (Register m r) refl
      (mpans-kept (capacity words) calls (Register m r) (rw h))
      (meters-kept (capacity words) calls (Register m r) (rw h) (λ k. registration-refused calls m r k h)))

  module _ (range : register_in_range m r ≡ true) where
    mpan-last : gather mpan_registered (calls ++ Register m r ∷ []) ≡ gather mpan_registered calls ++ m ∷ []
    unfolding mpan_registered only
    mpan-last = gather-end mpan_registered calls (Register m r) ∙ rw range

    -- the list gives that meter the registration's word, and leaves every other meter
    registered-meter : (k : ℕ) → meant_meter (calls ++ Register m r ∷ []) k ≡ at_meter m (registered_as (registration_word r)) (meant_meter calls k)
    unfolding meant_meter
    registered-meter k =
        by-test (eqb k m)
        (λ e. rw (eqb-true k m e) (registered-itself calls m r range ∙ sym (changed-here m (registered_as (registration_word r)) (meant_meter calls m) refl)))
        (λ e. registered-other calls m r k (eqb-either-way m k ∙ e) ∙ sym (changed-not m (registered_as (registration_word r)) (meant_meter calls k) (eqb-false k m e)))

    module _ (known : is_known m (used_rows b) ≡ true) where
      known-mpans : meant_mpans (capacity words) (calls ++ Register m r ∷ []) ≡ meant_mpans (capacity words) calls
      unfolding meant_mpans
      known-mpans = rw mpan-last (first-again (capacity words) m (gather mpan_registered calls) (sym (known-meant words b calls means m) ∙ known))

      known-meters : Permuted Row (with_registration m (registration_word r) (used_rows b)) (meant_meters (capacity words) (calls ++ Register m r ∷ []))
      unfolding meant_meters
      known-meters =
          let change = at_meter m (registered_as (registration_word r)) in
          rw (
            registration-mapped 0 m (registration_word r) (used_rows b) (formed-book b means.formed).rows-formed known,
            known-mpans,
            map-after change (meant_meter calls) (meant_meter (calls ++ Register m r ∷ [])) registered-meter (meant_mpans (capacity words) calls),
          )
          (mapped change means.meters-meant)

      known_step : Means words (call_outcome b (Register m r)).book (calls ++ Register m r ∷ [])
      unfolding setting_set
      known_step =
          rw (register-known b m r means.formed range known)
          (rows-means words b calls means (Register m r) refl (with_registration m (registration_word r) (used_rows b))
          (registered-rows-formed b means.formed m r range) (known-row-fits b means.formed m r known) known-meters)

    module _ (unknown : is_known m (used_rows b) ≡ false) where
      absent : is_in m (meant_mpans (capacity words) calls) ≡ false
      absent = sym (known-meant words b calls means m) ∙ unknown

      module _ (free : b.settings.meters < capacity b.rows) where
        fewer : length (meant_mpans (capacity words) calls) < capacity words
        fewer = room-left words b calls means free

        new-mpans : meant_mpans (capacity words) (calls ++ Register m r ∷ []) ≡ meant_mpans (capacity words) calls ++ m ∷ []
        unfolding meant_mpans
        new-mpans = rw mpan-last (first-new (capacity words) m (gather mpan_registered calls) absent fewer)

        -- it has no reading, as no reading before its first registration counts
        new-meter : meant_meter (calls ++ Register m r ∷ []) m ≡ new_row m (registration_word r)
        unfolding meant_mpans newest_reading
        new-meter =
            let first = registered-in m calls ∙ first-none (capacity words) m (gather mpan_registered calls) absent fewer in
            registered-itself calls m r range ∙ rw (counted_none m calls first)

        new-meters : meant_meters (capacity words) (calls ++ Register m r ∷ []) ≡ meant_meters (capacity words) calls ++ new_row m (registration_word r) ∷ []
        unfolding meant_meters
        new-meters =
            rw (
              new-mpans,
              map-append (meant_meter (calls ++ Register m r ∷ [])) (meant_mpans (capacity words) calls) (m ∷ []),
              new-meter,
              others-registered calls m (meant_mpans (capacity words) calls) absent r,
            )

        new-step : Means words (call_outcome b (Register m r)).book (calls ++ Register m r ∷ [])
        unfolding setting_set
        new-step =
            let word = registration_word r in
            let rows = with_registration m word (used_rows b) in
            let more : Permuted Row rows (meant_meters (capacity words) (calls ++ Register m r ∷ [])) =
            rw new-meters
            (chain (registration-added m word (used_rows b) unknown)
            (chain (keep means.meters-meant) (to_the_end (new_row m word) (meant_meters (capacity words) calls))))
            in
            rw (register-new b m r means.formed range unknown free)
            (rows-means words b calls means (Register m r) refl rows
            (registered-rows-formed b means.formed m r range) (new-row-fits b means.formed m r unknown free) more)

      module _ (full : capacity b.rows ≤ b.settings.meters) where
        full-mpans : meant_mpans (capacity words) (calls ++ Register m r ∷ []) ≡ meant_mpans (capacity words) calls
        unfolding meant_mpans
        full-mpans = rw mpan-last (first-full (capacity words) m (gather mpan_registered calls) (no-room-left words b calls means full))

        full-step : Means words (call_outcome b (Register m r)).book (calls ++ Register m r ∷ [])
        unfolding setting_set meant_meters
        full-step =
            rw (register-no-room b m r means.formed range unknown full)
            (refused-means words b calls means (Register m r) refl full-mpans
            (rw full-mpans (others-registered calls m (meant_mpans (capacity words) calls) absent r)))

  pub register-step : Means words (call_outcome b (Register m r)).book (calls ++ Register m r ∷ [])
  register-step =
      by-test (register_in_range m r)
      (λ range.
      by-test (is_known m (used_rows b))
      (λ known. known_step range known)
      (λ unknown.
      by-test (leb (capacity b.rows) b.settings.meters)
      (λ t. full-step range unknown (leb-true (capacity b.rows) b.settings.meters t))
      (λ t. new-step range unknown (leb-false (capacity b.rows) b.settings.meters t))))
      out_of_range
