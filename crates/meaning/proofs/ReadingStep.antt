-- A reading call, made on a book that is what a list means, leaves the book that the list with this call means: refused for its arguments, of a meter not in the book, of an issue not above the one held, and stored.
use Prim.Native.Nat.{ℕ, ◌≤◌, ◌<◌}
use mathlib.Core.Path.{◌≡◌, refl, sym, ◌∙◌}
use mathlib.Core.Bool.{true, false, ◌&&◌, and-eq-true_iff}
use mathlib.Core.List.{List, [], ◌∷◌, ◌++◌}
use borrow.Author.Tests.{leb-true, leb-false, eqb-true, eqb-false}
use lib.Dec.{leb, eqb}
use Rattle.words.specs.declared.Reading.{Reading}
use Rattle.words.specs.Mpan.{is_mpan}
use Rattle.words.specs.Reading.{issue_of, reading_in_range, quality_allowed, reading_word}
use Rattle.words.proofs.ReadingWord.{reading-packed}
use Rattle.words.proofs.Tests.{by-test}
use Rattle.book.specs.Rows.{Row, capacity, is_known, issue_held, with_reading}
use Rattle.book.specs.Book.{Book, used_rows}
use Rattle.book.specs.Store.{reading_call_in_range}
use Rattle.book.proofs.WellFormed.{formed-book}
use Rattle.calls.specs.declared.Call.{Call}
use Rattle.calls.specs.declared.Call.TheVariants.{Record}
use Rattle.calls.specs.Calls.{call_outcome}
use Rattle.calls.proofs.ReadingCall.{reading-out-of-range, reading-of-refused-quality, reading-of-unknown-meter, reading-not-above, reading-above}
use Rattle.calls.proofs.CallFormed.{read-rows-formed, read-rows-fit}
use Rattle.cells.proofs.Permuted.{Permuted, mapped}
use Rattle.meaning.specs.Meaning.{gather, setting_set, mpan_registered, meant_mpans, counted_readings, newest_reading, meant_meter, meant_meters}
use Rattle.meaning.proofs.Lists.{eqb-either-way, map-after}
use Rattle.meaning.proofs.Different.{in-different, in_take}
use Rattle.meaning.proofs.Newest.{later-higher, earlier-kept}
use Rattle.meaning.proofs.Counted.{is_registered, registered-in}
use Rattle.meaning.proofs.MeantSettings.{mpans-kept}
use Rattle.meaning.proofs.MeantMeters.{meters-kept, reading-refused, read-other, read-itself, others-read}
use Rattle.meaning.proofs.Stored.{at_meter, read_as, changed-here, changed-not, reading-mapped}
use Rattle.meaning.proofs.Means.{Means, known-meant, issue-meant, refused-means, rows-means}

module _ (words : List ℕ) (b : Book) (calls : List Call) (means : Means words b calls) (m : ℕ) (r : Reading) where
  mpans-same : meant_mpans (capacity words) (calls ++ Record m r ∷ []) ≡ meant_mpans (capacity words) calls
  unfolding mpan_registered
  mpans-same = mpans-kept (capacity words) calls (Record m r) refl

  -- refused, and the list means the same meters
  kept : meant_meters (capacity words) (calls ++ Record m r ∷ []) ≡ meant_meters (capacity words) calls → Means words b (calls ++ Record m r ∷ [])
  unfolding setting_set
  kept meters = refused-means words b calls means (Record m r) refl mpans-same meters

  not-counted : (reading_call_in_range m r && quality_allowed r) ≡ false → Means words b (calls ++ Record m r ∷ [])
  unfolding mpan_registered
  not-counted h = kept (meters-kept (capacity words) calls (Record m r) refl (λ k. reading-refused calls m r k h))

  out_of_range : reading_call_in_range m r ≡ false → Means words (call_outcome b (Record m r)).book (calls ++ Record m r ∷ [])
  out_of_range h = rw (reading-out-of-range b m r means.formed h) (not-counted (rw h))

  module _ (range : reading_call_in_range m r ≡ true) where
    quality-refused : quality_allowed r ≡ false → Means words (call_outcome b (Record m r)).book (calls ++ Record m r ∷ [])
    quality-refused h = rw (reading-of-refused-quality b m r means.formed range h) (not-counted (rw (range, h)))

    module _ (quality : quality_allowed r ≡ true) where
      meter-unknown : is_known m (used_rows b) ≡ false → Means words (call_outcome b (Record m r)).book (calls ++ Record m r ∷ [])
      unfolding meant_meters
      meter-unknown h =
          let absent = sym (known-meant words b calls means m) ∙ h in
          rw (reading-of-unknown-meter b m r means.formed range quality h)
          (kept (rw mpans-same (others-read calls m (meant_mpans (capacity words) calls) absent r)))

      module _ (known : is_known m (used_rows b) ≡ true) where
        registered : is_registered m calls ≡ true
        unfolding meant_mpans
        registered =
            registered-in m calls
            ∙ sym (in-different m (gather mpan_registered calls))
            ∙ in_take (capacity words) m _ (sym (known-meant words b calls means m) ∙ known)

        in-range : reading_in_range r ≡ true
        in-range = ((and-eq-true_iff (is_mpan m) (reading_in_range r)).0 range).1

        -- the issue of the reading that the list means for the meter, and of the one read
        held : issue_held m (used_rows b) ≡ issue_of (newest_reading (counted_readings calls m))
        held = issue-meant words b calls means m known

        issue-not-above : r.issue ≤ issue_held m (used_rows b) → Means words (call_outcome b (Record m r)).book (calls ++ Record m r ∷ [])
        unfolding mpan_registered meant_meter
        issue-not-above h =
            let newest = newest_reading (counted_readings calls m) in
            let not-above : issue_of (reading_word r) ≤ issue_of newest = rw ((reading-packed r in-range).issue, ← held) h in
            let same : (k : ℕ) → meant_meter (calls ++ Record m r ∷ []) k ≡ meant_meter calls k =
            λ k.
            by-test (eqb k m)
            (λ e. rw (eqb-true k m e) (read-itself calls m r range quality registered ∙ rw (earlier-kept newest (reading_word r) not-above)))
            (λ e. read-other calls m r k (eqb-either-way m k ∙ e))
            in
            rw (reading-not-above b m r means.formed range quality known h)
            (kept (meters-kept (capacity words) calls (Record m r) refl same))

        module _ (above : issue_held m (used_rows b) < r.issue) where
          -- the list gives that meter the reading, and leaves every other meter
          read-meter : (k : ℕ) → meant_meter (calls ++ Record m r ∷ []) k ≡ at_meter m (read_as (reading_word r)) (meant_meter calls k)
          unfolding meant_meter
          read-meter k =
              let newest = newest_reading (counted_readings calls m) in
              let higher : issue_of newest < issue_of (reading_word r) = rw ((reading-packed r in-range).issue, ← held) above in
              let change = read_as (reading_word r) in
              by-test (eqb k m)
              (λ e. rw (eqb-true k m e) (read-itself calls m r range quality registered ∙ rw (later-higher newest (reading_word r) higher) (sym (changed-here m change (meant_meter calls m) refl))))
              (λ e. read-other calls m r k (eqb-either-way m k ∙ e) ∙ sym (changed-not m change (meant_meter calls k) (eqb-false k m e)))

          read-meters : Permuted Row (with_reading m (reading_word r) (used_rows b)) (meant_meters (capacity words) (calls ++ Record m r ∷ []))
          unfolding meant_meters
          read-meters =
              let change = at_meter m (read_as (reading_word r)) in
              rw (
                reading-mapped 0 m (reading_word r) (used_rows b) (formed-book b means.formed).rows-formed,
                mpans-same,
                map-after change (meant_meter calls) (meant_meter (calls ++ Record m r ∷ [])) read-meter (meant_mpans (capacity words) calls),
              )
              (mapped change means.meters-meant)

          reading-stored : Means words (call_outcome b (Record m r)).book (calls ++ Record m r ∷ [])
          unfolding setting_set
          reading-stored =
              rw (reading-above b m r means.formed range quality known above)
              (rows-means words b calls means (Record m r) refl (with_reading m (reading_word r) (used_rows b))
              (read-rows-formed b means.formed m r range quality) (read-rows-fit b means.formed m r) read-meters)

  pub reading_step : Means words (call_outcome b (Record m r)).book (calls ++ Record m r ∷ [])
  reading_step =
      by-test (reading_call_in_range m r)
      (λ range.
      by-test (quality_allowed r)
      (λ quality.
      by-test (is_known m (used_rows b))
      (λ known.
      by-test (leb r.issue (issue_held m (used_rows b)))
      (λ t. issue-not-above range quality known (leb-true r.issue (issue_held m (used_rows b)) t))
      (λ t. reading-stored range quality known (leb-false r.issue (issue_held m (used_rows b)) t)))
      (λ unknown. meter-unknown range quality unknown))
      (λ refused. quality-refused range refused))
      out_of_range
