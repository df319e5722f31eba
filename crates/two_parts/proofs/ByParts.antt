-- A registration's word and a reading are stored by parts.
use Prim.Native.Nat.{ℕ, zero, suc, ◌+◌, ◌-◌, ◌≤◌}
use mathlib.Core.Path.{◌≡◌, refl, sym, ◌∙◌, ap}
use mathlib.Core.Bool.{true, false, not}
use mathlib.Core.List.{List}
use native.Mathlib.Omega.{arith}
use borrow.Author.Tests.{not-false, le-leb, leb-true, leb-false}
use lib.Dec.{leb}
use lib.ListN.{length}
use Rattle.std.specs.Prelude.{Option, Ok}
use Rattle.refusals.specs.Causes.{refuse, accepted, quality_refused, meter_unknown, issue_not_above}
use Rattle.refusals.proofs.Passed.{passed}
use Rattle.words.specs.declared.Registration.{Registration}
use Rattle.words.specs.declared.Reading.{Reading}
use Rattle.words.specs.Reading.{issue_of, quality_allowed, reading_word}
use Rattle.words.proofs.Tests.{by-test, same_test}
use Rattle.book.specs.declared.Held.{Held}
use Rattle.book.specs.Rows.{Row, rows_formed, is_known, issue_held, with_registration, with_reading}
use Rattle.book.specs.Store.{reading_call_in_range, has_no_room, word_cause, reading_cause}
use Rattle.book.specs.Helpers.{held_in, storing, asked_of, word_storing, reading_storing}
use Rattle.book.proofs.StoredFormed.{rows-read}
use Rattle.calls.proofs.Storing.{asked-formed}
use Rattle.book.proofs.HeldIn.{reading_of, issue-held}
use Rattle.book.proofs.WithRegistration.{length_inserted, length-replaced}
use Rattle.book.proofs.WithReading.{length-reading}
use Rattle.two_parts.specs.TwoParts.{merged, RowsApart}
use Rattle.two_parts.specs.ByParts.{InFirst, InLater, GoesByParts}
use Rattle.two_parts.proofs.Merged.{length_merged, known-merged-first, known-merged-later, held-merged-first, held-merged-later, registered-first, registered-later, read_first, read-later}
use Rattle.two_parts.proofs.KnownAfter.{registered-first-apart, registered-later-apart, known_read, apart-the-other-way}

-- by the cause: a refusal leaves both parts, and an acceptance makes other rows of one
module _ {A B : List Row} (apart : RowsApart A B) where
  in-first : (cause : ℕ) {made there : List Row} → made ≡ merged there B → (cause ≡ accepted → (length there ≡ length A) × RowsApart there B) → InFirst (storing cause made (merged A B)) (storing cause there A) A B
  unfolding storing
  in-first zero e h = record { number = refl; rows = e; as_many = (h refl).0; parts = (h refl).1 }
  in-first (suc k) e h = record { number = refl; rows = refl; as_many = refl; parts = apart }

  in-later : {capacity : ℕ} → length A + length B ≤ capacity → (cause : ℕ) {made there : List Row} → made ≡ merged A there
      → (cause ≡ accepted → (length B ≤ length there) × (length there ≤ length B + 1) × (length A + length there ≤ capacity) × RowsApart A there)
      → InLater capacity (storing cause made (merged A B)) (storing cause there B) A B
  unfolding storing
  in-later fits zero e h = let (more, most, fit, parts) = h refl in record { number = refl; rows = e; refused = λ n. absurd (n refl); more = more; most = most; fits = fit; parts = parts }
  in-later fits (suc k) e h = record { number = refl; rows = refl; refused = λ n. refl; more = omega arith; most = omega arith; fits = fits; parts = apart }

-- the word of a registration that was tested
module _ (m : ℕ) (r : Registration) {w : ℕ} (asked : asked_of m r ≡ Ok w) where
  module _ (capacity : ℕ) (A B : List Row) (apart : RowsApart A B) where
    word-in-first : is_known m A ≡ true → InFirst (word_storing capacity m w (merged A B)) (word_storing capacity m w A) A B
    unfolding word_storing has_no_room
    word-in-first known =
        let not-later = apart-the-other-way A B apart.apart m known in
        let same : word_cause capacity m (merged A B) ≡ word_cause capacity m A = rw (known-merged-first m A B known, known) in
        rw same
        (in-first apart (word_cause capacity m A) (registered-first m w A B not-later)
        (λ c. (
          length-replaced 0 m w A apart.first-formed known,
          record {
            first-formed = asked-formed 0 m r A asked apart.first-formed;
            later-formed = apart.later-formed;
            apart = registered-first-apart m w A B apart.apart not-later;
          },
        )))

    word-in-later : is_known m A ≡ false → length A + length B ≤ capacity → InLater capacity (word_storing capacity m w (merged A B)) (word_storing (capacity - length A) m w B) A B
    unfolding word_storing has_no_room
    word-in-later unknown fits =
        let full : leb capacity (length (merged A B)) ≡ leb (capacity - length A) (length B) =
        same_test _ _
        (λ h. le-leb _ _ (omega (arith, length_merged A B, leb-true capacity (length (merged A B)) h)))
        (λ h. le-leb _ _ (omega (arith, length_merged A B, leb-true (capacity - length A) (length B) h))) in
        let same : word_cause capacity m (merged A B) ≡ word_cause (capacity - length A) m B = rw (known-merged-later m A B unknown, full) in
        rw same
        (in-later apart fits (word_cause (capacity - length A) m B) (registered-later 0 m w A B unknown apart.later-formed)
        (λ c.
        let grown : (length B ≤ length (with_registration m w B)) × (length (with_registration m w B) ≤ length B + 1) × (length A + length (with_registration m w B) ≤ capacity) =
        by-test (is_known m B)
        (λ k. let l = length-replaced 0 m w B apart.later-formed k in (omega arith, omega arith, omega arith))
        (λ k.
        let free = leb-false (capacity - length A) (length B) (rw k at (passed (has_no_room (capacity - length A) m B) 5 accepted c).0) in
        let l = length_inserted m w B k in
        (omega arith, omega arith, omega arith)) in (
          grown.0,
          grown.1,
          grown.2,
          record {
            first-formed = apart.first-formed;
            later-formed = asked-formed 0 m r B asked apart.later-formed;
            apart = registered-later-apart m w A B apart.apart unknown;
          },
        )))

  pub word-by-parts : GoesByParts m (λ capacity. word_storing capacity m w)
  word-by-parts = record { in_first = word-in-first; in_later = word-in-later }

-- rows that take a reading stay well formed
recorded-formed : (m : ℕ) (r : Reading) (rows : List Row) → rows_formed 0 rows ≡ true → reading_cause m r rows ≡ accepted → rows_formed 0 (with_reading m (reading_word r) rows) ≡ true
unfolding reading_cause
recorded-formed m r rows formed c =
    let above = refuse (leb r.issue (issue_held m rows)) issue_not_above accepted in
    let known = refuse (not (is_known m rows)) meter_unknown above in
    let p = passed (not (reading_call_in_range m r)) 1 (refuse (not (quality_allowed r)) quality_refused known) c in
    let q = passed (not (quality_allowed r)) 2 known p.1 in
    rows-read m r rows (not-false (reading_call_in_range m r) p.0) (not-false (quality_allowed r) q.0) formed

-- rows that know a meter alike and in which it holds the same refuse a reading alike
cause-same : (m : ℕ) (r : Reading) (rows others : List Row) → is_known m rows ≡ is_known m others → held_in m rows ≡ held_in m others → reading_cause m r rows ≡ reading_cause m r others
unfolding reading_cause
cause-same m r rows others known held =
    let issue : issue_held m rows ≡ issue_held m others = issue-held m rows ∙ ap (λ (h : Option Held). issue_of (reading_of h)) held ∙ sym (issue-held m others) in
    rw (known, issue)

-- a reading
module _ (m : ℕ) (r : Reading) (capacity : ℕ) (A B : List Row) (apart : RowsApart A B) where
  reading-in-first : is_known m A ≡ true → InFirst (reading_storing m r (merged A B)) (reading_storing m r A) A B
  unfolding reading_storing
  reading-in-first known =
      let w = reading_word r in
      let not-later = apart-the-other-way A B apart.apart m known in
      rw (cause-same m r (merged A B) A (known-merged-first m A B known ∙ sym known) (held-merged-first m A B not-later))
      (in-first apart (reading_cause m r A) (read_first m w A B not-later)
      (λ c. (
        length-reading m w A,
        record {
          first-formed = recorded-formed m r A apart.first-formed c;
          later-formed = apart.later-formed;
          apart = λ q k. rw (known_read q m w A) (apart.apart q k);
        },
      )))

  reading-in-later : is_known m A ≡ false → length A + length B ≤ capacity → InLater capacity (reading_storing m r (merged A B)) (reading_storing m r B) A B
  unfolding reading_storing
  reading-in-later unknown fits =
      let w = reading_word r in
      let l = length-reading m w B in
      rw (cause-same m r (merged A B) B (known-merged-later m A B unknown) (held-merged-later m A B unknown))
      (in-later apart fits (reading_cause m r B) (read-later m w A B unknown)
      (λ c. (
        omega arith,
        omega arith,
        omega arith,
        record {
          first-formed = apart.first-formed;
          later-formed = recorded-formed m r B apart.later-formed c;
          apart = λ q k. apart.apart q (rw (known_read q m w B) at k);
        },
      )))

pub reading-by-parts : (m : ℕ) (r : Reading) → GoesByParts m (λ capacity. reading_storing m r)
reading-by-parts m r = record { in_first = reading-in-first m r; in_later = reading-in-later m r }
