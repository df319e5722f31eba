-- The reading of highest issue, the earlier of equals: with one more reading at the end, and as the earliest of its issue.
use Prim.Native.Nat.{ℕ, ◌≤◌, ◌<◌}
use mathlib.Core.Path.{◌≡◌, refl, sym, ◌∙◌, ap, subst}
use mathlib.Core.Bool.{true, false}
use mathlib.Core.List.{List, [], ◌∷◌, ◌++◌}
use native.Mathlib.Nat.{lt_trans, lt_irrefl, le_trans, le_refl, le_of_lt, le_antisymm}
use native.Mathlib.Omega.{arith}
use borrow.Author.Tests.{ltb-true, ltb-false, lt-ltb, le-ltb, eq-eqb, ne_eqb}
use lib.Dec.{ltb, eqb}
use Rattle.words.specs.declared.Reading.{Reading}
use Rattle.words.specs.Reading.{issue_of, no_reading, reading_word, reading_in_range}
use Rattle.words.proofs.Ranges.{reading-bounds}
use Rattle.words.proofs.ReadingWord.{reading-packed}
use Rattle.words.proofs.Tests.{by-test}
use Rattle.cells.proofs.Each.{Each, no-entry, entry}
use Rattle.meaning.specs.Meaning.{only, gather, higher_issue, newest_reading}
use Rattle.meaning.specs.Moves.{of_issue, first_or, earliest_of}

module _ (word later : ℕ) where
  pub later-higher : issue_of word < issue_of later → higher_issue word later ≡ later
  unfolding higher_issue
  later-higher h = rw (lt-ltb (issue_of word) (issue_of later) h)

  pub earlier-kept : issue_of later ≤ issue_of word → higher_issue word later ≡ word
  unfolding higher_issue
  earlier-kept h = rw (le-ltb (issue_of word) (issue_of later) h)

  -- the later one is of higher issue, or it is not
  pub by-issue : {X : Type 0} → (issue_of word < issue_of later → X) → (issue_of later ≤ issue_of word → X) → X
  by-issue above not-above =
      by-test (ltb (issue_of word) (issue_of later))
      (λ e. above (ltb-true (issue_of word) (issue_of later) e))
      (λ e. not-above (ltb-false (issue_of word) (issue_of later) e))

higher-assoc : (a b c : ℕ) → higher_issue a (higher_issue b c) ≡ higher_issue (higher_issue a b) c
higher-assoc a b c =
    by-issue b c
    (λ bc.
    rw (later-higher b c bc)
    (by-issue a b
    (λ ab. rw (later-higher a b ab, later-higher b c bc) (later-higher a c (lt_trans ab bc)))
    (λ ab. rw (earlier-kept a b ab))))
    (λ bc.
    rw (earlier-kept b c bc)
    (by-issue a b
    (λ ab. rw (later-higher a b ab) (sym (earlier-kept b c bc)))
    (λ ab. rw (earlier-kept a b ab) (sym (earlier-kept a c (le_trans bc ab))))))

-- a reading in range, of an issue above none
pub record InRange (r : Reading) : Type 0 where
  pub in-range : reading_in_range r ≡ true

module _ (r : Reading) (ok : reading_in_range r ≡ true) where
  issue-some : issue_of no_reading < issue_of (reading_word r)
  issue-some = rw (reading-packed r ok).issue (omega (arith, reading-bounds r ok))

  -- one more reading at the end
  pub newest-end : (readings : List Reading) → newest_reading (readings ++ r ∷ []) ≡ higher_issue (newest_reading readings) (reading_word r)
  unfolding newest_reading
  newest-end [] = earlier-kept (reading_word r) no_reading (le_of_lt issue-some) ∙ sym (later-higher no_reading (reading_word r) issue-some)
  newest-end (x ∷ readings) = rw (newest-end readings) (higher-assoc (reading_word x) (newest_reading readings) (reading_word r))

-- the earliest reading of an issue, with one more reading before the others
module _ (issue : ℕ) (r : Reading) (readings : List Reading) where
  earliest-here : eqb r.issue issue ≡ true → earliest_of issue (r ∷ readings) ≡ reading_word r
  unfolding gather of_issue only first_or
  earliest-here h = rw h

  earliest-next : eqb r.issue issue ≡ false → earliest_of issue (r ∷ readings) ≡ earliest_of issue readings
  unfolding gather of_issue only first_or
  earliest-next h = rw h

module _ (word later : ℕ) where
  not-below-earlier : issue_of word ≤ issue_of (higher_issue word later)
  not-below-earlier =
      by-issue word later
      (λ h. rw (later-higher word later h) (le_of_lt h))
      (λ h. rw (earlier-kept word later h) (le_refl (issue_of word)))

  not-below-later : issue_of later ≤ issue_of (higher_issue word later)
  not-below-later =
      by-issue word later
      (λ h. rw (later-higher word later h) (le_refl (issue_of later)))
      (λ h. rw (earlier-kept word later h) h)

-- no reading is of a higher issue than the newest
earliest-below : (issue : ℕ) (readings : List Reading) → issue_of (earliest_of issue readings) ≤ issue_of (newest_reading readings)
unfolding gather first_or newest_reading
earliest-below issue [] = le_refl 0
earliest-below issue (r ∷ readings) =
    by-test (eqb r.issue issue)
    (λ e. rw (earliest-here issue r readings e) (not-below-earlier (reading_word r) (newest_reading readings)))
    (λ e. rw (earliest-next issue r readings e) (le_trans (earliest-below issue readings) (not-below-later (reading_word r) (newest_reading readings))))

-- the newest reading is the earliest of its issue
newest-earliest : (readings : List Reading) → Each InRange readings → earliest_of (issue_of (newest_reading readings)) readings ≡ newest_reading readings
unfolding gather first_or newest_reading
newest-earliest [] no-entry = refl
newest-earliest (r ∷ readings) (entry ok each) =
    let word = reading_word r in
    let newest = newest_reading readings in
    let kept = (reading-packed r ok.in-range).issue in
    by-issue word newest
    (λ h.
    let e : newest_reading (r ∷ readings) ≡ newest = later-higher word newest h in
    subst (λ (n : ℕ). earliest_of (issue_of n) (r ∷ readings) ≡ n) (sym e)
    (earliest-next (issue_of newest) r readings (ne_eqb r.issue (issue_of newest) (λ q. lt_irrefl (issue_of newest) (rw (kept ∙ q) at h)))
    ∙ newest-earliest readings each))
    (λ h.
    let e : newest_reading (r ∷ readings) ≡ word = earlier-kept word newest h in
    subst (λ (n : ℕ). earliest_of (issue_of n) (r ∷ readings) ≡ n) (sym e)
    (earliest-here (issue_of word) r readings (eq-eqb r.issue (issue_of word) (sym kept))))

-- so readings with the same earliest reading of each issue have the same newest
pub same-newest : (readings moved : List Reading) → Each InRange readings → Each InRange moved → ((issue : ℕ) → earliest_of issue readings ≡ earliest_of issue moved) → newest_reading readings ≡ newest_reading moved
same-newest readings moved each each' same =
    let newest = newest_reading readings in
    let newest' = newest_reading moved in
    let here : earliest_of (issue_of newest) moved ≡ newest = sym (same (issue_of newest)) ∙ newest-earliest readings each in
    let there : earliest_of (issue_of newest') readings ≡ newest' = same (issue_of newest') ∙ newest-earliest moved each' in
    let issues : issue_of newest ≡ issue_of newest' =
    le_antisymm (rw here at (earliest-below (issue_of newest) moved)) (rw there at (earliest-below (issue_of newest') readings))
    in
    sym here ∙ ap (λ (i : ℕ). earliest_of i moved) issues ∙ newest-earliest moved each'
