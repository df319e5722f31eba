-- Rows that differ only in their networks and tariffs: what is looked up in them is the same, they take and refuse the same calls, and after alike calls they still differ only so.
use Prim.Native.Nat.{ℕ}
use mathlib.Core.Path.{◌≡◌, refl, sym, ◌∙◌, ap, ap₂}
use mathlib.Core.List.{List, [], ◌∷◌, map}
use lib.Dec.{eqb, ltb}
use lib.ListN.{length, length-map}
use Rattle.words.specs.declared.Registration.{Registration}
use Rattle.words.specs.declared.Reading.{Reading}
use Rattle.words.specs.Registration.{without_charges, registration_in_range}
use Rattle.words.proofs.Tests.{by-test}
use Rattle.book.specs.Rows.{Row, is_known, issue_held, with_registration, with_reading, row_without_charges}
use Rattle.book.specs.Store.{has_no_room, registration_cause, reading_cause}

-- such rows
abbrev pub RowsAlike : List Row → List Row → Type 0
RowsAlike rows others = map row_without_charges rows ≡ map row_without_charges others

-- what is the same without networks and tariffs
module _ (m : ℕ) where
  known-without-charges : (rows : List Row) → is_known m (map row_without_charges rows) ≡ is_known m rows
  unfolding is_known
  known-without-charges [] = refl
  known-without-charges (r ∷ rows) = rw (known-without-charges rows)

  issue-without-charges : (rows : List Row) → issue_held m (map row_without_charges rows) ≡ issue_held m rows
  unfolding issue_held
  issue-without-charges [] = refl
  issue-without-charges (r ∷ rows) = rw (issue-without-charges rows)

  registered-without-charges : (w : ℕ) (rows : List Row) → map row_without_charges (with_registration m w rows) ≡ with_registration m (without_charges w) (map row_without_charges rows)
  unfolding with_registration
  registered-without-charges w [] = refl
  registered-without-charges w (r ∷ rows) =
      by-test (ltb r.mpan m)
      (λ below. rw (below, registered-without-charges w rows))
      (λ not-below. by-test (eqb r.mpan m) (λ here. rw (not-below, here)) (λ before. rw (not-below, before)))

  read-without-charges : (w : ℕ) (rows : List Row) → map row_without_charges (with_reading m w rows) ≡ with_reading m w (map row_without_charges rows)
  unfolding with_reading
  read-without-charges w [] = refl
  read-without-charges w (r ∷ rows) =
      by-test (eqb r.mpan m)
      (λ here. rw here)
      (λ next. rw (next, read-without-charges w rows))

module _ (rows others : List Row) (alike : RowsAlike rows others) where
  -- what is the same without them is the same of alike rows
  pub same-where-alike : {A : Type 0} (f : List Row → A) → ((some : List Row) → f (map row_without_charges some) ≡ f some) → f rows ≡ f others
  same-where-alike f kept = sym (kept rows) ∙ ap f alike ∙ kept others

  pub count-alike : length rows ≡ length others
  count-alike = same-where-alike length (λ some. length-map some row_without_charges)

  known_alike : (m : ℕ) → is_known m rows ≡ is_known m others
  known_alike m = same-where-alike (is_known m) (known-without-charges m)

  -- alike registrations are both in range or both out of range
  pub registration-cause-alike : (capacity m : ℕ) (r q : Registration) → registration_in_range r ≡ registration_in_range q → registration_cause capacity m r rows ≡ registration_cause capacity m q others
  unfolding registration_cause has_no_room
  registration-cause-alike capacity m r q range = rw (range, known_alike m, count-alike)

  pub reading-cause-alike : (m : ℕ) (r : Reading) → reading_cause m r rows ≡ reading_cause m r others
  unfolding reading_cause
  reading-cause-alike m r = rw (known_alike m, same-where-alike (issue_held m) (issue-without-charges m))

  pub registered-alike : (m w v : ℕ) → without_charges w ≡ without_charges v → RowsAlike (with_registration m w rows) (with_registration m v others)
  registered-alike m w v e = registered-without-charges m w rows ∙ ap₂ (with_registration m) e alike ∙ sym (registered-without-charges m v others)

  pub read_alike : (m w : ℕ) → RowsAlike (with_reading m w rows) (with_reading m w others)
  read_alike m w = read-without-charges m w rows ∙ ap (with_reading m w) alike ∙ sym (read-without-charges m w others)
