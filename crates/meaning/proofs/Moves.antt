-- Reading calls that are moved within the provisos keep the earliest reading of each issue that counts: each reading of an accepted meter counts that is free of causes 2 and 3, in both lists, and there is one of each issue at most.
use Prim.Native.Nat.{ℕ, suc, ◌+◌, ◌≤◌}
use mathlib.Core.Path.{◌≡◌, refl, sym, ◌∙◌, ap}
use mathlib.Core.Bool.{Bool, true, false, ◌&&◌, cond, and-eq-true_iff}
use mathlib.Core.List.{List, [], ◌∷◌, append-nil}
use native.Mathlib.Omega.{arith}
use borrow.Author.Tests.{eqb-true, eqb-false, eq-eqb, ne_eqb}
use lib.Dec.{eqb}
use lib.ListN.{length, length-append}
use Rattle.words.specs.declared.Reading.{Reading}
use Rattle.words.specs.Reading.{reading_word, quality_allowed}
use Rattle.words.proofs.Tests.{by-test}
use Rattle.book.specs.Store.{reading_call_in_range}
use Rattle.calls.specs.declared.Call.{Call}
use Rattle.calls.specs.declared.Call.TheVariants.{Register, Record, Set}
use Rattle.meaning.specs.Meaning.{only, gather, reading_free, counted_readings}
use Rattle.meaning.specs.Moves.{reading_called, readings_called, same_reading, times_in, of_issue, is_accepted, AfterRegistration, ReadingsMoved, first_or, earliest_of, EarliestKept}
use Rattle.meaning.proofs.Lists.{gather-gathered}
use Rattle.meaning.proofs.Counted.{counted-all}
use Rattle.meaning.proofs.Moved.{moved-mpans}

same-is : (x y : Reading) → same_reading x y ≡ true → x ≡ y
unfolding same_reading
same-is x y same =
    let k = simp and-eq-true_iff at same in
    let issues = eqb-true x.issue y.issue k.0.0 in
    let qualities = eqb-true x.quality y.quality k.0.1 in
    let consumptions = eqb-true x.consumption y.consumption k.1 in
    λ i. record { issue = issues i; quality = qualities i; consumption = consumptions i }

itself : (x : Reading) → same_reading x x ≡ true
unfolding same_reading
itself x = rw (eq-eqb x.issue x.issue refl, eq-eqb x.quality x.quality refl, eq-eqb x.consumption x.consumption refl)

-- the first reading of a list: of that issue or not, that very one or not
module _ (issue : ℕ) (y : Reading) (rest : List Reading) where
  of-issue : y.issue ≡ issue → gather (of_issue issue) (y ∷ rest) ≡ reading_word y ∷ gather (of_issue issue) rest
  unfolding gather of_issue only
  of-issue h = rw (eq-eqb y.issue issue h)

  of-another : (y.issue ≡ issue → ⊥) → gather (of_issue issue) (y ∷ rest) ≡ gather (of_issue issue) rest
  unfolding gather of_issue only
  of-another h = rw (ne_eqb y.issue issue h)

module _ (x y : Reading) (rest : List Reading) where
  times-here : same_reading x y ≡ true → times_in x (y ∷ rest) ≡ 1 + times_in x rest
  unfolding gather only
  times-here h = rw h (omega arith)

  times-elsewhere : same_reading x y ≡ false → times_in x (y ∷ rest) ≡ times_in x rest
  unfolding gather only
  times-elsewhere h = rw h

-- a reading that stands in a list is among those of its issue
some-of-issue : (x : Reading) (issue : ℕ) (readings : List Reading) → x.issue ≡ issue → 1 ≤ times_in x readings → 1 ≤ length (gather (of_issue issue) readings)
unfolding gather
some-of-issue x issue [] e h = absurd (omega arith)
some-of-issue x issue (y ∷ rest) e h =
    by-test (eqb y.issue issue)
    (λ here. rw (of-issue issue y rest (eqb-true y.issue issue here)) (omega arith))
    (λ elsewhere.
    let other = eqb-false y.issue issue elsewhere in
    rw (of-another issue y rest other)
    (by-test (same_reading x y)
    (λ same. absurd (other (sym (ap (λ (r : Reading). r.issue) (same-is x y same)) ∙ e)))
    (λ differs. some-of-issue x issue rest e (rw (times-elsewhere x y rest differs) at h))))

none : {A : Type 0} (xs : List A) → length xs ≤ 0 → xs ≡ []
none [] h = refl
none (x ∷ xs) h = absurd (omega arith)

-- and is the only one, where there is one at most
only-of-issue : (x : Reading) (issue : ℕ) (readings : List Reading) → x.issue ≡ issue → 1 ≤ times_in x readings → length (gather (of_issue issue) readings) ≤ 1 → gather (of_issue issue) readings ≡ reading_word x ∷ []
unfolding gather
only-of-issue x issue [] e h one = absurd (omega arith)
only-of-issue x issue (y ∷ rest) e h one =
    by-test (same_reading x y)
    (λ same.
    let is = same-is x y same in
    let split = of-issue issue y rest (sym (ap (λ (r : Reading). r.issue) is) ∙ e) in
    let few : length (gather (of_issue issue) rest) ≤ 0 = omega (arith, rw split at one) in
    split ∙ rw (none (gather (of_issue issue) rest) few, is))
    (λ differs.
    let later : 1 ≤ times_in x rest = rw (times-elsewhere x y rest differs) at h in
    by-test (eqb y.issue issue)
    (λ here.
    absurd
    (omega (
      arith,
      rw (of-issue issue y rest (eqb-true y.issue issue here)) at one,
      some-of-issue x issue rest e later,
    )))
    (λ elsewhere.
    let other = of-another issue y rest (eqb-false y.issue issue elsewhere) in
    other ∙ only-of-issue x issue rest e later (rw other at one)))

-- the reading that the first word of an issue comes from
record Behind (issue word : ℕ) (readings : List Reading) : Type 0 where
  it : Reading
  issue-is : it.issue ≡ issue
  word-is : reading_word it ≡ word
  stands : 1 ≤ times_in it readings

behind-first : (issue word : ℕ) (words : List ℕ) (readings : List Reading) → gather (of_issue issue) readings ≡ word ∷ words → Behind issue word readings
unfolding gather first_or
behind-first issue word words [] e =
    let impossible : 0 ≡ suc (length words) = ap length e in
    absurd (omega arith)
behind-first issue word words (y ∷ rest) e =
    by-test (eqb y.issue issue)
    (λ here.
    let is = eqb-true y.issue issue here in
    record {
      it = y;
      issue-is = is;
      word-is = ap (first_or 0) (sym (of-issue issue y rest is) ∙ e);
      stands = rw (times-here y y rest (itself y)) (omega arith);
    })
    (λ elsewhere.
    let behind = behind-first issue word words rest (sym (of-another issue y rest (eqb-false y.issue issue elsewhere)) ∙ e) in
    record {
      it = behind.it;
      issue-is = behind.issue-is;
      word-is = behind.word-is;
      stands = by-test (same_reading behind.it y)
          (λ same. rw (times-here behind.it y rest same) (omega arith))
          (λ differs. rw (times-elsewhere behind.it y rest differs) behind.stands);
    })

-- two lists of the same readings, in the first of which there is one of an issue at most: the earliest of the issue is the same
module _ (issue : ℕ) (here there : List Reading) (same : (r : Reading) → times_in r here ≡ times_in r there) (once : length (gather (of_issue issue) here) ≤ 1) where
  same_first : (words words-there : List ℕ) → gather (of_issue issue) here ≡ words → gather (of_issue issue) there ≡ words-there → earliest_of issue here ≡ earliest_of issue there
  unfolding first_or
  same_first [] [] e f = rw (e, f)
  same_first (word ∷ words) [] e f =
      let behind = behind-first issue word words here e in
      let some = some-of-issue behind.it issue there behind.issue-is (rw (sym (same behind.it)) behind.stands) in
      let nothing : length (gather (of_issue issue) there) ≡ 0 = ap length f in
      absurd (omega arith)
  same_first words (word ∷ words-there) e f =
      let behind = behind-first issue word words-there there f in
      let Only-here = only-of-issue behind.it issue here behind.issue-is (rw (same behind.it) behind.stands) once in
      rw (Only-here, f) behind.word-is

-- the readings of a list that pass a test
module _ (test : Reading → Bool) where
  abbrev passing : Reading → List Reading
  passing r = only (test r) r

  module _ (y : Reading) (rest : List Reading) where
    first_passes : test y ≡ true → gather passing (y ∷ rest) ≡ y ∷ gather passing rest
    unfolding gather only
    first_passes h = rw h

    first-fails : test y ≡ false → gather passing (y ∷ rest) ≡ gather passing rest
    unfolding gather only
    first-fails h = rw h

  times-passing : (x : Reading) (readings : List Reading) → times_in x (gather passing readings) ≡ cond (test x) (times_in x readings) 0
  unfolding gather
  times-passing x [] = by-test (test x) (λ t. rw t) (λ t. rw t)
  times-passing x (y ∷ rest) =
      by-test (same_reading x y)
      (λ same.
      let is = ap test (same-is x y same) in
      by-test (test y)
      (λ t. rw (first_passes y rest t, times-here x y (gather passing rest) same, times-passing x rest, is, t, times-here x y rest same))
      (λ t. rw (first-fails y rest t, times-passing x rest, is, t)))
      (λ differs.
      by-test (test y)
      (λ t. rw (first_passes y rest t, times-elsewhere x y (gather passing rest) differs, times-elsewhere x y rest differs) (times-passing x rest))
      (λ t. rw (first-fails y rest t, times-elsewhere x y rest differs) (times-passing x rest)))

  same-passing : (here there : List Reading) → ((r : Reading) → times_in r here ≡ times_in r there) → (r : Reading) → times_in r (gather passing here) ≡ times_in r (gather passing there)
  same-passing here there same r = times-passing r here ∙ ap (λ (n : ℕ). cond (test r) n 0) (same r) ∙ sym (times-passing r there)

  few-passing : (issue : ℕ) (readings : List Reading) → length (gather (of_issue issue) (gather passing readings)) ≤ length (gather (of_issue issue) readings)
  unfolding gather
  few-passing issue [] = omega arith
  few-passing issue (y ∷ rest) =
      by-test (test y)
      (λ t. rw (first_passes y rest t) (simp length-append (omega (arith, few-passing issue rest))))
      (λ t. rw (first-fails y rest t) (simp length-append (omega (arith, few-passing issue rest))))

-- a reading of the meter m that is free of causes 2 and 3
abbrev is_free : ℕ → Reading → Bool
is_free m r = reading_call_in_range m r && quality_allowed r

free-called : (m : ℕ) (c : Call) → gather (passing (is_free m)) (reading_called m c) ≡ reading_free m c
unfolding gather reading_called reading_free only
free-called m (Register k r) = refl
free-called m (Record k r) = by-test (eqb k m) (λ e. rw (e, eqb-true k m e) (append-nil (only (is_free m r) r))) (λ e. rw e)
free-called m (Set x) = refl

-- the readings of an accepted meter that count are those of its reading calls that are free of causes 2 and 3
counted-free : {capacity : ℕ} (calls : List Call) → AfterRegistration capacity calls → (m : ℕ) → is_accepted capacity calls m ≡ true → counted_readings calls m ≡ gather (passing (is_free m)) (readings_called m calls)
counted-free calls a m accepted =
    counted-all m calls (a.after m accepted)
    ∙ sym (gather-gathered (passing (is_free m)) (reading_called m) (reading_free m) (free-called m) calls)

pub earliest-kept : {capacity : ℕ} {calls moved : List Call} → ReadingsMoved capacity calls moved → EarliestKept capacity calls moved
earliest-kept {capacity} {calls} {moved} r =
    record {
      only-readings = r.only-readings;
      earliest = λ m accepted issue.
          let here = readings_called m calls in
          let there = readings_called m moved in
          let accepted-there : is_accepted capacity moved m ≡ true = rw (moved-mpans capacity r.only-readings) at accepted in
          rw (counted-free calls r.after-registration m accepted, counted-free moved r.after-registration-moved m accepted-there)
          (same_first issue _ _ (same-passing (is_free m) here there (r.only-readings.readings m))
          (omega (arith, few-passing (is_free m) issue here, r.once-per-issue.once m accepted issue)) _ _ refl refl);
    }
