-- One more meter after the others: what it changes in the totals.
use Prim.Native.Nat.{ℕ, zero, suc, ◌+◌, ◌*◌, ◌<◌}
use mathlib.Core.Path.{◌≡◌, refl, ap, sym, ◌∙◌}
use mathlib.Core.Bool.{Bool, true, false, not, ◌&&◌, cond, true≢false}
use mathlib.Core.List.{List, [], ◌∷◌, ◌++◌}
use native.Mathlib.Omega.{arith}
use borrow.Author.Tests.{eq-eqb, ne_eqb, eqb-true, eqb-false}
use lib.Dec.{eqb}
use lib.ListN.{length, get_or, length-set, get_or-append}
use lib.Seq.{get_or-set_same, get_or-set_other, set-append_left}
use denote.Enum.Bare.{sameb}
use Rattle.cells.specs.contracts.Source.{the_type}
use Rattle.words.specs.Registration.{direction_of, status_of, network_of, tariff_of}
use Rattle.words.proofs.Tests.{by-test, same_test}
use Rattle.book.specs.Rows.{Row}
use Rattle.cells.specs.declared.Use.{Use}
use Rattle.cells.specs.declared.Source.{Source}
use Rattle.cells.specs.declared.Source.TheVariants.{Actual, Estimated, Defaulted, Idle}
use Rattle.cells.specs.Energy.{source_of, energy_wh, energised, de_energised}
use Rattle.cells.specs.Cells.{estimate_bit}
use Rattle.cells.specs.Helpers.{use_of, wh_of}
use Rattle.cells.proofs.Uses.{use-wh}
use Rattle.cells.proofs.RowBounds.{estimate-most}
use Rattle.totals.specs.Totals.{tariffs, totals_words, is_charged, actual_from, other_from, is_idle, one_of, totals_of}
use Rattle.totals.specs.Helpers.{increased, count_word, with_meter}
use Rattle.totals.proofs.SumWhere.{sum-where-last}
use Rattle.totals.proofs.TotalAt.{word_gives, totals-length, total-sum, totals-are}

-- an amount added to one number of a list

increased-at : (xs : List ℕ) (at amount j : ℕ) → at < length xs → get_or (increased xs at amount) j 0 ≡ get_or xs j 0 + cond (eqb at j) amount 0
increased-at xs at amount j h =
    by-test (eqb at j)
    (λ t.
    let e : at ≡ j = eqb-true at j t in
    rw (t, ← e) (get_or-set_same xs at (get_or xs at 0 + amount) 0 h))
    (λ t.
    rw t (omega (arith, get_or-set_other xs at j (get_or xs at 0 + amount) 0 (λ e. eqb-false at j t (sym e)))))

increased-append : (xs ys : List ℕ) (at amount : ℕ) → at < length xs → increased (xs ++ ys) at amount ≡ increased xs at amount ++ ys
increased-append xs ys at amount h = rw (get_or-append xs ys 0 at h, set-append_left xs ys at (get_or xs at 0 + amount) h)

-- word x of tariff a is word k of tariff t
same_word : (a x t k : ℕ) → x < 4 → k < 4 → eqb (4 * a + x) (4 * t + k) ≡ (eqb a t && eqb x k)
same_word a x t k h l =
    by-test (eqb a t)
    (λ s. rw s (same_test (eqb (4 * a + x) (4 * t + k)) (eqb x k)
    (λ e. eq-eqb x k (omega (arith, eqb-true a t s, eqb-true (4 * a + x) (4 * t + k) e)))
    (λ e. eq-eqb (4 * a + x) (4 * t + k) (omega (arith, eqb-true a t s, eqb-true x k e)))))
    (λ s. rw s (ne_eqb (4 * a + x) (4 * t + k) (λ e. eqb-false a t s (omega arith))))

pub count-word-bound : (registration : ℕ) → (1 < count_word registration) × (count_word registration < 4)
count-word-bound registration = by (eqb (status_of registration) energised)
  where
    by : (t : Bool) → (1 < cond t 2 3) × (cond t 2 3 < 4)
    by true = omega arith
    by false = omega arith

-- what the code's test of the source tells
pub idle-test : (s : Source) → sameb the_type s Idle ≡ is_idle s
unfolding is_idle
idle-test Actual = refl
idle-test Estimated = refl
idle-test Defaulted = refl
idle-test Idle = refl

-- for the check to cite: this, and how small the numbers of the words are
pub ruleset few = (idle-test, estimate-most, count-word-bound)

-- what a meter gives to the words of its tariff

-- a meter that is not idle is energised or de-energised
pub used-status : (registration reading : ℕ) → is_idle (source_of registration reading) ≡ false → eqb (status_of registration) de_energised ≡ not (eqb (status_of registration) energised)
unfolding source_of is_idle
used-status registration reading h =
    by-test (eqb (status_of registration) energised)
    (λ on. rw on (ne_eqb (status_of registration) de_energised (λ e. omega (arith, eqb-true (status_of registration) energised on))))
    (λ off. by-test (eqb (status_of registration) de_energised)
    (λ t. rw (off, t))
    (λ t. absurd (true≢false (rw (off, t) at h))))

idle-energy : (s : Source) (wh : ℕ) → is_idle s ≡ true → (actual_from s wh ≡ 0) × (other_from s wh ≡ 0)
unfolding is_idle actual_from other_from
idle-energy Actual wh h = absurd (true≢false (sym h))
idle-energy Estimated wh h = absurd (true≢false (sym h))
idle-energy Defaulted wh h = absurd (true≢false (sym h))
idle-energy Idle wh h = (refl, refl)

used-energy : (s : Source) (wh : ℕ) → is_idle s ≡ false → (actual_from s wh ≡ cond (eqb (estimate_bit s) 0) wh 0) × (other_from s wh ≡ cond (eqb (estimate_bit s) 1) wh 0)
unfolding is_idle actual_from other_from estimate_bit
used-energy Actual wh h = (refl, refl)
used-energy Estimated wh h = (refl, refl)
used-energy Defaulted wh h = (refl, refl)
used-energy Idle wh h = absurd (true≢false h)

module _ (shapes : List ℕ) (registration reading : ℕ) where
  abbrev source : Source
  source = source_of registration reading

  abbrev wh : ℕ
  wh = energy_wh shapes registration reading

  abbrev energy_at : ℕ
  energy_at = estimate_bit source

  idle-gives : is_idle source ≡ true → (k : ℕ) → word_gives shapes k registration reading ≡ 0
  unfolding one_of
  idle-gives h zero = (idle-energy source wh h).0
  idle-gives h (suc zero) = (idle-energy source wh h).1
  idle-gives h (suc (suc zero)) = rw h
  idle-gives h (suc (suc (suc k))) = rw h

  used-gives : is_idle source ≡ false → (k : ℕ) → k < 4 → word_gives shapes k registration reading ≡ cond (eqb energy_at k) wh 0 + cond (eqb (count_word registration) k) 1 0
  unfolding one_of
  used-gives h zero l = rw (ne_eqb (count_word registration) 0 (λ e. omega (arith, count-word-bound registration))) (omega (arith, (used-energy source wh h).0))
  used-gives h (suc zero) l = rw (ne_eqb (count_word registration) 1 (λ e. omega (arith, count-word-bound registration))) (omega (arith, (used-energy source wh h).1))
  used-gives h (suc (suc zero)) l = rw (ne_eqb energy_at 2 (λ e. omega (arith, estimate-most source)), h) (by (eqb (status_of registration) energised))
    where
      by : (t : Bool) → ◌≡◌ {A = ℕ} (cond t 1 0) (0 + cond (eqb (cond t 2 3) 2) 1 0)
      by true = refl
      by false = refl
  used-gives h (suc (suc (suc zero))) l = rw (ne_eqb energy_at 3 (λ e. omega (arith, estimate-most source)), h, used-status registration reading h) (by (eqb (status_of registration) energised))
    where
      by : (t : Bool) → ◌≡◌ {A = ℕ} (cond (not t) 1 0) (0 + cond (eqb (cond t 2 3) 3) 1 0)
      by true = refl
      by false = refl
  used-gives h (suc (suc (suc (suc k)))) l = absurd (omega arith)

-- the totals

module _ (shapes : List ℕ) (meters : List Row) (r : Row) (direction network : ℕ) where
  abbrev before : List ℕ
  before = totals_of shapes meters direction network

  abbrev after : List ℕ
  after = totals_of shapes (meters ++ (r ∷ [])) direction network

  abbrev asked : Bool
  asked = eqb (direction_of r.registration) direction && eqb (network_of r.registration) network

  abbrev used : Use
  used = use_of shapes r.registration r.reading

  word_more : (t k : ℕ) → t < tariffs → k < 4 → get_or after (4 * t + k) 0 ≡ get_or before (4 * t + k) 0 + cond (asked && eqb (tariff_of r.registration) t) (word_gives shapes k r.registration r.reading) 0
  unfolding is_charged
  word_more t k h l =
      rw (total-sum shapes (meters ++ (r ∷ [])) direction network t k h l, total-sum shapes meters direction network t k h l)
      (sum-where-last (is_charged direction network t) (word_gives shapes k) meters r)

  -- where a meter gives nothing the totals stay as they were
  kept-where : ((t k : ℕ) → cond (asked && eqb (tariff_of r.registration) t) (word_gives shapes k r.registration r.reading) 0 ≡ 0) → before ≡ after
  kept-where none =
      totals-are shapes (meters ++ (r ∷ [])) direction network before (totals-length shapes meters direction network 0 tariffs)
      (λ t k h l. omega (arith, word_more t k h l, none t k))

  -- a meter of another direction or network changes nothing
  pub totals-kept : asked ≡ false → before ≡ after
  totals-kept other = kept-where (λ t k. rw other)

  idle-kept : is_idle (source_of r.registration r.reading) ≡ true → before ≡ after
  idle-kept idle = kept-where (λ t k. rw (idle-gives shapes r.registration r.reading idle k) (by (asked && eqb (tariff_of r.registration) t)))
    where
      by : (t : Bool) → ◌≡◌ {A = ℕ} (cond t 0 0) 0
      by true = refl
      by false = refl

  abbrev energy_place : ℕ
  energy_place = 4 * tariff_of r.registration + estimate_bit used.source

  abbrev count_place : ℕ
  count_place = 4 * tariff_of r.registration + count_word r.registration

  -- what a meter gives to any word, by the two places that it is added at
  gives_at : asked ≡ true → is_idle (source_of r.registration r.reading) ≡ false → (t k : ℕ) → k < 4
      → cond (asked && eqb (tariff_of r.registration) t) (word_gives shapes k r.registration r.reading) 0 ≡ cond (eqb energy_place (4 * t + k)) (wh_of used) 0 + cond (eqb count_place (4 * t + k)) 1 0
  gives_at same busy t k l =
      rw (
        same,
        use-wh shapes r.registration r.reading,
        same_word (tariff_of r.registration) (estimate_bit used.source) t k (omega (arith, estimate-most used.source)) l,
        same_word (tariff_of r.registration) (count_word r.registration) t k (count-word-bound r.registration).1 l,
      )
      (by (eqb (tariff_of r.registration) t) (used-gives shapes r.registration r.reading busy k l))
    where
      by : (s : Bool) {g : ℕ} → g ≡ cond (eqb (estimate_bit used.source) k) (energy_wh shapes r.registration r.reading) 0 + cond (eqb (count_word r.registration) k) 1 0
          → cond s g 0 ≡ cond (s && eqb (estimate_bit used.source) k) (energy_wh shapes r.registration r.reading) 0 + cond (s && eqb (count_word r.registration) k) 1 0
      by true e = e
      by false e = refl

  used-added : asked ≡ true → is_idle (source_of r.registration r.reading) ≡ false → increased (increased before energy_place (wh_of used)) count_place 1 ≡ after
  used-added same busy =
      let long = totals-length shapes meters direction network 0 tariffs in
      let first : energy_place < length before = omega (arith, long, estimate-most used.source) in
      let long-still : length (increased before energy_place (wh_of used)) ≡ totals_words = length-set before energy_place (get_or before energy_place 0 + (wh_of used)) ∙ long in
      let second : count_place < length (increased before energy_place (wh_of used)) = omega (arith, long-still, count-word-bound r.registration) in
      totals-are shapes (meters ++ (r ∷ [])) direction network (increased (increased before energy_place (wh_of used)) count_place 1)
      (length-set (increased before energy_place (wh_of used)) count_place (get_or (increased before energy_place (wh_of used)) count_place 0 + 1) ∙ long-still)
      (λ t k h l.
      omega (
        arith,
        increased-at (increased before energy_place (wh_of used)) count_place 1 (4 * t + k) second,
        increased-at before energy_place (wh_of used) (4 * t + k) first,
        gives_at same busy t k l,
        word_more t k h l,
      ))

  -- any other is added to the words of its tariff
  pub totals-more : asked ≡ true → with_meter before r.registration used ≡ after
  unfolding with_meter
  totals-more same =
      by-test (is_idle (source_of r.registration r.reading))
      (λ idle. rw idle (idle-kept idle))
      (λ busy. rw busy (used-added same busy))

-- the words past the totals stay as they were
pub with-meter-append : (xs ys : List ℕ) (registration : ℕ) (used : Use) → length xs ≡ totals_words → with_meter (xs ++ ys) registration used ≡ with_meter xs registration used ++ ys
unfolding with_meter
with-meter-append xs ys registration used long =
    let energy_place = 4 * tariff_of registration + estimate_bit used.source in
    let count_place = 4 * tariff_of registration + count_word registration in
    let first : energy_place < length xs = omega (arith, estimate-most used.source) in
    let second : count_place < length (increased xs energy_place (wh_of used)) = rw length-set (omega (arith, count-word-bound registration)) in
    by-test (is_idle used.source)
    (λ t. rw t)
    (λ t.
    rw t
    (ap (λ (l : List ℕ). increased l count_place 1) (increased-append xs ys energy_place (wh_of used) first)
    ∙ increased-append (increased xs energy_place (wh_of used)) ys count_place 1 second))
