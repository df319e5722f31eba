-- The words of the totals one by one: how many there are, which sum each of them is, that no other list has them, and how large they can be.
use Prim.Native.Nat.{ℕ, zero, suc, ◌+◌, ◌*◌, ◌/◌, ◌%◌, ◌≤◌, ◌<◌}
use mathlib.Core.Path.{◌≡◌, refl, ap, sym, ◌∙◌}
use mathlib.Core.Bool.{Bool, true, false, not, ◌&&◌, cond}
use mathlib.Core.List.{List}
use native.Mathlib.Omega.{arith}
use lib.Dec.{eqb}
use lib.ListN.{length, get_or, get_or-append}
use lib.Seq.{ext_get_or}
use Rattle.words.specs.Registration.{status_of}
use Rattle.book.specs.Rows.{Row}
use Rattle.cells.specs.declared.Source.{Source}
use Rattle.cells.specs.declared.Source.TheVariants.{Actual, Estimated, Defaulted, Idle}
use Rattle.cells.specs.Energy.{source_of, energy_wh, energised, de_energised}
use Rattle.cells.proofs.Each.{Each}
use Rattle.cells.proofs.RowBounds.{RowBounds}
use Rattle.totals.specs.Totals.{tariffs, totals_words, is_charged, actual_from, actual_wh, other_from, other_wh, is_idle, one_of, sum_where, tariff_totals, totals_from, totals_of}
use Rattle.totals.proofs.SumWhere.{sum-where-most}

-- what a meter gives to the k-th of its tariff's four words
abbrev pub word_gives : List ℕ → ℕ → ℕ → ℕ → ℕ
word_gives shapes zero = actual_wh shapes
word_gives shapes (suc zero) = other_wh shapes
word_gives shapes (suc (suc zero)) = one_of energised
word_gives shapes (suc (suc (suc k))) = one_of de_energised

module _ (shapes : List ℕ) (meters : List Row) (direction network : ℕ) where
  pub totals-length : (tariff n : ℕ) → length (totals_from shapes meters direction network tariff n) ≡ 4 * n
  unfolding totals_from tariff_totals
  totals-length tariff zero = refl
  totals-length tariff (suc n) = rw (totals-length (suc tariff) n) (omega arith)

  total-from : (tariff n t k : ℕ) → t < n → k < 4 → get_or (totals_from shapes meters direction network tariff n) (4 * t + k) 0 ≡ get_or (tariff_totals shapes meters direction network (tariff + t)) k 0
  unfolding totals_from tariff_totals
  total-from tariff zero t k h l = absurd (omega arith)
  total-from tariff (suc n) zero k h l =
      let e : 4 * 0 + k ≡ k = omega arith in
      let f : tariff ≡ tariff + 0 = omega arith in
      rw e
      (get_or-append (tariff_totals shapes meters direction network tariff) (totals_from shapes meters direction network (suc tariff) n) 0 k l
      ∙ ap (λ (x : ℕ). get_or (tariff_totals shapes meters direction network x) k 0) f)
  total-from tariff (suc n) (suc t) k h l =
      let e : 4 * suc t + k ≡ suc (suc (suc (suc (4 * t + k)))) = omega arith in
      let f : suc tariff + t ≡ tariff + suc t = omega arith in
      rw e
      (total-from (suc tariff) n t k (omega arith) l
      ∙ ap (λ (x : ℕ). get_or (tariff_totals shapes meters direction network x) k 0) f)

  -- the word 4 × t + k of the totals is the k-th of tariff t
  pub total-at : (t k : ℕ) → t < tariffs → k < 4 → get_or (totals_of shapes meters direction network) (4 * t + k) 0 ≡ get_or (tariff_totals shapes meters direction network t) k 0
  total-at t k h l =
      let e : 0 + t ≡ t = omega arith in
      total-from 0 tariffs t k h l ∙ ap (λ (x : ℕ). get_or (tariff_totals shapes meters direction network x) k 0) e

  tariff-word : (t k : ℕ) → k < 4 → get_or (tariff_totals shapes meters direction network t) k 0 ≡ sum_where (is_charged direction network t) (word_gives shapes k) meters
  unfolding tariff_totals
  tariff-word t zero h = refl
  tariff-word t (suc zero) h = refl
  tariff-word t (suc (suc zero)) h = refl
  tariff-word t (suc (suc (suc zero))) h = refl
  tariff-word t (suc (suc (suc (suc k)))) h = absurd (omega arith)

  -- and the sum of what the meters of tariff t give to it
  pub total-sum : (t k : ℕ) → t < tariffs → k < 4 → get_or (totals_of shapes meters direction network) (4 * t + k) 0 ≡ sum_where (is_charged direction network t) (word_gives shapes k) meters
  total-sum t k h l = total-at t k h l ∙ tariff-word t k l

  -- a list with the same words is the totals
  pub totals-are : (xs : List ℕ) → length xs ≡ totals_words
      → ((t k : ℕ) → t < tariffs → k < 4 → get_or xs (4 * t + k) 0 ≡ get_or (totals_of shapes meters direction network) (4 * t + k) 0)
      → xs ≡ totals_of shapes meters direction network
  totals-are xs long same =
      ext_get_or 0 xs (totals_of shapes meters direction network) (long ∙ sym (totals-length 0 tariffs))
      (λ j h.
      let e : 4 * (j / 4) + j % 4 ≡ j = omega arith in
      rw e at (same (j / 4) (j % 4) (omega arith) (omega arith)))

-- how large

actual-most : (s : Source) (wh : ℕ) → actual_from s wh ≤ wh
unfolding actual_from
actual-most Actual wh = omega arith
actual-most Estimated wh = omega arith
actual-most Defaulted wh = omega arith
actual-most Idle wh = omega arith

other-most : (s : Source) (wh : ℕ) → other_from s wh ≤ wh
unfolding other_from
other-most Actual wh = omega arith
other-most Estimated wh = omega arith
other-most Defaulted wh = omega arith
other-most Idle wh = omega arith

one-most : (status registration reading : ℕ) → one_of status registration reading ≤ 1
unfolding one_of
one-most status registration reading = by (not (is_idle (source_of registration reading)) && eqb (status_of registration) status)
  where
    by : (t : Bool) → cond t 1 0 ≤ 1
    by true = omega arith
    by false = omega arith

gives-most : (shapes : List ℕ) (k : ℕ) (r : Row) → RowBounds shapes r → word_gives shapes k r.registration r.reading ≤ 10000000
gives-most shapes zero r b = omega (arith, b.energy, actual-most (source_of r.registration r.reading) (energy_wh shapes r.registration r.reading))
gives-most shapes (suc zero) r b = omega (arith, b.energy, other-most (source_of r.registration r.reading) (energy_wh shapes r.registration r.reading))
gives-most shapes (suc (suc zero)) r b = omega (arith, one-most energised r.registration r.reading)
gives-most shapes (suc (suc (suc k))) r b = omega (arith, one-most de_energised r.registration r.reading)

pub total-most : (shapes : List ℕ) {meters : List Row} (direction network : ℕ) → Each (RowBounds shapes) meters → (j : ℕ) → j < totals_words → get_or (totals_of shapes meters direction network) j 0 ≤ length meters * 10000000
total-most shapes {meters} direction network each j h =
    let e : 4 * (j / 4) + j % 4 ≡ j = omega arith in
    let word = total-sum shapes meters direction network (j / 4) (j % 4) (omega arith) (omega arith) in
    omega (arith, rw e at word, sum-where-most (is_charged direction network (j / 4)) (word_gives shapes (j % 4)) 10000000 (gives-most shapes (j % 4)) each)
