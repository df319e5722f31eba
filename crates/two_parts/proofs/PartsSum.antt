-- Sums over rows in two parts: over the rows that they stand for it is the sum over both parts, in whatever order those stand.
use Prim.Native.Nat.{ℕ, ◌+◌, ◌-◌}
use mathlib.Core.Path.{◌≡◌, refl, sym, ◌∙◌, ap, fun_ext}
use mathlib.Core.List.{List, [], ◌∷◌, ◌++◌}
use native.Mathlib.Omega.{arith}
use lib.Dec.{ltb}
use lib.IntN.{ℤ, ◌+ℤ◌, ◌-ℤ◌, +ℤ_idr}
use lib.ListN.{take-append-drop}
use Rattle.std.proofs.lemmas.List.Folds.{list_all-append}
use Rattle.integers.specs.Sum.{sum}
use Rattle.integers.proofs.Linear.{linear, plus, minus}
use Rattle.words.proofs.Tests.{by-test}
use Rattle.book.specs.Rows.{Row, capacity, rows_of, is_row}
use Rattle.book.proofs.RowsOf.{length-rows, take-rows, drop-rows}
use Rattle.cells.specs.Cells.{sum_over}
use Rattle.cells.proofs.SumOver.{sum-over-append}
use Rattle.running.specs.Words.{word_in, sum_in}
use Rattle.running.specs.Helpers.{rows_change}
use Rattle.running.proofs.HeldFormed.{formed-all}
use Rattle.calls.specs.Helpers.{InAnyOrder}
use Rattle.two_parts.specs.TwoParts.{with_row, merged, later_rows, as_one, PartsReady}
use Rattle.two_parts.proofs.AsOne.{as-one-rows}

other-order : (x y s : ℤ) → x +ℤ (y +ℤ s) ≡ y +ℤ (x +ℤ s)
other-order x y s = omega (linear, plus y s, plus x (y +ℤ s), plus x s, plus y (x +ℤ s))

module _ (f : ℕ → ℕ → ℤ) where
  abbrev gives : Row → ℤ
  gives r = f r.registration r.reading

  -- a row more, wherever it is put
  sum_row : (r : Row) (rows : List Row) → sum_over f (with_row r rows) ≡ gives r +ℤ sum_over f rows
  unfolding sum_over sum with_row
  sum_row r [] = refl
  sum_row r (x ∷ rows) =
      by-test (ltb x.mpan r.mpan)
      (λ h. rw h (ap (λ (z : ℤ). gives x +ℤ z) (sum_row r rows) ∙ other-order (gives x) (gives r) (sum_over f rows)))
      (λ h. rw h refl)

  pub sum-merged : (A B : List Row) → sum_over f (merged A B) ≡ sum_over f A +ℤ sum_over f B
  unfolding merged sum_over sum
  sum-merged A [] = sym (+ℤ_idr (sum_over f A))
  sum-merged A (r ∷ B) = sum_row r (merged A B) ∙ ap (λ (z : ℤ). gives r +ℤ z) (sum-merged A B) ∙ other-order (gives r) (sum_over f A) (sum_over f B)

-- what one of two summands changes, it changes in the sum
first-changes : (a a' b : ℤ) → (a' +ℤ b) -ℤ (a +ℤ b) ≡ a' -ℤ a
first-changes a a' b = omega (linear, plus a b, plus a' b, minus (a' +ℤ b) (a +ℤ b), minus a' a)

second-changes : (a b b' : ℤ) → (a +ℤ b') -ℤ (a +ℤ b) ≡ b' -ℤ b
second-changes a b b' = omega (linear, plus a b, plus a b', minus (a +ℤ b') (a +ℤ b), minus b' b)

-- other rows in one part change the running cells as they do in that part
module _ (shapes : List ℕ) (A B : List Row) where
  pub change-first : (A' : List Row) → rows_change shapes (merged A B) (merged A' B) ≡ rows_change shapes A A'
  unfolding sum_in
  change-first A' =
      fun_ext (λ k.
      let f = word_in shapes k in
      rw (sum-merged f A B, sum-merged f A' B) (first-changes (sum_over f A) (sum_over f A') (sum_over f B)))

  pub change-later : (B' : List Row) → rows_change shapes (merged A B) (merged A B') ≡ rows_change shapes B B'
  unfolding sum_in
  change-later B' =
      fun_ext (λ k.
      let f = word_in shapes k in
      rw (sum-merged f A B, sum-merged f A B') (second-changes (sum_over f A) (sum_over f B) (sum_over f B')))

module _ {first later : ℕ} {words : List ℕ} (ready : PartsReady first later words) where
  -- the rows of the two parts, one after the other
  one-after-other : rows_of (first + later) words ≡ rows_of first words ++ later_rows first later words
  unfolding later_rows
  one-after-other =
      let rest : first + later - first ≡ later = omega arith in
      sym (take-append-drop first (rows_of (first + later) words))
      ∙ rw (take-rows first (first + later) words (omega arith), drop-rows first (first + later) words (omega arith), rest)

  pub in-any-order : InAnyOrder (rows_of (first + later) (as_one first later words)) (rows_of (first + later) words)
  unfolding capacity
  in-any-order =
      let A = rows_of first words in
      let B = later_rows first later words in
      record {
        held = record {
          few = omega (arith, length-rows (first + later) words, ready.within-capacity);
          each = rw (one-after-other, list_all-append is_row A B, formed-all 0 A ready.rows.first-formed, formed-all 0 B ready.rows.later-formed);
        };
        same_sums = λ f.
            ap (sum_over f) one-after-other
            ∙ sum-over-append f A B
            ∙ sym (sum-merged f A B)
            ∙ ap (sum_over f) (sym (as-one-rows first later words ready));
      }
