-- What another shape of a category changes: the cells of the meters that wait in it, by the Wh that the shape has more, and no count.
use Prim.Native.Nat.{ℕ, ◌+◌, ◌*◌, ◌≤◌, ◌<◌}
use mathlib.Core.Path.{◌≡◌, refl, sym, ap, ◌∙◌, fun_ext}
use mathlib.Core.Bool.{Bool, true, false, ◌&&◌, cond, and-eq-true_iff}
use mathlib.Core.List.{List, [], ◌∷◌, ◌++◌}
use native.Mathlib.Omega.{arith}
use borrow.Author.Tests.{eqb-true, eqb-false, le-ltb}
use lib.Dec.{eqb}
use lib.IntN.{ℤ, pos, nat_abs, ◌+ℤ◌, ◌-ℤ◌, +ℤ_idr}
use lib.ListN.{length, get_or, set}
use lib.Seq.{get_or-set_same, get_or-set_other}
use Rattle.integers.proofs.Linear.{linear, minus}
use Rattle.words.specs.Registration.{status_of, unit_of, category_of}
use Rattle.words.specs.Reading.{no_reading, quality_of, is_actual}
use Rattle.words.proofs.RegistrationWord.{well-formed-bounds}
use Rattle.words.proofs.Tests.{by-test}
use Rattle.book.specs.Limits.{classes, shape_missing}
use Rattle.std.specs.List.{list_all}
use Rattle.book.specs.Settings.{is_shape}
use Rattle.book.specs.Rows.{Row, is_row}
use Rattle.book.proofs.Rising.{Words, row_words}
use Rattle.cells.specs.declared.Source.{Source}
use Rattle.cells.specs.declared.Source.TheVariants.{Actual, Estimated, Defaulted, Idle}
use Rattle.cells.specs.Energy.{source_number, de_energised, energised, reading_source, used_de_energised, source_of, shape_wh, energy_from, energy_wh}
use Rattle.cells.specs.Cells.{class_of, estimate_bit, consumption_class}
use Rattle.cells.proofs.Each.{Each, no-entry, entry}
use Rattle.cells.proofs.RowBounds.{row-bounds}
use Rattle.cells.proofs.SumOver.{sum-over-last, sum-over-minus, sum-over-most}
use Rattle.cells.proofs.SumBelow.{sum-over-same}
use Rattle.running.specs.Words.{cell_words, word_in, sum_in}
use Rattle.running.specs.Helpers.{waits_in, waiting_cell, cells_give, shape_gives, shape_sum, shape_change}
use Rattle.running.proofs.CellWords.{cell-word, cells-minus, cells-none, cells-most}

-- a meter that waits in a category, and one that does not
module _ (category registration reading : ℕ) where
  record Waiting : Type 0 where
    none : eqb reading no_reading ≡ true
    on : eqb (status_of registration) energised ≡ true
    own : eqb (category_of registration) category ≡ true

  waiting : waits_in category registration reading ≡ true → Waiting
  waiting h =
      let a = (and-eq-true_iff (eqb reading no_reading && eqb (status_of registration) energised) (eqb (category_of registration) category)).0 h in
      let b = (and-eq-true_iff (eqb reading no_reading) (eqb (status_of registration) energised)).0 a.0 in
      record { none = b.0; on = b.1; own = a.1 }

  module _ (h : waits_in category registration reading ≡ true) where
    waits-source : source_of registration reading ≡ Defaulted
    unfolding source_of
    waits-source = rw ((waiting h).on, (waiting h).none)

    waits-class : consumption_class registration reading ≡ class_of 1 registration
    unfolding consumption_class estimate_bit
    waits-class = rw waits-source

    waits-energy : (shapes : List ℕ) → energy_wh shapes registration reading ≡ shape_wh (get_or shapes category shape_missing)
    unfolding energy_wh energy_from
    waits-energy shapes = rw waits-source (ap (λ (c : ℕ). shape_wh (get_or shapes c shape_missing)) (eqb-true (category_of registration) category (waiting h).own))

  -- a defaulted meter waits in its category
  defaulted : source_number (source_of registration reading) ≡ 2 → waits_in category registration reading ≡ eqb (category_of registration) category
  unfolding source_of reading_source
  defaulted e =
      by (eqb reading no_reading) (eqb (status_of registration) energised) (eqb (status_of registration) de_energised && used_de_energised reading) (is_actual (quality_of reading)) e
    where
      by : (none on used actual : Bool)
          → source_number (cond on (cond none Defaulted (cond actual Actual Estimated)) (cond used (cond actual Actual Estimated) Idle)) ≡ 2
          → (none && on && eqb (category_of registration) category) ≡ eqb (category_of registration) category
      by true true used actual e = refl
      by none false true true e = absurd (omega arith)
      by none false true false e = absurd (omega arith)
      by none false false actual e = absurd (omega arith)
      by false true used true e = absurd (omega arith)
      by false true used false e = absurd (omega arith)

  kept-energy : waits_in category registration reading ≡ false → (shapes : List ℕ) (wh : ℕ) → energy_wh (set shapes category wh) registration reading ≡ energy_wh shapes registration reading
  unfolding energy_wh energy_from
  kept-energy h shapes wh = by (source_of registration reading) (λ e. sym (defaulted e) ∙ h)
    where
      by : (x : Source) → (source_number x ≡ 2 → eqb (category_of registration) category ≡ false)
          → energy_from (set shapes category wh) registration reading x ≡ energy_from shapes registration reading x
      by Actual other = refl
      by Estimated other = refl
      by Defaulted other =
          ap shape_wh (get_or-set_other shapes category (category_of registration) wh shape_missing (λ e. eqb-false (category_of registration) category (other refl) e))
      by Idle other = refl

pub rows_words : (rows : List Row) → list_all is_row rows ≡ true → Each Words rows
rows_words [] h = no-entry
rows_words (r ∷ rows) h =
    let k = (and-eq-true_iff (is_row r) (list_all is_row rows)).0 h in
    entry (row_words r k.0) (rows_words rows k.1)

no_difference : (x : ℤ) → x -ℤ x ≡ pos 0
no_difference x = omega (linear, minus x x)

module _ (shapes : List ℕ) (formed : list_all is_shape shapes ≡ true) (category wh : ℕ) (in-range : category < length shapes) where
  -- how many Wh the shape gets more
  abbrev more : ℤ
  more = pos (shape_wh wh) -ℤ pos (shape_wh (get_or shapes category shape_missing))

  row-change : (k : ℕ) → k < cell_words → (r : Row) → Words r
      → word_in (set shapes category wh) k r.registration r.reading -ℤ word_in shapes k r.registration r.reading ≡ shape_gives category more k r.registration r.reading
  unfolding shape_gives
  row-change k h r words =
      let registration = r.registration in
      let reading = r.reading in
      let class = (row-bounds shapes formed r words).class in
      let at = classes * unit_of registration + consumption_class registration reading in
      let after = energy_wh (set shapes category wh) registration reading in
      let before = energy_wh shapes registration reading in
      rw (cell-word (set shapes category wh) registration reading class k h, cell-word shapes registration reading class k h)
      (cells-minus at registration k (pos after) (pos before)
      ∙ by-test (waits_in category registration reading)
      (λ t.
      rw (t, waits-energy category registration reading t (set shapes category wh), waits-energy category registration reading t shapes, get_or-set_same shapes category wh shape_missing in-range, waits-class category registration reading t))
      (λ t.
      rw (t, kept-energy category registration reading t shapes wh, no_difference (pos before)) (cells-none at registration k)))

  pub cells-change : (k : ℕ) → k < cell_words → (meters : List Row) → list_all is_row meters ≡ true → shape_change shapes category wh meters k ≡ shape_sum category more meters k
  unfolding sum_in shape_sum
  cells-change k h meters each =
      sym (sum-over-minus (word_in (set shapes category wh) k) (word_in shapes k) meters)
      ∙ sum-over-same (λ registration reading. word_in (set shapes category wh) k registration reading -ℤ word_in shapes k registration reading) (shape_gives category more k) (row-change k h) (rows_words meters each)

-- counts and the numbers of waiting meters do not depend on shapes
number-kept : (shapes others : List ℕ) (k : ℕ) → cell_words ≤ k → word_in others k ≡ word_in shapes k
unfolding word_in
number-kept shapes others k h = fun_ext (λ registration. fun_ext (λ reading. rw (le-ltb k cell_words h)))

pub numbers-kept : (shapes : List ℕ) (category wh : ℕ) (k : ℕ) → cell_words ≤ k → (meters : List Row) → shape_change shapes category wh meters k ≡ pos 0
unfolding sum_in
numbers-kept shapes category wh k h meters = rw (number-kept shapes (set shapes category wh) k h) (no_difference (sum_in shapes meters k))

-- one meter more
module _ (category : ℕ) (wh : ℤ) (meters : List Row) (r : Row) (k : ℕ) where
  abbrev gives : ℤ
  gives = cells_give (waiting_cell r.registration) r.registration wh k

  sum_more : shape_sum category wh (meters ++ (r ∷ [])) k ≡ shape_sum category wh meters k +ℤ cond (waits_in category r.registration r.reading) gives (pos 0)
  unfolding shape_sum shape_gives
  sum_more = sum-over-last (shape_gives category wh k) meters r

  pub sum-waits : waits_in category r.registration r.reading ≡ true → shape_sum category wh meters k +ℤ gives ≡ shape_sum category wh (meters ++ (r ∷ [])) k
  sum-waits t = sym (rw t at sum_more)

  pub sum-passes : waits_in category r.registration r.reading ≡ false → shape_sum category wh meters k ≡ shape_sum category wh (meters ++ (r ∷ [])) k
  sum-passes t = sym (+ℤ_idr (shape_sum category wh meters k)) ∙ sym (rw t at sum_more)

gives-most : (category : ℕ) (wh : ℤ) (k : ℕ) → nat_abs wh ≤ 10000000 → (r : Row) → Words r → nat_abs (shape_gives category wh k r.registration r.reading) ≤ 20000000000
unfolding shape_gives
gives-most category wh k h r words = by (waits_in category r.registration r.reading)
  where
    by : (t : Bool) → nat_abs (cond t (cells_give (waiting_cell r.registration) r.registration wh k) (pos 0)) ≤ 20000000000
    by true = cells-most (waiting_cell r.registration) r.registration k wh (well-formed-bounds r.registration words.registration-formed).llf-most h
    by false = omega arith

pub shape-sum-most : (category : ℕ) (wh : ℤ) (k : ℕ) → nat_abs wh ≤ 10000000 → {meters : List Row} → Each Words meters → nat_abs (shape_sum category wh meters k) ≤ length meters * 20000000000
unfolding shape_sum
shape-sum-most category wh k h each = sum-over-most (shape_gives category wh k) 20000000000 (gives-most category wh k h) each
