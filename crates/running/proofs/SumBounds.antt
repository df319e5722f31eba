-- How large the words of a slice can be that are sums over the rows: the sizes of the 768 cells added up, and each of the 68 numbers.
use Prim.Native.Nat.{ℕ, zero, suc, ◌+◌, ◌*◌, ◌-◌, ◌/◌, ◌%◌, ◌≤◌, ◌<◌}
use mathlib.Core.Path.{◌≡◌, refl, sym, ap, ap₂, ◌∙◌}
use mathlib.Core.Bool.{Bool, true, false, cond}
use mathlib.Core.List.{List, [], ◌∷◌, map}
use native.Mathlib.Omega.{arith}
use native.Mathlib.Nat.{le_of_eq}
use borrow.Author.Tests.{ltb-true, ltb-false}
use lib.Dec.{T, eqb, ltb}
use lib.IntN.{ℤ, pos, nat_abs, ◌*ℤ◌}
use lib.ListN.{length}
use lib.Signed.{le_z, ◌≤ℤ◌, le_z_yes}
use Rattle.integers.specs.Sum.{sum, sizes}
use Rattle.integers.proofs.Linear.{linear, plus}
use Rattle.integers.proofs.Size.{size-times}
use Rattle.words.specs.Registration.{category_of}
use Rattle.words.proofs.Tests.{by-test}
use Rattle.book.specs.Limits.{classes, meters_most}
use Rattle.book.specs.Rows.{Row}
use Rattle.cells.specs.declared.Source.TheVariants.{Defaulted}
use Rattle.cells.specs.Energy.{source_number, source_of}
use Rattle.cells.specs.Cells.{is_loss_class, consumption_cell, loss_cell, count_from, units, sum_over}
use Rattle.cells.proofs.Each.{Each}
use Rattle.cells.proofs.Counting.{counted_same}
use Rattle.cells.proofs.RowBounds.{RowBounds}
use Rattle.cells.proofs.Totals.{total, total_mono, sizes-total}
use Rattle.cells.proofs.CellBounds.{thousandths, thousandths-total}
use Rattle.running.specs.Words.{cell_words, waiting_words, count_in, waiting_in, sum_in}
use Rattle.running.specs.Running.{number_most, is_number}
use Rattle.running.proofs.SumIn.{cell-word, count_word, waiting-word}

-- a sum over a range: none of it, its first number and the others, two parts
total-none : (f : ℕ → ℕ) (j : ℕ) → total f j 0 ≡ 0
unfolding total
total-none f j = refl

total-next : (f : ℕ → ℕ) (j n : ℕ) → total f j (suc n) ≡ f j + total f (suc j) n
unfolding total
total-next f j n = refl

total-parts : (f : ℕ → ℕ) (j m n : ℕ) → total f j (m + n) ≡ total f j m + total f (j + m) n
unfolding total
total-parts f j zero n = let a : 0 + n ≡ n = omega arith in let b : j + 0 ≡ j = omega arith in rw (a, b) (omega arith)
total-parts f j (suc m) n =
    let a : suc m + n ≡ suc (m + n) = omega arith in
    let b : j + suc m ≡ suc j + m = omega arith in
    rw (a, b) (omega (arith, total-parts f (suc j) m n))

-- a sum over words that stand by unit and then class
module _ (f : ℕ → ℕ → ℕ) where
  abbrev by_word : ℕ → ℕ
  by_word k = f (k / classes) (k % classes)

  one_unit : (unit class n : ℕ) → class + n ≤ classes → total by_word (classes * unit + class) n ≡ total (f unit) class n
  unfolding total
  one_unit unit class zero h = refl
  one_unit unit class (suc n) h =
      let u : (classes * unit + class) / classes ≡ unit = omega arith in
      let c : (classes * unit + class) % classes ≡ class = omega arith in
      let e : suc (classes * unit + class) ≡ classes * unit + suc class = omega arith in
      ap₂ (λ (a s : ℕ). a + s) (ap₂ f u c) (ap (λ (k : ℕ). total by_word k n) e ∙ one_unit unit (suc class) n (omega arith))

  total-by-unit : (unit m : ℕ) → total by_word (classes * unit) (classes * m) ≡ total (λ u. total (f u) 0 classes) unit m
  total-by-unit unit zero = total-none by_word (classes * unit) ∙ sym (total-none (λ u. total (f u) 0 classes) unit)
  total-by-unit unit (suc m) =
      let n : classes * suc m ≡ classes + classes * m = omega arith in
      let here : classes * unit ≡ classes * unit + 0 = omega arith in
      let next : classes * unit + classes ≡ classes * suc unit = omega arith in
      ap (total by_word (classes * unit)) n
      ∙ total-parts by_word (classes * unit) classes (classes * m)
      ∙ ap₂ (λ (a s : ℕ). a + s)
      (ap (λ (k : ℕ). total by_word k classes) here ∙ one_unit unit 0 classes (omega arith))
      (ap (λ (k : ℕ). total by_word k (classes * m)) next ∙ total-by-unit (suc unit) m)
      ∙ sym (total-next (λ u. total (f u) 0 classes) unit m)

module _ (shapes : List ℕ) (meters : List Row) where
  -- a word of the cells, by its unit and its class
  abbrev cell_at : ℕ → ℤ
  cell_at k = cond (is_loss_class (k % classes)) (loss_cell shapes meters (k / classes) (k % classes - 1)) (pos 1000 *ℤ consumption_cell shapes meters (k / classes) (k % classes))

  cell-is : (k : ℕ) → k < cell_words → sum_in shapes meters k ≡ cell_at k
  cell-is k h =
      let e : k ≡ classes * (k / classes) + k % classes = omega arith in
      ap (sum_in shapes meters) e ∙ cell-word shapes meters (k / classes) (k % classes) (omega arith) (omega arith)

  -- it has the size of the cell in thousandths of a Wh
  cell-size : (k : ℕ) → nat_abs (cell_at k) ≡ thousandths shapes meters (k / classes) (k % classes)
  cell-size k = by (is_loss_class (k % classes)) (loss_cell shapes meters (k / classes) (k % classes - 1)) (consumption_cell shapes meters (k / classes) (k % classes))
    where
      by : (t : Bool) (l c : ℤ) → nat_abs (cond t l (pos 1000 *ℤ c)) ≡ cond t (nat_abs l) (1000 * nat_abs c)
      by true l c = refl
      by false l c = size-times (pos 1000) c

  -- each meter is in one cell of consumption and in the loss cell after it
  pub cells-most : Each (RowBounds shapes) meters → sizes (map (sum_in shapes meters) (count_from 0 cell_words)) ≤ length meters * 20000000000
  cells-most bounds =
      omega (
        arith,
        ap sizes (counted_same (sum_in shapes meters) cell_at cell_words (pos 0) cell-is),
        sizes-total cell_at 0 cell_words,
        total_mono (λ k. nat_abs (cell_at k)) (λ k. thousandths shapes meters (k / classes) (k % classes)) (λ k. le_of_eq (cell-size k)) 0 cell_words,
        total-by-unit (thousandths shapes meters) 0 units,
        thousandths-total shapes bounds 0 units 0 classes,
      )

-- numbers of which each meter adds 0 or 1
record Counting (f : ℕ → ℕ → ℤ) : Type 0 where
  pub least : (registration reading : ℕ) → pos 0 ≤ℤ f registration reading
  pub most : (registration reading : ℕ) → f registration reading ≤ℤ pos 1

-- one where a test holds, 0 where it fails
one-counts : (t : Bool) → (pos 0 ≤ℤ cond t (pos 1) (pos 0)) × (cond t (pos 1) (pos 0) ≤ℤ pos 1)
one-counts true = (le_z_yes tt, le_z_yes tt)
one-counts false = (le_z_yes tt, le_z_yes tt)

count-counts : (number : ℕ) → Counting (count_in number)
unfolding count_in
count-counts number =
    record {
      least = λ registration reading. (one-counts (eqb (source_number (source_of registration reading)) number)).0;
      most = λ registration reading. (one-counts (eqb (source_number (source_of registration reading)) number)).1;
    }

waiting-counts : (category : ℕ) → Counting (waiting_in category)
unfolding waiting_in
waiting-counts category =
    record {
      least = λ registration reading. (by (eqb (category_of registration) category) registration reading).0;
      most = λ registration reading. (by (eqb (category_of registration) category) registration reading).1;
    }
  where
    by : (t : Bool) (registration reading : ℕ)
        → (pos 0 ≤ℤ cond t (count_in (source_number Defaulted) registration reading) (pos 0))
        × (cond t (count_in (source_number Defaulted) registration reading) (pos 0) ≤ℤ pos 1)
    by true registration reading = ((count-counts (source_number Defaulted)).least registration reading, (count-counts (source_number Defaulted)).most registration reading)
    by false registration reading = (le_z_yes tt, le_z_yes tt)

le_test : (a b : ℤ) → a ≤ℤ b → le_z a b ≡ true
le_test a b h = by (le_z a b) h.le
  where
    by : (t : Bool) → T t → t ≡ true
    by true p = refl
    by false p = absurd p

-- so that the number is at most that of the meters
counting-between : {f : ℕ → ℕ → ℤ} → Counting f → (meters : List Row) → (pos 0 ≤ℤ sum_over f meters) × (sum_over f meters ≤ℤ pos (length meters))
unfolding sum_over sum
counting-between c [] = (le_z_yes tt, le_z_yes tt)
counting-between {f} c (r ∷ meters) =
    let x = f r.registration r.reading in
    let rest = counting-between c meters in
    (omega (linear, c.least r.registration r.reading, rest.0, plus x (sum_over f meters)), omega (linear, c.most r.registration r.reading, rest.1, plus x (sum_over f meters)))

-- "a count or waiting number": each word after the cells
pub number-within : (shapes : List ℕ) (meters : List Row) → length meters ≤ meters_most → (k : ℕ) → cell_words ≤ k → is_number (sum_in shapes meters k) ≡ true
number-within shapes meters few k h =
    by-test (ltb k waiting_words)
    (λ t.
    let e : k ≡ cell_words + (k - cell_words) = omega arith in
    let few-counts : k - cell_words < 4 = omega (arith, ltb-true k waiting_words t) in
    ap is_number (ap (sum_in shapes meters) e ∙ count_word shapes meters (k - cell_words) few-counts) ∙ number (count-counts (k - cell_words)))
    (λ t.
    let e : k ≡ waiting_words + (k - waiting_words) = omega (arith, ltb-false k waiting_words t) in
    ap is_number (ap (sum_in shapes meters) e ∙ waiting-word shapes meters (k - waiting_words)) ∙ number (waiting-counts (k - waiting_words)))
  where
    number : {f : ℕ → ℕ → ℤ} → Counting f → is_number (sum_over f meters) ≡ true
    number {f} c =
        let x = sum_over f meters in
        let between = counting-between c meters in
        let upper : x ≤ℤ number_most = omega (linear, between.1) in
        rw (le_test (pos 0) x between.0, le_test x number_most upper)
