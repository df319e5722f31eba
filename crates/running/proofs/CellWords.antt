-- The words of the cells: what a meter adds to each, as an amount at the word of its consumption and one at the word of its losses.
use Prim.Native.Nat.{ℕ, suc, ◌+◌, ◌*◌, ◌-◌, ◌/◌, ◌%◌, ◌≤◌, ◌<◌}
use mathlib.Core.Path.{◌≡◌, refl, sym, ap, ap₂, ◌∙◌}
use mathlib.Core.Bool.{Bool, true, false, ◌&&◌, cond, and-eq-true_iff}
use mathlib.Core.List.{List}
use native.Mathlib.Omega.{arith}
use borrow.Author.Tests.{eqb-true, eq-eqb, lt-ltb}
use lib.Dec.{eqb}
use lib.IntN.{ℤ, pos, neg_ℤ, nat_abs, ◌+ℤ◌, ◌-ℤ◌, ◌*ℤ◌, *ℤ-zero}
use Rattle.integers.proofs.Ring.{times-plus, times-neg}
use Rattle.integers.proofs.Size.{plus-bound, times-bound}
use Rattle.words.specs.Registration.{unit_of, llf_of}
use Rattle.words.proofs.Tests.{same_test}
use Rattle.book.specs.Limits.{classes}
use Rattle.cells.specs.Energy.{energy_wh}
use Rattle.cells.specs.Cells.{consumption_class, is_loss_class, in_cell, loss_thousandths}
use Rattle.cells.proofs.RowBounds.{class-even, excess-most}
use Rattle.cells.proofs.TwoClasses.{two-classes}
use Rattle.cells.proofs.SumOver.{differences}
use Rattle.running.specs.Words.{cell_words, thousandths_in, word_in}
use Rattle.running.specs.Helpers.{amount_at, cells_give}

-- a word is that of a unit and a class exactly if both are its own
place : (unit class k : ℕ) → class < classes → eqb (classes * unit + class) k ≡ (eqb unit (k / classes) && eqb class (k % classes))
place unit class k h =
    same_test (eqb (classes * unit + class) k) (eqb unit (k / classes) && eqb class (k % classes))
    (λ t.
    let e = eqb-true (classes * unit + class) k t in
    rw (eq-eqb unit (k / classes) (omega arith), eq-eqb class (k % classes) (omega arith)))
    (λ t.
    let p = (and-eq-true_iff (eqb unit (k / classes)) (eqb class (k % classes))).0 t in
    let u = eqb-true unit (k / classes) p.0 in
    let j = eqb-true class (k % classes) p.1 in
    eq-eqb (classes * unit + class) k (omega arith))

thousandfold : (t : Bool) (e : ℤ) → cond t (pos 1000 *ℤ e) (pos 0) ≡ pos 1000 *ℤ cond t e (pos 0)
thousandfold true e = refl
thousandfold false e = refl

module _ (shapes : List ℕ) (registration reading : ℕ) (fits : suc (consumption_class registration reading) < classes) where
  abbrev class : ℕ
  class = consumption_class registration reading

  pub cell-word : (k : ℕ) → k < cell_words
      → word_in shapes k registration reading ≡ cells_give (classes * unit_of registration + class) registration (pos (energy_wh shapes registration reading)) k
  unfolding word_in thousandths_in cells_give amount_at in_cell
  cell-word k h =
      let wh = pos (energy_wh shapes registration reading) in
      let next : classes * unit_of registration + class + 1 ≡ classes * unit_of registration + (class + 1) = omega arith in
      let here = eqb (unit_of registration) (k / classes) in
      let loss = loss_thousandths shapes registration reading in
      rw (lt-ltb k cell_words h, next, place (unit_of registration) class k (omega arith), place (unit_of registration) (class + 1) k (omega arith))
      (sym
      (two-classes here class (k % classes) (pos 1000 *ℤ wh) loss (class-even registration reading)
      ∙ ap (λ z. cond (is_loss_class (k % classes)) (cond (here && eqb class (k % classes - 1)) loss (pos 0)) z) (thousandfold (here && eqb class (k % classes)) wh)))

times-minus : (c a b : ℤ) → c *ℤ (a -ℤ b) ≡ c *ℤ a -ℤ c *ℤ b
times-minus c a b = times-plus c a (neg_ℤ b) ∙ ap (λ z. c *ℤ a +ℤ z) (times-neg c b)

-- the amounts of two energies, and their difference
module _ (at registration k : ℕ) where
  abbrev excess : ℤ
  excess = pos (llf_of registration) -ℤ pos 1000

  pub cells-minus : (a b : ℤ) → cells_give at registration a k -ℤ cells_give at registration b k ≡ cells_give at registration (a -ℤ b) k
  unfolding cells_give amount_at
  cells-minus a b =
      sym (differences (amount_at at (pos 1000 *ℤ a) k) (amount_at at (pos 1000 *ℤ b) k) (amount_at (at + 1) (excess *ℤ a) k) (amount_at (at + 1) (excess *ℤ b) k))
      ∙ ap₂ (λ x y. x +ℤ y) (by (eqb at k) (pos 1000)) (by (eqb (at + 1) k) excess)
    where
      by : (t : Bool) (c : ℤ) → cond t (c *ℤ a) (pos 0) -ℤ cond t (c *ℤ b) (pos 0) ≡ cond t (c *ℤ (a -ℤ b)) (pos 0)
      by true c = sym (times-minus c a b)
      by false c = refl

  -- of no energy
  pub cells-none : cells_give at registration (pos 0) k ≡ pos 0
  unfolding cells_give amount_at
  cells-none = ap₂ (λ x y. x +ℤ y) (by (eqb at k) (pos 1000)) (by (eqb (at + 1) k) excess)
    where
      by : (t : Bool) (c : ℤ) → cond t (c *ℤ pos 0) (pos 0) ≡ pos 0
      by true c = *ℤ-zero c
      by false c = refl

  pub cells-most : (wh : ℤ) → llf_of registration ≤ 2000 → nat_abs wh ≤ 10000000 → nat_abs (cells_give at registration wh k) ≤ 20000000000
  unfolding cells_give amount_at
  cells-most wh l h =
      plus-bound (amount_at at (pos 1000 *ℤ wh) k) (amount_at (at + 1) (excess *ℤ wh) k) (by (eqb at k) (pos 1000) (omega arith)) (by (eqb (at + 1) k) excess (excess-most (llf_of registration) l))
    where
      by : (t : Bool) (c : ℤ) → nat_abs c ≤ 1000 → nat_abs (cond t (c *ℤ wh) (pos 0)) ≤ 10000000000
      by true c b = times-bound c wh b h
      by false c b = omega arith
