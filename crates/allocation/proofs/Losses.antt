-- What rounding drops from the loss cells of a unit: at most 6,000 thousandths of a Wh, and with the rounded losses its meters' exact losses.
use Prim.Native.Nat.{ℕ, suc, ◌-◌, ◌/◌, ◌%◌, ◌≤◌}
use mathlib.Core.Path.{◌≡◌, refl, sym, ap, ◌∙◌}
use mathlib.Core.Bool.{Bool, true, false, ◌&&◌, cond, and-false}
use mathlib.Core.List.{List, map}
use native.Mathlib.Omega.{arith}
use lib.Dec.{eqb}
use lib.IntN.{ℤ, pos, neg_ℤ, nat_abs, ◌+ℤ◌, ◌-ℤ◌, ◌*ℤ◌, neg_ℤ-+ℤ}
use borrow.Author.Tests.{eqb-true, eqb-false, eq-eqb, ne_eqb}
use Rattle.integers.specs.Rounding.{nearest_wh, dropped_thousandths}
use Rattle.integers.proofs.Nearest.{nearest-half}
use Rattle.integers.proofs.Sizes.{size-sum}
use Rattle.integers.proofs.Ring.{plus-rest, times-neg}
use Rattle.words.specs.Registration.{direction_of, unit_of}
use Rattle.words.proofs.Tests.{by-test}
use Rattle.book.specs.Limits.{classes}
use Rattle.book.specs.Rows.{Row}
use Rattle.cells.specs.Cells.{units, consumption_class, is_loss_class, in_cell, loss_thousandths, loss_in, sum_over, loss_cell, cell, count_from, sum_below}
use Rattle.cells.proofs.Each.{Each}
use Rattle.cells.proofs.Counting.{counted-length, counted-at}
use Rattle.cells.proofs.SumOver.{sum-over-through}
use Rattle.cells.proofs.SumBelow.{sum-below-same, sum-below-plus, sum-below-times, sum-below-only, sum-below-over, sum-over-same}
use Rattle.cells.proofs.RowBounds.{RowBounds, class-even, class-direction}
use Rattle.cells.proofs.Totals.{total, total_mono, sizes-total}
use Rattle.correction.specs.Correction.{by_direction, over_losses}
use Rattle.correction.proofs.RunningSums.{direction-size}
use Rattle.allocation.specs.Losses.{unit_droppings, all_droppings, rounded_losses, exact_loss, exact_losses, LossesReconciled}

-- what an amount of a class adds to a sum over losses, by whether it is a loss class and whether it is one of import
abbrev added : Bool → Bool → ℤ → ℤ
added loss imported x = cond loss (cond imported x (neg_ℤ x)) (pos 0)

abbrev added_at : ℕ → ℤ → ℤ
added_at class = added (is_loss_class class) (eqb (class / 4 % 2) 0)

-- this keeps sums
added_none : (loss imported : Bool) → added loss imported (pos 0) ≡ pos 0
added_none true true = refl
added_none true false = refl
added_none false imported = refl

added-plus : (loss imported : Bool) (a b : ℤ) → added loss imported (a +ℤ b) ≡ added loss imported a +ℤ added loss imported b
added-plus true true a b = refl
added-plus true false a b = neg_ℤ-+ℤ a b
added-plus false imported a b = refl

-- the Wh that thousandths are rounded to, in thousandths, and the thousandths dropped are together those there were
rejoined : (loss imported : Bool) (t r : ℤ) → (loss ≡ true → r ≡ nearest_wh t)
    → pos 1000 *ℤ added loss imported r +ℤ added loss imported (dropped_thousandths t) ≡ added loss imported t
unfolding dropped_thousandths
rejoined true true t r e = rw (e refl) (plus-rest (pos 1000 *ℤ nearest_wh t) t)
rejoined true false t r e =
    let whole = pos 1000 *ℤ nearest_wh t in
    rw (e refl, times-neg (pos 1000) (nearest_wh t)) (sym (neg_ℤ-+ℤ whole (t -ℤ whole)) ∙ ap neg_ℤ (plus-rest whole t))
rejoined false imported t r e = refl

-- at most 500 are dropped of a loss class, and none of another
dropped-most : (class : ℕ) (loss : Bool) (t : ℤ) → nat_abs (cond loss (by_direction class (dropped_thousandths t)) (pos 0)) ≤ cond loss 500 0
dropped-most class true t = rw (direction-size class (dropped_thousandths t)) (nearest-half t)
dropped-most class false t = omega arith

-- over the classes of a unit: t are its losses in thousandths
module _ (t : ℕ → ℤ) where
  pub losses-joined : (r : ℕ → ℤ) → ((class : ℕ) → is_loss_class class ≡ true → r class ≡ nearest_wh (t class))
      → pos 1000 *ℤ over_losses r +ℤ over_losses (λ class. dropped_thousandths (t class)) ≡ over_losses t
  losses-joined r rounded =
      rw (← sum-below-times classes (pos 1000) (λ class. added_at class (r class)))
      (sym (sum-below-plus classes _ _)
      ∙ sum-below-same classes _ _ (λ class h. rejoined (is_loss_class class) (eqb (class / 4 % 2) 0) (t class) (r class) (rounded class)))

  -- 500 in each of 12 classes
  pub droppings-bounded : nat_abs (over_losses (λ class. dropped_thousandths (t class))) ≤ 6000
  unfolding total
  droppings-bounded =
      let f : ℕ → ℤ = λ class. added_at class (dropped_thousandths (t class)) in
      let most : (class : ℕ) → nat_abs (f class) ≤ cond (is_loss_class class) 500 0 = λ class. dropped-most class (is_loss_class class) (t class) in
      omega (
        arith,
        size-sum (map f (count_from 0 classes)),
        sizes-total f 0 classes,
        total_mono (λ class. nat_abs (f class)) (λ class. cond (is_loss_class class) 500 0) most 0 classes,
      )

-- losses of a meter with consumption of class k and direction d are added at the class after k and no other
added-once : (own : Bool) (k class d : ℕ) (x : ℤ) → k % 2 ≡ 0 → k / 4 % 2 ≡ d
    → added_at class (cond (own && eqb k (class - 1)) x (pos 0)) ≡ cond (eqb (suc k) class) (cond own (cond (eqb d 0) x (neg_ℤ x)) (pos 0)) (pos 0)
added-once own k class d x even direction =
    let odd : suc k % 2 ≡ 1 = omega arith in
    let quarter : suc k / 4 ≡ k / 4 = omega arith in
    by-test (eqb (suc k) class)
    (λ here. rw (← eqb-true (suc k) class here, odd, quarter, direction, eq-eqb k (suc k - 1) (omega arith), eq-eqb (suc k) (suc k) refl) (by own (eqb d 0)))
    (λ other.
    by-test (is_loss_class class)
    (λ loss.
    let apart = ne_eqb k (class - 1) (λ e. eqb-false (suc k) class other (omega (arith, eqb-true (class % 2) 1 loss))) in
    rw (other, loss, apart, and-false own) (added_none true (eqb (class / 4 % 2) 0)))
    (λ used. rw (other, used)))
  where
    by : (own imported : Bool) → added true imported (cond (own && true) x (pos 0)) ≡ cond own (cond imported x (neg_ℤ x)) (pos 0)
    by true imported = refl
    by false imported = added_none true imported

module _ (shapes : List ℕ) (unit : ℕ) where
  -- the loss cell of a loss class, in thousandths
  abbrev loss_of : List Row → ℕ → ℤ
  loss_of meters class = loss_cell shapes meters unit (class - 1)

  loss-rounded : (meters : List Row) (class : ℕ) → is_loss_class class ≡ true → cell shapes meters unit class ≡ nearest_wh (loss_of meters class)
  unfolding cell
  loss-rounded meters class h = rw h

  -- what it adds, as a sum over meters
  class-over : (meters : List Row) (class : ℕ) → added_at class (loss_of meters class) ≡ sum_over (λ registration reading. added_at class (loss_in shapes unit (class - 1) registration reading)) meters
  unfolding loss_cell
  class-over meters class =
      let loss = is_loss_class class in
      let imported = eqb (class / 4 % 2) 0 in
      sum-over-through (loss_in shapes unit (class - 1)) (added_at class) (added_none loss imported) (added-plus loss imported) meters

  -- over all classes, each meter of the unit gives its exact loss
  loss-once : (r : Row) → RowBounds shapes r
      → sum_below classes (λ class. added_at class (loss_in shapes unit (class - 1) r.registration r.reading)) ≡ exact_loss shapes unit r.registration r.reading
  unfolding in_cell
  loss-once r b =
      let w = r.registration in
      let k = consumption_class w r.reading in
      let x = loss_thousandths shapes w r.reading in
      sum-below-same classes _ _ (λ class h. added-once (eqb (unit_of w) unit) k class (direction_of w) x (class-even w r.reading) (class-direction w r.reading))
      ∙ sum-below-only classes (suc k) (exact_loss shapes unit w r.reading) b.class

  unit-reconciled : {meters : List Row} → Each (RowBounds shapes) meters
      → pos 1000 *ℤ rounded_losses shapes meters unit +ℤ unit_droppings shapes meters unit ≡ exact_losses shapes meters unit
  unfolding rounded_losses unit_droppings exact_losses
  unit-reconciled {meters = meters} each =
      losses-joined (loss_of meters) (cell shapes meters unit) (loss-rounded meters)
      ∙ sum-below-same classes _ _ (λ class h. class-over meters class)
      ∙ sum-below-over classes (λ class registration reading. added_at class (loss_in shapes unit (class - 1) registration reading)) meters
      ∙ sum-over-same _ (exact_loss shapes unit) loss-once each

  unit-bounded : (meters : List Row) → nat_abs (unit_droppings shapes meters unit) ≤ 6000
  unfolding unit_droppings
  unit-bounded meters = droppings-bounded (loss_of meters)

-- the droppings of all units are as promised
pub losses-reconciled : (shapes : List ℕ) {meters : List Row} → Each (RowBounds shapes) meters → LossesReconciled shapes meters (all_droppings shapes meters)
unfolding all_droppings
losses-reconciled shapes {meters = meters} each =
    let f = unit_droppings shapes meters in
    record {
      long = counted-length f units;
      reconciled = λ unit h. rw (counted-at f units unit (pos 0) h) (unit-reconciled shapes unit each);
      bounded = λ unit h. rw (counted-at f units unit (pos 0) h) (unit-bounded shapes unit meters);
    }
