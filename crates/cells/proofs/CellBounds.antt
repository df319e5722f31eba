-- How large cells can be: each meter is in one consumption cell and in the loss cell of the same class, so that all cells together hold no more than the meters do.
use Prim.Native.Nat.{ℕ, suc, ◌+◌, ◌*◌, ◌-◌, ◌≤◌}
use mathlib.Core.Path.{◌≡◌, refl}
use mathlib.Core.Bool.{Bool, true, false, ◌&&◌, cond}
use mathlib.Core.List.{List, [], ◌∷◌}
use native.Mathlib.Omega.{arith}
use native.Mathlib.Nat.{le_refl}
use lib.Dec.{eqb}
use lib.ListN.{length}
use lib.IntN.{ℤ, pos, nat_abs}
use borrow.Author.Tests.{eqb-true, eq-eqb}
use Rattle.integers.specs.Sum.{sum}
use Rattle.integers.proofs.Size.{size-plus}
use Rattle.words.specs.Registration.{unit_of}
use Rattle.book.specs.Rows.{Row}
use Rattle.cells.specs.Energy.{energy_wh}
use Rattle.cells.specs.Cells.{consumption_class, is_loss_class, in_cell, loss_thousandths, consumption_cell, loss_cell, energy_in, loss_in, sum_over}
use Rattle.cells.proofs.Each.{Each, no-entry, entry}
use Rattle.cells.proofs.RowBounds.{RowBounds}
use Rattle.cells.proofs.Totals.{total, total-plus, total_mono, total-const, only_at, total-only}

-- a cell in thousandths of a Wh, before it is rounded
abbrev pub thousandths : List ℕ → List Row → ℕ → ℕ → ℕ
thousandths shapes meters unit class =
    cond (is_loss_class class) (nat_abs (loss_cell shapes meters unit (class - 1))) (1000 * nat_abs (consumption_cell shapes meters unit class))

-- what a meter of unit u and class k has, by cell: its losses in the class after that of its consumption
abbrev own : ℕ → ℕ → ℕ → ℕ → ℕ → ℕ → ℕ
own u k loss energy unit class = only_at u (only_at (suc k) loss class + only_at k energy class) unit

module _ (registration reading : ℕ) (amount : ℤ) (unit class : ℕ) where
  abbrev k : ℕ
  k = consumption_class registration reading

  own-loss : is_loss_class class ≡ true → (energy : ℕ) → nat_abs (in_cell unit (class - 1) registration reading amount) ≤ own (unit_of registration) k (nat_abs amount) energy unit class
  unfolding in_cell only_at
  own-loss odd energy = by (eqb (unit_of registration) unit) (eqb k (class - 1)) refl
    where
      by : (s t : Bool) → eqb k (class - 1) ≡ t
          → nat_abs (cond (s && t) amount (pos 0)) ≤ cond s (cond (eqb (suc k) class) (nat_abs amount) 0 + cond (eqb k class) energy 0) 0
      by true true e = rw (eq-eqb (suc k) class (omega (arith, eqb-true))) (omega arith)
      by true false e = omega arith
      by false true e = omega arith
      by false false e = omega arith

  own-energy : (loss : ℕ) → 1000 * nat_abs (in_cell unit class registration reading amount) ≤ own (unit_of registration) k loss (1000 * nat_abs amount) unit class
  unfolding in_cell only_at
  own-energy loss = by (eqb (unit_of registration) unit) (eqb k class)
    where
      by : (s t : Bool) → 1000 * nat_abs (cond (s && t) amount (pos 0)) ≤ cond s (cond (eqb (suc k) class) loss 0 + cond t (1000 * nat_abs amount) 0) 0
      by true true = omega arith
      by true false = omega arith
      by false true = omega arith
      by false false = omega arith

-- over all classes: at its own unit what it has, and at another nothing
own-classes : (u k loss energy unit c n : ℕ) → total (own u k loss energy unit) c n ≤ only_at u (loss + energy) unit
unfolding only_at
own-classes u k loss energy unit c n = by (eqb u unit)
  where
    by : (t : Bool) → total (λ class. cond t (only_at (suc k) loss class + only_at k energy class) 0) c n ≤ cond t (loss + energy) 0
    by true =
        omega (
          arith,
          total-plus (λ class. only_at (suc k) loss class + only_at k energy class) (only_at (suc k) loss) (only_at k energy) (λ class. le_refl _) c n,
          total-only (suc k) loss c n,
          total-only k energy c n,
        )
    by false = omega (arith, total-const 0 c n)

module _ (shapes : List ℕ) where
  no-meter : (unit class : ℕ) → thousandths shapes [] unit class ≤ 0
  unfolding loss_cell consumption_cell sum_over sum
  no-meter unit class = by (is_loss_class class)
    where
      by : (t : Bool) → cond t (nat_abs (loss_cell shapes [] unit (class - 1))) (1000 * nat_abs (consumption_cell shapes [] unit class)) ≤ 0
      by true = omega arith
      by false = omega arith

  -- one meter more adds what it has
  module _ (r : Row) where
    abbrev energy : ℕ
    energy = energy_wh shapes r.registration r.reading

    abbrev loss : ℤ
    loss = loss_thousandths shapes r.registration r.reading

    abbrev had : ℕ → ℕ → ℕ
    had = own (unit_of r.registration) (consumption_class r.registration r.reading) (nat_abs loss) (1000 * energy)

    with-meter : (meters : List Row) (unit class : ℕ) → thousandths shapes (r ∷ meters) unit class ≤ had unit class + thousandths shapes meters unit class
    unfolding loss_cell consumption_cell sum_over sum
    with-meter meters unit class = by (is_loss_class class) refl
      where
        by : (t : Bool) → is_loss_class class ≡ t
            → cond t (nat_abs (loss_cell shapes (r ∷ meters) unit (class - 1))) (1000 * nat_abs (consumption_cell shapes (r ∷ meters) unit class))
            ≤ had unit class + cond t (nat_abs (loss_cell shapes meters unit (class - 1))) (1000 * nat_abs (consumption_cell shapes meters unit class))
        by true e =
            omega (
              arith,
              size-plus (loss_in shapes unit (class - 1) r.registration r.reading) (loss_cell shapes meters unit (class - 1)),
              own-loss r.registration r.reading loss unit class e (1000 * energy),
            )
        by false e =
            omega (
              arith,
              size-plus (energy_in shapes unit class r.registration r.reading) (consumption_cell shapes meters unit class),
              own-energy r.registration r.reading (pos energy) unit class (nat_abs loss),
            )

  -- so that over any range of units and of classes the cells hold at most twice 10,000,000 Wh a meter, before rounding
  pub thousandths-total : {meters : List Row} → Each (RowBounds shapes) meters → (j m c n : ℕ)
      → total (λ unit. total (thousandths shapes meters unit) c n) j m ≤ length meters * 20000000000
  thousandths-total no-entry j m c n =
      let rows : (unit : ℕ) → total (thousandths shapes [] unit) c n ≤ 0 =
      λ unit. omega (arith, total_mono (thousandths shapes [] unit) (λ class. 0) (no-meter unit) c n, total-const 0 c n) in
      omega (arith, total_mono (λ unit. total (thousandths shapes [] unit) c n) (λ unit. 0) rows j m, total-const 0 j m)
  thousandths-total (entry {x = r} {xs = meters} b e) j m c n =
      let u = unit_of r.registration in
      let k = consumption_class r.registration r.reading in
      let all = nat_abs (loss r) + 1000 * energy r in
      let rest : ℕ → ℕ = λ unit. total (thousandths shapes meters unit) c n in
      let step : (unit : ℕ) → total (thousandths shapes (r ∷ meters) unit) c n ≤ only_at u all unit + rest unit =
      λ unit. omega (
        arith,
        total-plus (thousandths shapes (r ∷ meters) unit) (had r unit) (thousandths shapes meters unit) (with-meter r meters unit) c n,
        own-classes u k (nat_abs (loss r)) (1000 * energy r) unit c n,
      ) in
      omega (
        arith,
        total-plus (λ unit. total (thousandths shapes (r ∷ meters) unit) c n) (only_at u all) rest step j m,
        total-only u all j m,
        thousandths-total e j m c n,
        b.energy,
        b.loss,
      )
