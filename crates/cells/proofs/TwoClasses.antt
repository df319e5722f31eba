-- The two classes of a meter: that of its consumption, and that of its losses after it.
use Prim.Native.Nat.{ℕ, ◌+◌, ◌-◌, ◌%◌}
use mathlib.Core.Path.{◌≡◌, refl}
use mathlib.Core.Bool.{Bool, true, false, ◌&&◌, cond}
use native.Mathlib.Omega.{arith}
use borrow.Author.Tests.{eqb-true, eqb-false, eq-eqb, ne_eqb}
use lib.Dec.{eqb}
use lib.IntN.{ℤ, pos, ◌+ℤ◌, +ℤ_idl, +ℤ_idr}
use Rattle.words.proofs.Tests.{same_test}
use Rattle.cells.specs.Cells.{is_loss_class}

-- the class after k is j exactly if k is the class before j
class-after : (k j : ℕ) → j % 2 ≡ 1 → eqb (k + 1) j ≡ eqb k (j - 1)
class-after k j odd =
    same_test (eqb (k + 1) j) (eqb k (j - 1))
    (λ t. eq-eqb k (j - 1) (omega (arith, eqb-true (k + 1) j t)))
    (λ t. eq-eqb (k + 1) j (omega (arith, eqb-true k (j - 1) t)))

-- an even class k and the class k + 1 after it: at any class j, by whether j is odd
pub two-classes : (here : Bool) (k j : ℕ) (e l : ℤ) → k % 2 ≡ 0 → cond (here && eqb k j) e (pos 0) +ℤ cond (here && eqb (k + 1) j) l (pos 0) ≡ cond (is_loss_class j) (cond (here && eqb k (j - 1)) l (pos 0)) (cond (here && eqb k j) e (pos 0))
two-classes false k j e l h = none (is_loss_class j)
  where
    none : (t : Bool) → pos 0 ≡ cond t (pos 0) (pos 0)
    none true = refl
    none false = refl
two-classes true k j e l h = by (is_loss_class j) (eqb-true (j % 2) 1) (eqb-false (j % 2) 1)
  where
    by : (loss : Bool) → (loss ≡ true → j % 2 ≡ 1) → (loss ≡ false → j % 2 ≡ 1 → ⊥) → cond (eqb k j) e (pos 0) +ℤ cond (eqb (k + 1) j) l (pos 0) ≡ cond loss (cond (eqb k (j - 1)) l (pos 0)) (cond (eqb k j) e (pos 0))
    by true y n =
        let odd : j % 2 ≡ 1 = y refl in
        rw (ne_eqb k j (λ q. omega arith), class-after k j odd) (+ℤ_idl _)
    by false y n =
        rw (ne_eqb (k + 1) j (λ q. n refl (omega arith))) (+ℤ_idr _)
