-- Sums over the numbers below a bound: term by term, of two sums, times a factor, of zeros, with one term that is not 0, and of sums over meters.
use Prim.Native.Nat.{ℕ, zero, suc, ◌+◌, ◌≤◌, ◌<◌}
use mathlib.Core.Path.{◌≡◌, refl, sym, ap, ap₂, ◌∙◌}
use mathlib.Core.Bool.{Bool, true, false, ◌&&◌, cond}
use mathlib.Core.List.{List, [], ◌∷◌, map}
use native.Mathlib.Omega.{arith}
use lib.Dec.{eqb}
use lib.IntN.{ℤ, pos, ◌+ℤ◌, ◌*ℤ◌, +ℤ_idl, +ℤ_idr, *ℤ-zero}
use borrow.Author.Tests.{eqb-true, eqb-false, ne_eqb}
use Rattle.integers.specs.Sum.{sum}
use Rattle.integers.proofs.Ring.{plus-exchange, times-plus}
use Rattle.words.proofs.Tests.{by-test}
use Rattle.book.specs.Rows.{Row}
use Rattle.cells.specs.Cells.{count_from, sum_below, sum_over}
use Rattle.cells.proofs.Counting.{counted-length, counted-at, counted-list}
use Rattle.cells.proofs.Each.{Each, no-entry, entry}

pub sum-below-same : (n : ℕ) (f g : ℕ → ℤ) → ((i : ℕ) → i < n → f i ≡ g i) → sum_below n f ≡ sum_below n g
sum-below-same n f g same =
    ap sum (counted-list g n (map f (count_from 0 n)) (pos 0) (counted-length f n) (λ i h. counted-at f n i (pos 0) h ∙ same i h))

-- the numbers from k on, n of them
abbrev sum_from : (ℕ → ℤ) → ℕ → ℕ → ℤ
sum_from f k n = sum (map f (count_from k n))

from-plus : (f g : ℕ → ℤ) (k n : ℕ) → sum_from (λ i. f i +ℤ g i) k n ≡ sum_from f k n +ℤ sum_from g k n
unfolding sum count_from
from-plus f g k zero = refl
from-plus f g k (suc n) =
    ap (λ z. (f k +ℤ g k) +ℤ z) (from-plus f g (suc k) n) ∙ plus-exchange (f k) (g k) (sum_from f (suc k) n) (sum_from g (suc k) n)

pub sum-below-plus : (n : ℕ) (f g : ℕ → ℤ) → sum_below n (λ i. f i +ℤ g i) ≡ sum_below n f +ℤ sum_below n g
sum-below-plus n f g = from-plus f g 0 n

from-times : (c : ℤ) (f : ℕ → ℤ) (k n : ℕ) → sum_from (λ i. c *ℤ f i) k n ≡ c *ℤ sum_from f k n
unfolding sum count_from
from-times c f k zero = sym (*ℤ-zero c)
from-times c f k (suc n) = ap (λ z. c *ℤ f k +ℤ z) (from-times c f (suc k) n) ∙ sym (times-plus c (f k) (sum_from f (suc k) n))

pub sum-below-times : (n : ℕ) (c : ℤ) (f : ℕ → ℤ) → sum_below n (λ i. c *ℤ f i) ≡ c *ℤ sum_below n f
sum-below-times n c f = from-times c f 0 n

from-zeros : (k n : ℕ) → sum_from (λ i. pos 0) k n ≡ pos 0
unfolding sum count_from
from-zeros k zero = refl
from-zeros k (suc n) = ap (λ z. pos 0 +ℤ z) (from-zeros (suc k) n)

sum-below-zeros : (n : ℕ) → sum_below n (λ i. pos 0) ≡ pos 0
sum-below-zeros n = from-zeros 0 n

-- one term that is not 0
abbrev only_at : ℕ → ℤ → ℕ → ℤ
only_at m v i = cond (eqb m i) v (pos 0)

from_past : (m : ℕ) (v : ℤ) (k n : ℕ) → m < k → sum_from (only_at m v) k n ≡ pos 0
unfolding sum count_from
from_past m v k zero h = refl
from_past m v k (suc n) h = rw (ne_eqb m k (omega arith)) (ap (λ z. pos 0 +ℤ z) (from_past m v (suc k) n (omega arith)))

from-only : (m : ℕ) (v : ℤ) (k n : ℕ) → k ≤ m → m < k + n → sum_from (only_at m v) k n ≡ v
unfolding sum count_from
from-only m v k zero h l = absurd (omega arith)
from-only m v k (suc n) h l =
    by-test (eqb m k)
    (λ e. rw e (ap (λ z. v +ℤ z) (from_past m v (suc k) n (omega (arith, eqb-true m k e))) ∙ +ℤ_idr v))
    (λ e. rw e (ap (λ z. pos 0 +ℤ z) (from-only m v (suc k) n (omega (arith, eqb-false m k e)) (omega arith)) ∙ +ℤ_idl v))

pub sum-below-only : (n m : ℕ) (v : ℤ) → m < n → sum_below n (only_at m v) ≡ v
sum-below-only n m v h = from-only m v 0 n (omega arith) (omega arith)

-- a sum of which every term is under one test
sum-below-where : (n : ℕ) (t : Bool) (f : ℕ → ℤ) → sum_below n (λ i. cond t (f i) (pos 0)) ≡ cond t (sum_below n f) (pos 0)
sum-below-where n true f = refl
sum-below-where n false f = sum-below-zeros n

-- one place of a table that is not 0
pub sum-below-place : (n l m k : ℕ) (v : ℤ) → m < n → k < l → sum_below n (λ i. sum_below l (λ j. cond (eqb m i && eqb k j) v (pos 0))) ≡ v
sum-below-place n l m k v h g =
    sum-below-same n (λ i. sum_below l (λ j. cond (eqb m i && eqb k j) v (pos 0))) (only_at m v)
    (λ i b.
    sum-below-same l (λ j. cond (eqb m i && eqb k j) v (pos 0)) (λ j. cond (eqb m i) (only_at k v j) (pos 0)) (λ j c. both (eqb m i) (eqb k j))
    ∙ sum-below-where l (eqb m i) (only_at k v)
    ∙ ap (λ z. cond (eqb m i) z (pos 0)) (sum-below-only l k v g))
    ∙ sum-below-only n m v h
  where
    both : (s t : Bool) → cond (s && t) v (pos 0) ≡ cond s (cond t v (pos 0)) (pos 0)
    both true t = refl
    both false t = refl

-- sums over meters, added up: the sum over meters of what each gives in all
pub sum-below-over : (n : ℕ) (f : ℕ → ℕ → ℕ → ℤ) (meters : List Row) → sum_below n (λ i. sum_over (f i) meters) ≡ sum_over (λ registration reading. sum_below n (λ i. f i registration reading)) meters
unfolding sum_over sum
sum-below-over n f [] = sum-below-zeros n
sum-below-over n f (r ∷ meters) =
    sum-below-plus n (λ i. f i r.registration r.reading) (λ i. sum_over (f i) meters)
    ∙ ap (λ z. sum_below n (λ i. f i r.registration r.reading) +ℤ z) (sum-below-over n f meters)

-- what each meter gives, told otherwise of each that is in bounds
pub sum-over-same : (f g : ℕ → ℕ → ℤ) {P : Row → Type 0} → ((r : Row) → P r → f r.registration r.reading ≡ g r.registration r.reading)
    → {meters : List Row} → Each P meters → sum_over f meters ≡ sum_over g meters
unfolding sum_over sum
sum-over-same f g same no-entry = refl
sum-over-same f g same (entry {x = r} p e) = ap₂ (λ x y. x +ℤ y) (same r p) (sum-over-same f g same e)
