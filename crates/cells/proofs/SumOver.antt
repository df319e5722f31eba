-- The sum over meters of what each gives, for whatever it gives: over two lists put together, with one meter more or changed, in any order, put through what keeps sums, of differences, and how large.
use Prim.Native.Nat.{ℕ, ◌*◌, ◌≤◌}
use mathlib.Core.Path.{◌≡◌, refl, sym, ap, ◌∙◌}
use mathlib.Core.List.{List, [], ◌∷◌, ◌++◌, append-nil, map-append}
use native.Mathlib.Omega.{arith}
use lib.IntN.{ℤ, pos, nat_abs, ◌+ℤ◌, ◌-ℤ◌}
use lib.ListN.{length}
use Rattle.integers.specs.Sum.{sum}
use Rattle.integers.proofs.Sum.{sum-append}
use Rattle.integers.proofs.Linear.{linear, plus, minus}
use Rattle.integers.proofs.Size.{size-plus}
use Rattle.book.specs.Rows.{Row}
use Rattle.cells.specs.Cells.{sum_over}
use Rattle.cells.proofs.Each.{Each, no-entry, entry}
use Rattle.cells.proofs.Permuted.{Permuted, none, keep, exchange, chain, mapped}

-- a sum does not depend on the order of what is added
pub sum-any-order : {xs ys : List ℤ} → Permuted ℤ xs ys → sum xs ≡ sum ys
unfolding sum
sum-any-order none = refl
sum-any-order (keep {x = x} p) = ap (λ z. x +ℤ z) (sum-any-order p)
sum-any-order (exchange {x = x} {y = y} {xs = xs}) = omega linear
sum-any-order (chain p q) = sum-any-order p ∙ sum-any-order q

moved-last : (b x a : ℤ) → b +ℤ (x +ℤ a) ≡ (b +ℤ a) +ℤ x
moved-last b x a = omega (linear, plus x a, plus b (x +ℤ a), plus b a, plus (b +ℤ a) x)

replaced : (s x y : ℤ) → s +ℤ y ≡ ((s +ℤ x) -ℤ x) +ℤ y
replaced s x y = omega (linear, plus s y, plus s x, minus (s +ℤ x) x, plus ((s +ℤ x) -ℤ x) y)

module _ (f : ℕ → ℕ → ℤ) where
  pub sum-over-append : (xs ys : List Row) → sum_over f (xs ++ ys) ≡ sum_over f xs +ℤ sum_over f ys
  unfolding sum_over
  sum-over-append xs ys = rw (map-append, sum-append)

  -- one meter more, wherever it stands
  pub sum-over-added : (before : List Row) (r : Row) (after : List Row)
      → sum_over f (before ++ (r ∷ after)) ≡ sum_over f (before ++ after) +ℤ f r.registration r.reading
  unfolding sum_over sum
  sum-over-added before r after =
      let x = f r.registration r.reading in
      sum-over-append before (r ∷ after)
      ∙ moved-last (sum_over f before) x (sum_over f after)
      ∙ ap (λ z. z +ℤ x) (sym (sum-over-append before after))

  -- and at the end
  pub sum-over-last : (meters : List Row) (r : Row) → sum_over f (meters ++ (r ∷ [])) ≡ sum_over f meters +ℤ f r.registration r.reading
  sum-over-last meters r = sum-over-added meters r [] ∙ rw append-nil

  -- one meter changed: what it gave goes, and what it gives now is added
  pub sum-over-changed : (before : List Row) (r r' : Row) (after : List Row)
      → sum_over f (before ++ (r' ∷ after))
      ≡ (sum_over f (before ++ (r ∷ after)) -ℤ f r.registration r.reading) +ℤ f r'.registration r'.reading
  sum-over-changed before r r' after =
      rw (sum-over-added before r' after, sum-over-added before r after)
      (replaced (sum_over f (before ++ after)) (f r.registration r.reading) (f r'.registration r'.reading))

  pub sum-over-any-order : {xs ys : List Row} → Permuted Row xs ys → sum_over f xs ≡ sum_over f ys
  unfolding sum_over
  sum-over-any-order p = sum-any-order (mapped (λ r. f r.registration r.reading) p)

  -- what keeps sums, done to the sum, is done to what each gives
  pub sum-over-through : (h : ℤ → ℤ) → h (pos 0) ≡ pos 0 → ((a b : ℤ) → h (a +ℤ b) ≡ h a +ℤ h b)
      → (meters : List Row) → h (sum_over f meters) ≡ sum_over (λ registration reading. h (f registration reading)) meters
  unfolding sum_over sum
  sum-over-through h none_kept plus-kept [] = none_kept
  sum-over-through h none_kept plus-kept (r ∷ meters) =
      let x = f r.registration r.reading in
      plus-kept x (sum_over f meters) ∙ ap (λ z. h x +ℤ z) (sum-over-through h none_kept plus-kept meters)

  -- where each gives at most so much
  pub sum-over-most : (most : ℕ) {P : Row → Type 0} → ((r : Row) → P r → nat_abs (f r.registration r.reading) ≤ most)
      → {meters : List Row} → Each P meters → nat_abs (sum_over f meters) ≤ length meters * most
  unfolding sum_over sum
  sum-over-most most each no-entry = omega arith
  sum-over-most most each (entry {x = r} {xs = meters} p e) =
      omega (arith, size-plus (f r.registration r.reading) (sum_over f meters), each r p, sum-over-most most each e)

pub differences : (a b s t : ℤ) → (a -ℤ b) +ℤ (s -ℤ t) ≡ (a +ℤ s) -ℤ (b +ℤ t)
differences a b s t =
    omega (linear, minus a b, minus s t, plus (a -ℤ b) (s -ℤ t), plus a s, plus b t, minus (a +ℤ s) (b +ℤ t))

-- the sum of the differences between what each gives in two ways
pub sum-over-minus : (f g : ℕ → ℕ → ℤ) (meters : List Row)
    → sum_over (λ registration reading. f registration reading -ℤ g registration reading) meters ≡ sum_over f meters -ℤ sum_over g meters
unfolding sum_over sum
sum-over-minus f g [] = refl
sum-over-minus f g (r ∷ meters) =
    let x = f r.registration r.reading in
    let y = g r.registration r.reading in
    ap (λ z. (x -ℤ y) +ℤ z) (sum-over-minus f g meters) ∙ differences x y (sum_over f meters) (sum_over g meters)
