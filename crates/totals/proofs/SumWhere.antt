-- The sum over the meters that pass a test: with one meter more at the end, and how large.
use Prim.Native.Nat.{ℕ, ◌+◌, ◌*◌, ◌≤◌}
use mathlib.Core.Path.{◌≡◌}
use mathlib.Core.Bool.{Bool, true, false, cond}
use mathlib.Core.List.{List, [], ◌∷◌, ◌++◌}
use native.Mathlib.Omega.{arith}
use lib.ListN.{length}
use Rattle.book.specs.Rows.{Row}
use Rattle.cells.proofs.Each.{Each, no-entry, entry}
use Rattle.totals.specs.Totals.{sum_where}

module _ (test : ℕ → Bool) (gives : ℕ → ℕ → ℕ) where
  pub sum-where-last : (meters : List Row) (r : Row) → sum_where test gives (meters ++ (r ∷ [])) ≡ sum_where test gives meters + cond (test r.registration) (gives r.registration r.reading) 0
  unfolding sum_where
  sum-where-last [] r = omega arith
  sum-where-last (m ∷ meters) r = omega (arith, sum-where-last meters r)

  -- where each gives at most so much
  pub sum-where-most : (most : ℕ) {P : Row → Type 0} → ((r : Row) → P r → gives r.registration r.reading ≤ most)
      → {meters : List Row} → Each P meters → sum_where test gives meters ≤ length meters * most
  unfolding sum_where
  sum-where-most most each no-entry = omega arith
  sum-where-most most each (entry {x = r} {xs = meters} p e) = omega (arith, one (test r.registration) (each r p), sum-where-most most each e)
    where
      one : (t : Bool) {x : ℕ} → x ≤ most → cond t x 0 ≤ most
      one true h = h
      one false h = omega arith
