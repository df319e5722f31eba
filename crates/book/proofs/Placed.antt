-- What a place that a search of ready rows gave says of the slice.
use Prim.Native.Nat.{ℕ, ◌+◌, ◌*◌, ◌≤◌}
use mathlib.Core.Path.{◌≡◌, sym, ◌∙◌}
use mathlib.Core.Bool.{true, false}
use mathlib.Core.List.{List}
use native.Mathlib.Omega.{arith}
use lib.ListN.{length}
use Rattle.std.specs.Prelude.{Result, Ok, Err}
use Rattle.words.proofs.Tests.{by-test}
use Rattle.book.specs.Rows.{Row, rows_of, is_known}
use Rattle.book.specs.Helpers.{place_of, place_in, RowsReady}
use Rattle.book.proofs.PlaceOf.{known-within-in, place-within-in}
use Rattle.book.proofs.WellFormed.{room}

-- what a search in rows found: the row of a known meter, or where a new one's is to stand
module _ (m : ℕ) (rows : List Row) {place : Result ℕ ℕ} {k : ℕ} (e : place ≡ place_in m rows) where
  pub known-is : place ≡ Ok k → is_known m rows ≡ true
  known-is f = by-test (is_known m rows) (λ t. t) (λ t. let g : Err (place_of m rows) ≡ Ok k = rw t at (sym e ∙ f) in cc)

  pub unknown-is : place ≡ Err k → is_known m rows ≡ false
  unknown-is f = by-test (is_known m rows) (λ t. let g : Ok (place_of m rows) ≡ Err k = rw t at (sym e ∙ f) in cc) (λ t. t)

  pub index-is : place ≡ Ok k → k ≡ place_of m rows
  index-is f = let g : ◌≡◌ {A = Result ℕ ℕ} (Ok (place_of m rows)) (Ok k) = rw (known-is f) at (sym e ∙ f) in cc

  pub new-index-is : place ≡ Err k → k ≡ place_of m rows
  new-index-is f = let g : ◌≡◌ {A = Result ℕ ℕ} (Err (place_of m rows)) (Err k) = rw (unknown-is f) at (sym e ∙ f) in cc

module _ (m : ℕ) {meters : ℕ} {words : List ℕ} {place : Result ℕ ℕ} {k : ℕ} (ready : RowsReady meters words) (e : place ≡ place_in m (rows_of meters words)) where
  -- a known meter's row is within the slice
  pub row-within : place ≡ Ok k → 3 * k + 3 ≤ length words
  row-within f =
      omega (arith, room words meters ready.within-capacity, index-is m (rows_of meters words) e f, known-within-in words meters m (known-is m (rows_of meters words) e f))

  -- and a new one's is to stand there, or at its end
  pub index-within : place ≡ Err k → k ≤ meters
  index-within f = omega (arith, new-index-is m (rows_of meters words) e f, place-within-in words meters m)

  pub insertion-within : place ≡ Err k → 3 * k ≤ length words
  insertion-within f = omega (arith, room words meters ready.within-capacity, index-within f)

-- for the search for a proof
pub ruleset there = (row-within, index-within, insertion-within)
