-- Storing with running cells goes by parts too: the limit is tested of the same cells, since other rows in one part change them as they do in the whole.
use Prim.Native.Nat.{ℕ, zero, suc, ◌+◌, ◌≤◌}
use mathlib.Core.Path.{◌≡◌, refl}
use mathlib.Core.List.{List}
use native.Mathlib.Omega.{arith}
use lib.IntN.{ℤ}
use lib.ListN.{length}
use Rattle.book.specs.Rows.{Row}
use Rattle.book.specs.Helpers.{Storing}
use Rattle.running.specs.Running.{with_change, within_limits, limit_cause}
use Rattle.running.specs.Helpers.{rows_change}
use Rattle.calls.specs.Stores.{StoringKept, storing_kept, kept_storing}
use Rattle.two_parts.specs.TwoParts.{merged, RowsApart}
use Rattle.two_parts.specs.ByParts.{InFirst, InLater}
use Rattle.two_parts.proofs.PartsSum.{change-first, change-later}

-- the number and the rows of what storing leaves
abbrev pub left_in_rows : StoringKept → Storing
left_in_rows k = record { number = k.number; rows = k.rows }

-- the same with cells, which are the same in the part and in the whole
pub record KeptInFirst (whole there : StoringKept) (first later : List Row) : Type 0 where
  pub leaves : InFirst (left_in_rows whole) (left_in_rows there) first later
  pub cells : whole.cells ≡ there.cells

pub record KeptInLater (capacity : ℕ) (whole there : StoringKept) (first later : List Row) : Type 0 where
  pub leaves : InLater capacity (left_in_rows whole) (left_in_rows there) first later
  pub cells : whole.cells ≡ there.cells

module _ (shapes : List ℕ) (cells : List ℤ) {A B : List Row} (apart : RowsApart A B) where
  pub kept-in-first : {whole there : Storing} → InFirst whole there A B → KeptInFirst (kept_storing shapes cells (merged A B) whole) (kept_storing shapes cells A there) A B
  unfolding kept_storing storing_kept
  kept-in-first {whole} {there} x =
      let change = rows_change shapes A there.rows in
      rw (x.number, x.rows, change-first shapes A B there.rows)
      (by (limit_cause there.number (within_limits (with_change change cells))))
    where
      by : (cause : ℕ)
          → KeptInFirst (storing_kept cause (merged there.rows B) (merged A B) (rows_change shapes A there.rows) cells)
          (storing_kept cause there.rows A (rows_change shapes A there.rows) cells) A B
      by zero = record { leaves = record { number = refl; rows = refl; as_many = x.as_many; parts = x.parts }; cells = refl }
      by (suc k) = record { leaves = record { number = refl; rows = refl; as_many = refl; parts = apart }; cells = refl }

  pub kept-in-later : {capacity : ℕ} {whole there : Storing} → length A + length B ≤ capacity → InLater capacity whole there A B
      → KeptInLater capacity (kept_storing shapes cells (merged A B) whole) (kept_storing shapes cells B there) A B
  unfolding kept_storing storing_kept
  kept-in-later {capacity} {whole} {there} fits x =
      let change = rows_change shapes B there.rows in
      rw (x.number, x.rows, change-later shapes A B there.rows)
      (by (limit_cause there.number (within_limits (with_change change cells))))
    where
      by : (cause : ℕ)
          → KeptInLater capacity (storing_kept cause (merged A there.rows) (merged A B) (rows_change shapes B there.rows) cells)
          (storing_kept cause there.rows B (rows_change shapes B there.rows) cells) A B
      by zero =
          record {
            leaves = record { number = refl; rows = refl; refused = λ n. absurd (n refl); more = x.more; most = x.most; fits = x.fits; parts = x.parts };
            cells = refl;
          }
      by (suc k) =
          record {
            leaves = record { number = refl; rows = refl; refused = λ n. refl; more = omega arith; most = omega arith; fits = fits; parts = apart };
            cells = refl;
          }
