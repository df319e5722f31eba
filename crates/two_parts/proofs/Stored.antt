-- What storing that goes by parts leaves in two parts: the meter is of the first part, or of the later one.
use Prim.Native.Nat.{ℕ, ◌+◌, ◌-◌, ◌*◌, ◌≤◌, ◌<◌}
use mathlib.Core.Path.{◌≡◌}
use mathlib.Core.Bool.{true, false}
use mathlib.Core.List.{List}
use native.Mathlib.Omega.{arith}
use borrow.Rule.Slice.PartMut.{mid_of, put_mid}
use lib.IntN.{ℤ}
use lib.ListN.{length}
use Rattle.std.specs.Prelude.{Result}
use Rattle.refusals.specs.declared.Refusal.{Refusal}
use Rattle.book.specs.Rows.{Row, capacity, rows_of, is_known}
use Rattle.book.specs.Helpers.{Storing}
use Rattle.book.proofs.RowsOf.{length-rows}
use Rattle.calls.specs.Stores.{kept_storing, Stores}
use Rattle.calls.specs.Helpers.{meters_after}
use Rattle.two_parts.specs.TwoParts.{later_rows, later_most, PartsReady}
use Rattle.two_parts.specs.Apart.{LeavesApart}
use Rattle.two_parts.specs.ByParts.{GoesByParts}
use Rattle.two_parts.proofs.KeptByParts.{KeptInLater, kept-in-first, kept-in-later}
use Rattle.two_parts.proofs.LentPart.{part_after, part-capacity}
use Rattle.two_parts.proofs.StoredApart.{whole, first-stored}
use Rattle.two_parts.proofs.LaterStored.{first-within, later-count, later-most, later-stored}

module _ {first later : ℕ} {words : List ℕ} (ready : PartsReady first later words) {m : ℕ} {store : ℕ → List Row → Storing} (by-parts : GoesByParts m store) where
  pub stored-there : {shapes : List ℕ} {cells : List ℤ} {outcome : Result ℕ Refusal} {words_after : List ℕ} {cells_after : List ℤ} → is_known m (rows_of first words) ≡ true
      → Stores (store (capacity words)) shapes first words cells outcome words_after cells_after → LeavesApart (store (capacity words)) shapes first later words cells later outcome words_after cells_after
  stored-there {shapes = shapes} {cells = cells} known =
      first-stored first later words ready (store (capacity words)) shapes cells
      (kept-in-first shapes cells ready.rows (by-parts.in_first (capacity words) (rows_of first words) (later_rows first later words) ready.rows known))

  module _ (unknown : is_known m (rows_of first words) ≡ false) where
    in-later : (shapes : List ℕ) (cells : List ℤ) → KeptInLater (capacity words) (kept_storing shapes cells (whole first later words) (store (capacity words) (whole first later words)))
        (kept_storing shapes cells (later_rows first later words) (store (capacity (part_after first words)) (later_rows first later words))) (rows_of first words) (later_rows first later words)
    in-later shapes cells =
        let fits : length (rows_of first words) + length (later_rows first later words) ≤ capacity words = omega (arith, length-rows first words, later-count first later words, ready.within-capacity) in
        let x = by-parts.in_later (capacity words) (rows_of first words) (later_rows first later words) ready.rows unknown fits in
        rw (part-capacity first words (first-within first later words ready)) (kept-in-later shapes cells ready.rows fits (rw (length-rows first words) at x))

    -- the part is lent up to a number of rows that is the capacity
    module _ {cap : ℕ} {shapes : List ℕ} {cells : List ℤ} {outcome : Result ℕ Refusal} {part : List ℕ} {cells_after : List ℤ} (e : cap ≡ capacity words)
        (x : Stores (store (capacity (mid_of (3 * first) (3 * cap - 3 * first) words))) shapes later (mid_of (3 * first) (3 * cap - 3 * first) words) cells outcome part cells_after) where
      pub stored-later : LeavesApart (store (capacity words)) shapes first later words cells (meters_after later outcome) outcome (put_mid (3 * first) (3 * cap - 3 * first) words part) cells_after
      stored-later = rw e (later-stored first later words ready (store (capacity words)) (store (capacity (part_after first words))) shapes cells (in-later shapes cells) (rw e at x))

      pub one-more : meters_after later outcome ≤ later + 1
      one-more = later-most first later words ready (store (capacity words)) (store (capacity (part_after first words))) shapes cells (in-later shapes cells) (rw e at x)

      pub later-short : later < later_most → meters_after later outcome ≤ later_most
      later-short h = omega (arith, one-more)
