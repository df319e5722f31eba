-- A reading adds no row, so storing one does not merge the parts.
use Prim.Native.Nat.{ℕ, zero, suc, ◌<◌}
use mathlib.Core.Path.{◌≡◌, refl, ◌∙◌}
use mathlib.Core.Logic.{◌⊎◌, ⊎_elim}
use mathlib.Core.List.{List}
use native.Mathlib.Omega.{arith}
use lib.IntN.{ℤ}
use lib.ListN.{length}
use Rattle.std.specs.Prelude.{Result, Ok, Err}
use Rattle.refusals.specs.declared.Refusal.{Refusal}
use Rattle.words.specs.declared.Reading.{Reading}
use Rattle.words.specs.Reading.{reading_word}
use Rattle.book.specs.Rows.{Row, rows_of, with_reading}
use Rattle.book.specs.Store.{reading_cause}
use Rattle.book.specs.Helpers.{storing, reading_storing}
use Rattle.book.proofs.RowsOf.{length-rows}
use Rattle.book.proofs.WithReading.{length-reading}
use Rattle.running.specs.Running.{with_change, within_limits, limit_cause}
use Rattle.running.specs.Helpers.{rows_change}
use Rattle.calls.specs.Stores.{storing_kept, kept_storing, Stores}
use Rattle.calls.specs.Helpers.{meters_after}
use Rattle.two_parts.specs.declared.Parts.{Parts}
use Rattle.two_parts.specs.Apart.{counted, LeavesApart, meters_of, StoresApart}

module _ (m : ℕ) (r : Reading) where
  as-many-rows : (rows : List Row) → length (reading_storing m r rows).rows ≡ length rows
  unfolding reading_storing storing
  as-many-rows rows = by-cause (reading_cause m r rows)
    where
      by-cause : (k : ℕ) → length (storing k (with_reading m (reading_word r) rows) rows).rows ≡ length rows
      by-cause zero = length-reading m (reading_word r) rows
      by-cause (suc k) = refl

  as-many-kept : (shapes : List ℕ) (cells : List ℤ) (rows : List Row) → length (kept_storing shapes cells rows (reading_storing m r rows)).rows ≡ length rows
  unfolding kept_storing storing_kept
  as-many-kept shapes cells rows =
      let o = reading_storing m r rows in
      by-cause (limit_cause o.number (within_limits (with_change (rows_change shapes rows o.rows) cells)))
    where
      by-cause : (k : ℕ) → length (storing_kept k (reading_storing m r rows).rows rows (rows_change shapes rows (reading_storing m r rows).rows) cells).rows ≡ length rows
      by-cause zero = as-many-rows rows
      by-cause (suc k) = refl

  as-many : {shapes : List ℕ} {n : ℕ} {words words' : List ℕ} {cells cells' : List ℤ} (outcome : Result ℕ Refusal) → Stores (reading_storing m r) shapes n words cells outcome words' cells' → meters_after n outcome ≡ n
  as-many {shapes} {n} {words} {cells = cells} (Ok count) x = x.counted ∙ as-many-kept shapes cells (rows_of n words) ∙ length-rows n words
  as-many (Err refusal) x = refl

  pub later-kept : {shapes : List ℕ} {first later later_after : ℕ} {words words' : List ℕ} {cells cells' : List ℤ} {outcome : Result ℕ Refusal} → LeavesApart (reading_storing m r) shapes first later words cells later_after outcome words' cells' → later_after ≡ later
  later-kept {outcome = outcome} x = omega (arith, x.meters, as-many (counted _ outcome) x.stores)

  pub first-kept : {shapes : List ℕ} {before after : Parts} {cells cells' : List ℤ} {outcome : Result ℕ Refusal} → StoresApart (reading_storing m r) shapes before cells after outcome cells'
      → (after.first ≡ before.first) ⊎ ((after.later ≡ 0) × (meters_of before < meters_of after)) → after.first ≡ before.first
  first-kept {outcome = outcome} x = ⊎_elim (λ same. same) (λ more. absurd (omega (arith, more.1, x.leaves.counted, as-many outcome x.leaves.stores)))
