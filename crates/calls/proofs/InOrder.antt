-- What storing in rows in order leaves, and that they are the rows of their book.
use Prim.Native.Nat.{ℕ, ◌*◌, ◌≤◌}
use mathlib.Core.Path.{◌≡◌, refl, sym}
use mathlib.Core.List.{List}
use native.Mathlib.Omega.{arith}
use lib.IntN.{ℤ}
use lib.ListN.{length}
use Rattle.std.specs.Prelude.{Result, Ok, Err}
use Rattle.refusals.specs.declared.Refusal.{Refusal}
use Rattle.words.specs.declared.Registration.{Registration}
use Rattle.book.specs.Rows.{Row, capacity, rows_of}
use Rattle.book.specs.Helpers.{asked_of, Storing, word_storing, RowsReady}
use Rattle.book.proofs.RowsOf.{length-rows}
use Rattle.book.proofs.WellFormed.{room, ready-to-search}
use Rattle.running.specs.Helpers.{RowsHeld}
use Rattle.running.proofs.HeldFormed.{formed-all}
use Rattle.calls.specs.Stores.{Stores}
use Rattle.calls.specs.Helpers.{LentRows, StoresIn, Registers, InAnyOrder}
use Rattle.calls.proofs.Storing.{asked-refused, asked-stores}

module _ {n slice : ℕ} {words words' shapes : List ℕ} {cells cells' : List ℤ} {store : List Row → Storing} where
  pub stored-ok : {meters : ℕ} → Stores store shapes n words cells (Ok meters) words' cells'
      → StoresIn store shapes (record { slice = slice; words = words; meters = n }) cells (Ok meters) (record { slice = slice; words = words'; meters = meters }) cells'
  stored-ok h = record { same_slice = refl; stores = h; counted = refl }

  pub stored-err : {refusal : Refusal} → Stores store shapes n words cells (Err refusal) words' cells'
      → StoresIn store shapes (record { slice = slice; words = words; meters = n }) cells (Err refusal) (record { slice = slice; words = words'; meters = n }) cells'
  stored-err h = record { same_slice = refl; stores = h; counted = refl }

-- a registration out of range leaves the rows, and the word of any other is stored
module _ (m : ℕ) (r : Registration) {n slice : ℕ} {words shapes : List ℕ} {cells : List ℤ} where
  pub refused-in-order : {refusal : Refusal} → RowsReady n words → Err refusal ≡ asked_of m r
      → Registers m r shapes (record { slice = slice; words = words; meters = n }) cells (Err refusal) (record { slice = slice; words = words; meters = n }) cells
  refused-in-order ready e = record { same_slice = refl; stores = asked-refused _ _ _ ready (sym e); counted = refl }

  pub asked-in-order : {word : ℕ} {outcome : Result ℕ Refusal} {after : LentRows} {cells' : List ℤ} → Ok word ≡ asked_of m r
      → StoresIn (word_storing (capacity words) m word) shapes (record { slice = slice; words = words; meters = n }) cells outcome after cells'
      → Registers m r shapes (record { slice = slice; words = words; meters = n }) cells outcome after cells'
  asked-in-order e s = record { same_slice = s.same_slice; stores = asked-stores _ _ _ (sym e) s.stores; counted = s.counted }

-- rows that are ready are among those of a well-formed book
pub rows-held : {n : ℕ} {words : List ℕ} → RowsReady n words → RowsHeld (rows_of n words)
unfolding capacity
rows-held {n} {words} ready =
    record { few = rw length-rows (omega (arith, ready.within-capacity)); each = formed-all 0 (rows_of n words) ready.formed }

pub all-in-order : {n : ℕ} {words : List ℕ} → RowsReady n words → {listed : List Row} → listed ≡ rows_of n words → InAnyOrder (rows_of n words) listed
all-in-order ready e = rw e (record { held = rows-held ready; same_sums = λ f. refl })

pub words-within : {n : ℕ} {words : List ℕ} → RowsReady n words → 3 * n ≤ length words
words-within {n} {words} ready = room words n ready.within-capacity

-- for the search for a proof
pub ruleset in_order = (ready-to-search, stored-ok, stored-err, words-within, all-in-order)
