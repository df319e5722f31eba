-- A registration stored in two parts: one out of range leaves them, and the word of any other is stored.
use Prim.Native.Nat.{ℕ}
use mathlib.Core.Path.{◌≡◌, refl, sym}
use mathlib.Core.List.{List}
use lib.IntN.{ℤ}
use Rattle.std.specs.Prelude.{Result, Ok, Err}
use Rattle.refusals.specs.declared.Refusal.{Refusal}
use Rattle.words.specs.declared.Registration.{Registration}
use Rattle.book.specs.Rows.{capacity}
use Rattle.book.specs.Helpers.{asked_of, word_storing, registration_storing}
use Rattle.calls.proofs.Storing.{asked-refused, asked-stores}
use Rattle.two_parts.specs.declared.Parts.{Parts}
use Rattle.two_parts.specs.TwoParts.{PartsReady}
use Rattle.two_parts.specs.Apart.{LeavesApart, StoresApart}
use Rattle.two_parts.proofs.AsOne.{as-one-ready, as-one-capacity}

module _ (m : ℕ) (r : Registration) {first later : ℕ} {words : List ℕ} {shapes : List ℕ} {cells : List ℤ} where
  pub refused-leaves : {refusal : Refusal} → PartsReady first later words → Err refusal ≡ asked_of m r
      → LeavesApart (registration_storing (capacity words) m r) shapes first later words cells later (Err refusal) words cells
  refused-leaves ready e =
      record {
        ready = ready;
        stores = rw (← as-one-capacity _ _ _ ready) (asked-refused _ _ _ (as-one-ready _ _ _ ready) (sym e));
        meters = refl;
      }

  pub asked-leaves : {word later_after : ℕ} {outcome : Result ℕ Refusal} {words_after : List ℕ} {cells_after : List ℤ} → Ok word ≡ asked_of m r
      → LeavesApart (word_storing (capacity words) m word) shapes first later words cells later_after outcome words_after cells_after
      → LeavesApart (registration_storing (capacity words) m r) shapes first later words cells later_after outcome words_after cells_after
  asked-leaves e x = record { ready = x.ready; stores = asked-stores _ _ _ (sym e) x.stores; meters = x.meters }

-- the same of a `Parts`
module _ (m : ℕ) (r : Registration) (before : Parts) where
  pub refused-apart : {refusal : Refusal} {shapes : List ℕ} {cells : List ℤ} → Err refusal ≡ asked_of m r → StoresApart (registration_storing (capacity before.rows.now) m r) shapes before cells before (Err refusal) cells
  refused-apart e = record { leaves = record { same_slice = refl; stores = (refused-leaves m r before.ready e).stores; counted = refl } }

  pub asked-apart : {word : ℕ} {shapes : List ℕ} {cells cells' : List ℤ} {after : Parts} {outcome : Result ℕ Refusal} → Ok word ≡ asked_of m r
      → StoresApart (word_storing (capacity before.rows.now) m word) shapes before cells after outcome cells' → StoresApart (registration_storing (capacity before.rows.now) m r) shapes before cells after outcome cells'
  asked-apart e s =
      let x = s.leaves in
      record { leaves = record { same_slice = x.same_slice; stores = asked-stores _ _ _ (sym e) x.stores; counted = x.counted } }
