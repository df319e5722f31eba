-- The test of what is lent: from what it is worked out, and what its outcome says of the causes that come after it.
use Prim.Native.Nat.{ℕ, ◌≤◌}
use mathlib.Core.Path.{◌≡◌, refl}
use mathlib.Core.Bool.{true, and-eq-true_iff}
use mathlib.Core.List.{List}
use native.Mathlib.Nat.{le_refl}
use borrow.Author.Tests.{le-ltb, ltb-false}
use lib.IntN.{ℤ}
use lib.ListN.{length, take}
use Rattle.std.specs.Prelude.{Option, Result, Ok, Err}
use Rattle.std.specs.Option.{ok_or}
use Rattle.refusals.specs.declared.Refusal.{Refusal}
use Rattle.refusals.specs.declared.Refusal.TheVariants.{BookIllFormed, CellsShort}
use Rattle.refusals.specs.Refusal.{number_of}
use Rattle.integers.specs.Sum.{sizes}
use Rattle.words.proofs.Tests.{by-test}
use Rattle.book.specs.Book.{well_formed}
use Rattle.running.specs.Words.{cell_words, slice_words}
use Rattle.running.specs.Ready.{CellsReady}
use Rattle.running.specs.Running.{Running, within_limits, is_short, running_formed, lent_cause}
use Rattle.running.specs.Helpers.{measured, slice_tested, lent_tested}

-- from the measure of a slice that is long enough
pub slice-measured : (cells : List ℤ) {m : Option ℕ} {x : Result ℕ Refusal} → slice_words ≤ length cells → m ≡ measured cells → x ≡ ok_or m BookIllFormed
    → x ≡ slice_tested cells
slice-measured cells h e x =
    by-test (within_limits cells)
    (λ w. rw (le-ltb (length cells) slice_words h, w) (rw (e, w) at x))
    (λ w. rw (le-ltb (length cells) slice_words h, w) (rw (e, w) at x))

-- and beside a book that is well formed
pub lent-measured : (r : Running) {x : Result ℕ Refusal} → well_formed r.book ≡ true → x ≡ slice_tested r.cells → x ≡ lent_tested r
unfolding running_formed
lent-measured r formed x = rw formed x

-- a slice and a book that passed: no cause of theirs comes first, the book is well formed and the slice is as calls need it
pub record LentWell (r : Running) (size : ℕ) : Type 0 where
  pub first : (rest : ℕ) → lent_cause r rest ≡ rest
  pub formed : well_formed r.book ≡ true
  pub ready : CellsReady r.cells size

module _ (r : Running) where
  -- a refusal's number comes before any other
  pub refused-first : (refusal : Refusal) → lent_tested r ≡ Err refusal → (rest : ℕ) → lent_cause r rest ≡ number_of refusal
  refused-first refusal e rest =
      by-test (is_short r.cells)
      (λ s. let t : CellsShort ≡ refusal = cc (rw s at e) in rw (s, ← t) refl)
      (λ s.
      by-test (running_formed r)
      (λ f. absurd (cc (rw (s, f) at e)))
      (λ f. let t : BookIllFormed ≡ refusal = cc (rw (s, f) at e) in rw (s, f, ← t) refl))

  pub passed-well : {size : ℕ} → lent_tested r ≡ Ok size → LentWell r size
  unfolding running_formed
  passed-well {size} e =
      by-test (is_short r.cells)
      (λ s. absurd (cc (rw s at e)))
      (λ s.
      by-test (running_formed r)
      (λ f.
      let both = (and-eq-true_iff (well_formed r.book) (within_limits r.cells)).0 f in
      let same : sizes (take cell_words r.cells) ≡ size = cc (rw (s, f) at e) in
      record {
        first = λ rest. rw (s, f) refl;
        formed = both.0;
        ready = record { long = ltb-false (length r.cells) slice_words s; within = both.1; size-most = rw same (le_refl size) };
      })
      (λ f. absurd (cc (rw (s, f) at e))))

-- a book that is well formed and a slice that is ready are lent well
pub ready-well : (r : Running) {size : ℕ} → well_formed r.book ≡ true → CellsReady r.cells size → LentWell r size
unfolding running_formed
ready-well r formed ready =
    record {
      first = λ rest. rw (le-ltb (length r.cells) slice_words ready.long, formed, ready.within) refl;
      formed = formed;
      ready = ready;
    }
