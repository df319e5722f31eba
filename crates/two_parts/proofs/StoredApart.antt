-- Storing in rows in two parts: two parts again, and merged they are what storing leaves in the merged rows.
use Prim.Native.Nat.{ℕ, ◌+◌, ◌-◌, ◌*◌, ◌≤◌}
use mathlib.Core.Path.{◌≡◌, refl, sym, ◌∙◌, ap}
use mathlib.Core.List.{List, ◌++◌}
use native.Mathlib.Omega.{arith}
use lib.IntN.{ℤ}
use lib.ListN.{length, drop}
use lib.Seq.{drop-append-add, drop-drop}
use Rattle.std.specs.Prelude.{Result, Ok, Err}
use Rattle.refusals.specs.declared.Refusal.{Refusal}
use Rattle.refusals.specs.Refusal.{number_given}
use Rattle.book.specs.Rows.{Row, rows_of, words_of, written}
use Rattle.book.specs.Helpers.{Storing}
use Rattle.book.proofs.BookFormed.{capacity-same}
use Rattle.book.proofs.RowsOf.{length-rows, length-words}
use Rattle.book.proofs.WellFormed.{room}
use Rattle.book.proofs.Written.{length-written, rows-of-written}
use Rattle.calls.specs.Stores.{StoringKept, kept_storing, Stores}
use Rattle.calls.specs.Helpers.{meters_after}
use Rattle.two_parts.specs.TwoParts.{merged, later_rows, as_one, RowsApart, PartsReady}
use Rattle.two_parts.specs.Apart.{counted, LeavesApart}
use Rattle.two_parts.proofs.AsOne.{as-one-count, as-one-rows}
use Rattle.two_parts.proofs.KeptByParts.{KeptInFirst}

-- the words after the rows written are those that were there
pub tail_written : (rows : List Row) (words : List ℕ) (j : ℕ) → 3 * length rows ≤ j → drop j (written rows words) ≡ drop j words
unfolding written
tail_written rows words j h =
    let d = j - 3 * length rows in
    let e : j ≡ length (words_of rows) + d = omega (arith, length-words rows) in
    let f : 3 * length rows + d ≡ j = omega arith in
    ap (λ (k : ℕ). drop k (words_of rows ++ drop (3 * length rows) words)) e
    ∙ drop-append-add (words_of rows) (drop (3 * length rows) words) d
    ∙ drop-drop d (3 * length rows) words
    ∙ ap (λ (k : ℕ). drop k words) f

-- only those words of a slice are left where rows are written
by-tail : (rows : List Row) (xs ys : List ℕ) → drop (3 * length rows) xs ≡ drop (3 * length rows) ys → written rows xs ≡ written rows ys
unfolding written
by-tail rows xs ys e = ap (λ (l : List ℕ). words_of rows ++ l) e

-- the rows that the parts stand for
abbrev pub whole : ℕ → ℕ → List ℕ → List Row
whole first later words = merged (rows_of first words) (later_rows first later words)

-- other words, with as many rows or more in the later part
module _ (first later : ℕ) (words : List ℕ) (ready : PartsReady first later words) (store : List Row → Storing) (shapes : List ℕ) (cells : List ℤ) (later' : ℕ) (words' : List ℕ) (more : later ≤ later')
    (tail : drop (3 * (first + later')) words' ≡ drop (3 * (first + later')) words) where
  abbrev left : StoringKept
  left = kept_storing shapes cells (whole first later words) (store (whole first later words))

  as-one-after : written (whole first later' words') (as_one first later words) ≡ as_one first later' words'
  unfolding as_one
  as-one-after =
      let l : length (whole first later' words') ≡ first + later' = as-one-count first later' words' in
      by-tail (whole first later' words') (written (whole first later words) words) words'
      (tail_written (whole first later words) words (3 * length (whole first later' words')) (omega (arith, as-one-count first later words))
      ∙ ap (λ (k : ℕ). drop (3 * k) words) l
      ∙ sym tail
      ∙ ap (λ (k : ℕ). drop (3 * k) words') (sym l))

  pub leaves-apart : (outcome : Result ℕ Refusal) {cells' : List ℤ} → PartsReady first later' words' → number_given outcome ≡ left.number → left.rows ≡ whole first later' words' → cells' ≡ left.cells
      → first + later' ≡ meters_after (first + later) (counted (first + later') outcome) → LeavesApart store shapes first later words cells later' outcome words' cells'
  leaves-apart (Ok n) ready' number e c meters =
      record {
        ready = ready';
        stores = record {
          number = rw (as-one-rows first later words ready) number;
          counted = rw (as-one-rows first later words ready) (sym (ap length e ∙ as-one-count first later' words'));
          slice = rw (as-one-rows first later words ready, e) (sym as-one-after);
          cells_are = rw (as-one-rows first later words ready) c;
        };
        meters = meters;
      }
  leaves-apart (Err refusal) ready' number e c meters =
      record {
        ready = ready';
        stores = record {
          number = rw (as-one-rows first later words ready) number;
          counted = tt;
          slice = rw (as-one-rows first later words ready, e) (sym as-one-after);
          cells_are = rw (as-one-rows first later words ready) c;
        };
        meters = meters;
      }

-- other rows in the first part, as many as before: they are written where those stood
module _ (first later : ℕ) (words : List ℕ) (ready : PartsReady first later words) (rows : List Row) (same : length rows ≡ first) where
  first_tail : (j : ℕ) → 3 * first ≤ j → drop j (written rows words) ≡ drop j words
  first_tail j h = tail_written rows words j (omega arith)

  first_rows : rows_of first (written rows words) ≡ rows
  first_rows = rows-of-written first rows words same

  later_rows_lem : later_rows first later (written rows words) ≡ later_rows first later words
  unfolding later_rows
  later_rows_lem = ap (rows_of later) (first_tail (3 * first) (omega arith))

  first-ready : RowsApart rows (later_rows first later words) → PartsReady first later (written rows words)
  first-ready apart =
      let l = length-written rows words (omega (arith, room words (first + later) ready.within-capacity)) in
      record { within-capacity = rw (capacity-same (written rows words) words l) ready.within-capacity; rows = rw (first_rows, later_rows_lem) apart }

-- storing that leaves in the first part what it leaves in the whole
module _ (first later : ℕ) (words : List ℕ) (ready : PartsReady first later words) (store : List Row → Storing) (shapes : List ℕ) (cells : List ℤ)
    (x : KeptInFirst (kept_storing shapes cells (whole first later words) (store (whole first later words))) (kept_storing shapes cells (rows_of first words) (store (rows_of first words))) (rows_of first words) (later_rows first later words)) where
  abbrev rows : List Row
  rows = (kept_storing shapes cells (rows_of first words) (store (rows_of first words))).rows

  count : length rows ≡ first
  count = x.leaves.as_many ∙ length-rows first words

  pub first-stored : {outcome : Result ℕ Refusal} {words_after : List ℕ} {cells_after : List ℤ} → Stores store shapes first words cells outcome words_after cells_after
      → LeavesApart store shapes first later words cells later outcome words_after cells_after
  first-stored {outcome} s =
      rw s.slice
      (leaves-apart first later words ready store shapes cells later (written rows words) (omega arith)
      (first_tail first later words ready rows count (3 * (first + later)) (omega arith))
      outcome
      (first-ready first later words ready rows count x.leaves.parts)
      (s.number ∙ sym x.leaves.number)
      (x.leaves.rows ∙ rw (first_rows first later words ready rows count, later_rows_lem first later words ready rows count))
      (s.cells_are ∙ sym x.cells)
      (as-before outcome))
    where
      as-before : (outcome : Result ℕ Refusal) → first + later ≡ meters_after (first + later) (counted (first + later) outcome)
      as-before (Ok n) = refl
      as-before (Err refusal) = refl
