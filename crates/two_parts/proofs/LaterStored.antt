-- Storing in the later rows alone, lent as a slice of their own, is storing in the whole.
use Prim.Native.Nat.{ℕ, ◌+◌, ◌-◌, ◌*◌, ◌≤◌, ◌<◌}
use mathlib.Core.Path.{◌≡◌, refl, sym, ◌∙◌, ap}
use mathlib.Core.Bool.{true, false}
use mathlib.Core.List.{List}
use native.Mathlib.Omega.{arith}
use borrow.Rule.Slice.PartMut.{mid_of}
use lib.IntN.{ℤ}
use lib.ListN.{length, drop}
use Rattle.std.specs.Prelude.{Result, Ok, Err}
use Rattle.std.specs.Result.{is_ok}
use Rattle.words.proofs.Tests.{by-test}
use Rattle.refusals.specs.declared.Refusal.{Refusal}
use Rattle.refusals.specs.Refusal.{number_given}
use Rattle.refusals.proofs.Numbers.{not-accepted}
use Rattle.book.specs.Rows.{Row, capacity, rows_of, written, rows_formed, is_known}
use Rattle.book.specs.Helpers.{place_of, place_in, Storing, RowsReady}
use Rattle.book.proofs.BookFormed.{capacity-same}
use Rattle.book.proofs.Placed.{known-is, index-is}
use Rattle.book.proofs.PlaceOf.{known-within-in}
use Rattle.book.proofs.RowsOf.{length-rows}
use Rattle.book.proofs.Written.{length-written, rows-of-written}
use Rattle.calls.specs.Stores.{kept_storing, Stores}
use Rattle.calls.specs.Helpers.{meters_after}
use Rattle.two_parts.specs.TwoParts.{later_rows, RowsApart, PartsReady}
use Rattle.two_parts.specs.Apart.{counted, LeavesApart}
use Rattle.two_parts.proofs.KeptByParts.{KeptInLater}
use Rattle.two_parts.proofs.LentPart.{part_after, put_after, part_length, part-capacity, part-rows, put-length, put_first, put-later, put-tail}
use Rattle.two_parts.proofs.StoredApart.{tail_written, whole, leaves-apart}

pub later-count : (first later : ℕ) (words : List ℕ) → length (later_rows first later words) ≡ later
unfolding later_rows
later-count first later words = length-rows later (drop (3 * first) words)

-- a meter whose row a search did not find is not known
pub not-found : (m : ℕ) (rows : List Row) {place : Result ℕ ℕ} → place ≡ place_in m rows → ((k : ℕ) → place ≡ Ok k → ⊥) → is_known m rows ≡ false
not-found m rows e n = by-test (is_known m rows) (λ k. absurd (n (place_of m rows) (e ∙ rw k))) (λ k. k)

-- a search finds a row exactly where the meter is known
pub found-known : (m : ℕ) (rows : List Row) {place : Result ℕ ℕ} → place ≡ place_in m rows → is_ok place ≡ is_known m rows
found-known m rows e = by-test (is_known m rows) (λ k. rw (e, k)) (λ k. rw (e, k))

module _ (first later : ℕ) (words : List ℕ) (ready : PartsReady first later words) where
  pub first-within : first ≤ capacity words
  first-within =
      let h = ready.within-capacity in
      omega arith

  pub lent_rows : rows_of later (part_after first words) ≡ later_rows first later words
  unfolding later_rows
  lent_rows = part-rows first words first-within later ready.within-capacity

  pub part-ready : RowsReady later (part_after first words)
  part-ready =
      let h = ready.within-capacity in
      record {
        within-capacity = omega (arith, part-capacity first words first-within);
        formed = rw lent_rows ready.rows.later-formed;
      }

  -- other later rows written in the part
  module _ (rows : List Row) (fits : first + length rows ≤ capacity words) (apart : RowsApart (rows_of first words) rows) where
    abbrev new_part : List ℕ
    new_part = written rows (part_after first words)

    rows_fit : 3 * length rows ≤ length (part_after first words)
    rows_fit = omega (arith, part_length first words first-within, fits)

    new-length : length new_part ≡ length (part_after first words)
    new-length = length-written rows (part_after first words) rows_fit

    new-fit : 3 * length rows ≤ length new_part
    new-fit = rw new-length rows_fit

    new-first : rows_of first (put_after first words new_part) ≡ rows_of first words
    new-first = put_first first words first-within new_part new-length

    new-later : later_rows first (length rows) (put_after first words new_part) ≡ rows
    unfolding later_rows
    new-later =
        put-later first words first-within new_part new-length (length rows) new-fit
        ∙ rows-of-written (length rows) rows (part_after first words) refl

    new-ready : PartsReady first (length rows) (put_after first words new_part)
    new-ready =
        record {
          within-capacity = rw (capacity-same (put_after first words new_part) words (put-length first words first-within new_part new-length)) fits;
          rows = rw (new-first, new-later) apart;
        }

    new-tail : drop (3 * (first + length rows)) (put_after first words new_part) ≡ drop (3 * (first + length rows)) words
    new-tail = put-tail first words first-within new_part new-length (length rows) new-fit (tail_written rows (part_after first words) (3 * length rows) (omega arith))

-- the part lent up to a number of rows that is the capacity, and a place found among the later rows
module _ {first later : ℕ} {words : List ℕ} (ready : PartsReady first later words) {cap : ℕ} (e : cap ≡ capacity words) where
  pub lent-within : later ≤ capacity (mid_of (3 * first) (3 * cap - 3 * first) words)
  lent-within = rw e (part-ready first later words ready).within-capacity

  pub lent-formed : rows_formed 0 (rows_of later (mid_of (3 * first) (3 * cap - 3 * first) words)) ≡ true
  lent-formed = rw e (part-ready first later words ready).formed

  pub lent-place : (m : ℕ) {place : Result ℕ ℕ} → place ≡ place_in m (later_rows first later words) → place ≡ place_in m (rows_of later (mid_of (3 * first) (3 * cap - 3 * first) words))
  lent-place m p = rw e (p ∙ ap (place_in m) (sym (lent_rows first later words ready)))

-- where a meter's row was found in the first part
pub index-first : (first m : ℕ) (words : List ℕ) {k : ℕ} {place : Result ℕ ℕ} → place ≡ place_in m (rows_of first words) → place ≡ Ok k → k < first
index-first first m words found e = omega (arith, index-is m (rows_of first words) found e, known-within-in words first m (known-is m (rows_of first words) found e))

-- for the search for a proof
pub ruleset lent = (lent-within, lent-formed, lent-place, index-first)

-- storing that leaves in the later part what it leaves in the whole
module _ (first later : ℕ) (words : List ℕ) (ready : PartsReady first later words) (store store_there : List Row → Storing) (shapes : List ℕ) (cells : List ℤ)
    (x : KeptInLater (capacity words) (kept_storing shapes cells (whole first later words) (store (whole first later words)))
    (kept_storing shapes cells (later_rows first later words) (store_there (later_rows first later words))) (rows_of first words) (later_rows first later words)) where
  abbrev rows : List Row
  rows = (kept_storing shapes cells (later_rows first later words) (store_there (later_rows first later words))).rows

  -- of the rows lent
  pub record Left (outcome : Result ℕ Refusal) (part : List ℕ) (cells' : List ℤ) : Type 0 where
    pub number : number_given outcome ≡ (kept_storing shapes cells (later_rows first later words) (store_there (later_rows first later words))).number
    pub count : meters_after later outcome ≡ length rows
    pub slice : part ≡ written rows (part_after first words)
    pub cells_are : cells' ≡ (kept_storing shapes cells (later_rows first later words) (store_there (later_rows first later words))).cells

  left : {outcome : Result ℕ Refusal} {part : List ℕ} {cells' : List ℤ} → Stores store_there shapes later (part_after first words) cells outcome part cells' → Left outcome part cells'
  left {outcome = Ok n} s =
      record {
        number = rw (lent_rows first later words ready) at s.number;
        count = rw (lent_rows first later words ready) at s.counted;
        slice = rw (lent_rows first later words ready) at s.slice;
        cells_are = rw (lent_rows first later words ready) at s.cells_are;
      }
  left {outcome = Err refusal} s =
      let n = rw (lent_rows first later words ready) at s.number in
      record {
        number = n;
        count = sym (ap length (x.leaves.refused (λ e. not-accepted refusal (n ∙ e))) ∙ later-count first later words);
        slice = rw (lent_rows first later words ready) at s.slice;
        cells_are = rw (lent_rows first later words ready) at s.cells_are;
      }

  pub later-most : {outcome : Result ℕ Refusal} {part : List ℕ} {cells' : List ℤ} → Stores store_there shapes later (part_after first words) cells outcome part cells' → meters_after later outcome ≤ later + 1
  later-most s = omega (arith, (left s).count, x.leaves.most, later-count first later words)

  pub later-stored : {outcome : Result ℕ Refusal} {part : List ℕ} {cells' : List ℤ} → Stores store_there shapes later (part_after first words) cells outcome part cells'
      → LeavesApart store shapes first later words cells (meters_after later outcome) outcome (put_after first words part) cells'
  later-stored {outcome} s =
      let l = left s in
      let fits : first + length rows ≤ capacity words = omega (arith, x.leaves.fits, length-rows first words) in
      rw (l.count, l.slice)
      (leaves-apart first later words ready store shapes cells (length rows) (put_after first words (written rows (part_after first words))) (omega (arith, x.leaves.more, later-count first later words))
      (new-tail first later words ready rows fits x.leaves.parts)
      outcome
      (new-ready first later words ready rows fits x.leaves.parts)
      (l.number ∙ sym x.leaves.number)
      (x.leaves.rows ∙ rw (new-first first later words ready rows fits x.leaves.parts, new-later first later words ready rows fits x.leaves.parts))
      (l.cells_are ∙ sym x.cells)
      (meters outcome l.count))
    where
      meters : (outcome : Result ℕ Refusal) → meters_after later outcome ≡ length rows → first + length rows ≡ meters_after (first + later) (counted (first + length rows) outcome)
      meters (Ok n) e = refl
      meters (Err refusal) e = ap (λ (k : ℕ). first + k) (sym e)
