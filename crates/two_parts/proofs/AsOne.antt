-- The slice as it is with the two parts merged: its rows, its length, and that a call may be made on it.
use Prim.Native.Nat.{ℕ, ◌+◌, ◌*◌, ◌≤◌}
use mathlib.Core.Path.{◌≡◌, sym}
use mathlib.Core.Bool.{true≢false}
use mathlib.Core.List.{List}
use native.Mathlib.Omega.{arith}
use lib.ListN.{length}
use Rattle.book.specs.Rows.{capacity, rows_of, is_known}
use Rattle.book.specs.Helpers.{RowsReady}
use Rattle.book.proofs.Rising.{formed-none}
use Rattle.book.proofs.RowsOf.{length-rows}
use Rattle.book.proofs.Written.{written_same, length-written, rows-of-written}
use Rattle.book.proofs.WellFormed.{room}
use Rattle.two_parts.specs.TwoParts.{merged, later_rows, as_one, PartsReady}
use Rattle.two_parts.proofs.Merged.{length_merged, merged-formed}

-- both parts are within the slice
pub both-fit : {first later : ℕ} {words : List ℕ} → PartsReady first later words → 3 * (first + later) ≤ length words
both-fit {first} {later} {words} ready = room words (first + later) ready.within-capacity

-- the rows up to the capacity end within the slice
pub end-within : {cap : ℕ} (words : List ℕ) → cap ≡ capacity words → 3 * cap ≤ length words
end-within {cap} words e = room words cap (omega (arith, e))

-- that both parts, and the rows up to the capacity, end within the slice, for the search for a proof
pub ruleset ends = (both-fit, end-within)

module _ (first later : ℕ) (words : List ℕ) where
  -- as many rows as the parts have
  pub as-one-count : length (merged (rows_of first words) (later_rows first later words)) ≡ first + later
  unfolding later_rows
  as-one-count = rw (length_merged, length-rows, length-rows)

  pub as-one-rows : PartsReady first later words → rows_of (first + later) (as_one first later words) ≡ merged (rows_of first words) (later_rows first later words)
  unfolding as_one
  as-one-rows ready = rows-of-written (first + later) (merged (rows_of first words) (later_rows first later words)) words as-one-count

  pub as-one-length : PartsReady first later words → length (as_one first later words) ≡ length words
  unfolding as_one
  as-one-length ready =
      length-written (merged (rows_of first words) (later_rows first later words)) words
      (omega (arith, as-one-count, room words (first + later) ready.within-capacity))

  pub as-one-capacity : PartsReady first later words → capacity (as_one first later words) ≡ capacity words
  unfolding capacity
  as-one-capacity ready = rw (as-one-length ready)

  pub as-one-ready : PartsReady first later words → RowsReady (first + later) (as_one first later words)
  as-one-ready ready =
      record {
        within-capacity = rw (as-one-capacity ready) ready.within-capacity;
        formed = rw (as-one-rows ready) (merged-formed (rows_of first words) (later_rows first later words) ready.rows.first-formed ready.rows.later-formed ready.rows.apart);
      }

-- no later rows

pub as-one-none : (n : ℕ) (words : List ℕ) → 3 * n ≤ length words → as_one n 0 words ≡ words
unfolding as_one later_rows merged rows_of
as-one-none n words h = written_same n words h

-- merged, they are one part, which stands for the same rows
pub merged-same : {first later first' later' : ℕ} {words words' : List ℕ} → PartsReady first later words → first' ≡ first + later → later' ≡ 0 → words' ≡ as_one first later words → as_one first' later' words' ≡ as_one first later words
merged-same {first} {later} {words = words} ready f l w =
    rw (f, l, w) (as-one-none (first + later) (as_one first later words) (omega (arith, as-one-length first later words ready, both-fit ready)))

pub none-later : (n : ℕ) (words : List ℕ) → RowsReady n words → PartsReady n 0 words
unfolding later_rows rows_of is_known
none-later n words ready =
    let l = ready.within-capacity in
    record {
      within-capacity = omega arith;
      rows = record { first-formed = ready.formed; later-formed = formed-none 0; apart = λ m k. absurd (true≢false (sym k)) };
    }

pub merged-ready : {first later : ℕ} {words words' : List ℕ} → PartsReady first later words → words' ≡ as_one first later words → PartsReady (first + later) 0 words'
merged-ready {first} {later} {words} ready e = rw e (none-later (first + later) (as_one first later words) (as-one-ready first later words ready))

-- for the search for a proof
pub ruleset begun = (none-later)

pub ruleset merging = (merged-ready, as-one-none)

-- for the search for a proof: storing in two parts is storing in the rows that they stand for
pub ruleset as_lent = (as-one-capacity)
