-- Rows with a reading stored: one word of a known meter's row. The rows stay well formed.
use Prim.Native.Nat.{ℕ, suc, ◌+◌, ◌*◌, ◌≤◌}
use mathlib.Core.Path.{◌≡◌, refl, sym, ◌∙◌, ap}
use mathlib.Core.Bool.{true, true≢false}
use mathlib.Core.List.{List, [], ◌∷◌}
use native.Mathlib.Omega.{arith}
use borrow.Author.Tests.{eq-eqb, ne_eqb}
use lib.ListN.{length, get_or, set}
use Rattle.words.specs.Reading.{is_reading}
use Rattle.book.specs.Rows.{Row, first_row, rows_of, rows_formed, is_known, with_reading, written}
use Rattle.book.specs.Helpers.{place_of}
use Rattle.book.proofs.RowsOf.{row-of}
use Rattle.book.proofs.Rising.{formed-none, formed-first, first-formed}
use Rattle.book.proofs.PlaceOf.{by-mpan, place-next, place_here, known_next, first_above, known-within-in, known-mpan-in}
use Rattle.book.proofs.Written.{written-reading}

module _ (r : Row) (rows : List Row) (m : ℕ) where
  pub stored_next : (w : ℕ) → (r.mpan ≡ m → ⊥) → with_reading m w (r ∷ rows) ≡ r ∷ with_reading m w rows
  unfolding with_reading
  stored_next w h = rw (ne_eqb r.mpan m h)

  pub stored_here : (w : ℕ) → r.mpan ≡ m → with_reading m w (r ∷ rows) ≡ record { mpan = m; registration = r.registration; reading = w } ∷ rows
  unfolding with_reading
  stored_here w h = rw (eq-eqb r.mpan m h)

-- a known meter's row has another reading
pub reading-replaced : (before m w : ℕ) (rows : List Row) (d : Row) → rows_formed before rows ≡ true → is_known m rows ≡ true → with_reading m w rows ≡ set rows (place_of m rows) (record { mpan = m; registration = (get_or rows (place_of m rows) d).registration; reading = w })
unfolding is_known
reading-replaced before m w [] d f h = absurd (true≢false (sym h))
reading-replaced before m w (r ∷ rows) d f h =
    by-mpan r m
    (λ b.
    let n : r.mpan ≡ m → ⊥ = λ e. omega arith in
    let k : is_known m rows ≡ true = rw (known_next r rows m n) at h in
    rw (stored_next r rows m w n, place-next r rows m b, reading-replaced r.mpan m w rows d (formed-first before r rows f).after k))
    (λ b. rw (stored_here r rows m w b, place_here r rows m (omega arith)))
    (λ b. absurd (true≢false (sym h ∙ first_above before r rows m f b)))

pub length-reading : (m w : ℕ) (rows : List Row) → length (with_reading m w rows) ≡ length rows
unfolding with_reading
length-reading m w [] = refl
length-reading m w (r ∷ rows) =
    by-mpan r m
    (λ b. rw (stored_next r rows m w (λ e. omega arith)) (ap suc (length-reading m w rows)))
    (λ b. rw (stored_here r rows m w b))
    (λ b. rw (stored_next r rows m w (λ e. omega arith)) (ap suc (length-reading m w rows)))

-- the rows are well formed afterwards
pub reading-formed : (before m w : ℕ) (rows : List Row) → rows_formed before rows ≡ true → is_reading w ≡ true → rows_formed before (with_reading m w rows) ≡ true
unfolding with_reading
reading-formed before m w [] f hw = formed-none before
reading-formed before m w (r ∷ rows) f hw =
    let first = formed-first before r rows f in
    let words = first.words in
    let kept : rows_formed before (r ∷ with_reading m w rows) ≡ true = first-formed before r (with_reading m w rows) (record { words = words; above = first.above; after = reading-formed r.mpan m w rows first.after hw }) in
    by-mpan r m
    (λ b. rw (stored_next r rows m w (λ e. omega arith)) kept)
    (λ b.
    let row : Row = record { mpan = m; registration = r.registration; reading = w } in
    rw (stored_here r rows m w b)
    (first-formed before row rows
    (record {
      words = record { mpan-formed = rw b at words.mpan-formed; registration-formed = words.registration-formed; reading-formed = hw };
      above = rw b at first.above;
      after = rw b at first.after;
    })))
    (λ b. rw (stored_next r rows m w (λ e. omega arith)) kept)

-- the same in a slice's words

module _ (words : List ℕ) (n m before : ℕ) (f : rows_formed before (rows_of n words) ≡ true) (h : is_known m (rows_of n words) ≡ true) where
  -- a known meter's word 2 is stored
  pub reading-stores : (w : ℕ) → 3 * n ≤ length words → written (with_reading m w (rows_of n words)) words ≡ set words (3 * place_of m (rows_of n words) + 2) w
  reading-stores w room =
      let there = known-within-in words n m h in
      let e = row-of n (place_of m (rows_of n words)) words (first_row words) there in
      rw (reading-replaced before m w (rows_of n words) (first_row words) f h, e)
      (rw (known-mpan-in words n m before f h) at (written-reading n (place_of m (rows_of n words)) w words room there))
