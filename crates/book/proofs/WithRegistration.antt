-- Rows with a registration stored: a new row in its place, or one word of a row that is there. The rows stay well formed.
use Prim.Native.Nat.{ℕ, ◌+◌, ◌*◌, ◌-◌, ◌≤◌, ◌<◌}
use mathlib.Core.Path.{◌≡◌, refl, sym, ◌∙◌, ap}
use mathlib.Core.Bool.{true, false, true≢false}
use mathlib.Core.List.{List, [], ◌∷◌, ◌++◌}
use native.Mathlib.Omega.{arith}
use borrow.Author.Tests.{lt-ltb, le-ltb, eq-eqb, ne_eqb}
use lib.ListN.{length, get_or, set, take, drop, length-append, length-take, length-drop, length-set}
use Rattle.words.specs.Mpan.{is_mpan}
use Rattle.words.specs.Registration.{is_registration}
use Rattle.words.proofs.ReadingWord.{no-reading-well-formed}
use Rattle.book.specs.Rows.{Row, first_row, rows_of, rows_formed, is_known, new_row, with_registration, written}
use Rattle.book.specs.Helpers.{place_of}
use Rattle.book.proofs.RowsOf.{row-of}
use Rattle.book.proofs.Rising.{Words, formed-none, formed-first, first-formed}
use Rattle.book.proofs.PlaceOf.{by-mpan, place-next, place_here, known_next, known-here, first_above, known-within-in, known-mpan-in, place-within, place-within-in}
use Rattle.book.proofs.Written.{written-inserted, written-registration}

module _ (r : Row) (rows : List Row) (m w : ℕ) where
  pub stored_next : r.mpan < m → with_registration m w (r ∷ rows) ≡ r ∷ with_registration m w rows
  unfolding with_registration
  stored_next h = rw (lt-ltb r.mpan m h)

  pub stored_here : r.mpan ≡ m → with_registration m w (r ∷ rows) ≡ record { mpan = m; registration = w; reading = r.reading } ∷ rows
  unfolding with_registration
  stored_here h = rw (le-ltb r.mpan m (omega arith), eq-eqb r.mpan m h)

  pub stored-before : m < r.mpan → with_registration m w (r ∷ rows) ≡ new_row m w ∷ r ∷ rows
  unfolding with_registration
  stored-before h = rw (le-ltb r.mpan m (omega arith), ne_eqb r.mpan m (λ e. omega arith))

-- a new meter's row stands at its place
pub registration-inserted : (m w : ℕ) (rows : List Row) → is_known m rows ≡ false → with_registration m w rows ≡ take (place_of m rows) rows ++ new_row m w ∷ drop (place_of m rows) rows
unfolding with_registration place_of
registration-inserted m w [] h = refl
registration-inserted m w (r ∷ rows) h =
    by-mpan r m
    (λ b.
    let k : is_known m rows ≡ false = rw (known_next r rows m (λ e. omega arith)) at h in
    rw (stored_next r rows m w b, place-next r rows m b, registration-inserted m w rows k))
    (λ b. absurd (true≢false (sym (known-here r rows m b) ∙ h)))
    (λ b. rw (stored-before r rows m w b, place_here r rows m (omega arith)))

-- a known meter's row has another registration
pub registration-replaced : (before m w : ℕ) (rows : List Row) (d : Row) → rows_formed before rows ≡ true → is_known m rows ≡ true → with_registration m w rows ≡ set rows (place_of m rows) (record { mpan = m; registration = w; reading = (get_or rows (place_of m rows) d).reading })
unfolding is_known
registration-replaced before m w [] d f h = absurd (true≢false (sym h))
registration-replaced before m w (r ∷ rows) d f h =
    by-mpan r m
    (λ b.
    let k : is_known m rows ≡ true = rw (known_next r rows m (λ e. omega arith)) at h in
    rw (stored_next r rows m w b, place-next r rows m b, registration-replaced r.mpan m w rows d (formed-first before r rows f).after k))
    (λ b. rw (stored_here r rows m w b, place_here r rows m (omega arith)))
    (λ b. absurd (true≢false (sym h ∙ first_above before r rows m f b)))

pub length_inserted : (m w : ℕ) (rows : List Row) → is_known m rows ≡ false → length (with_registration m w rows) ≡ length rows + 1
length_inserted m w rows h =
    ap length (registration-inserted m w rows h)
    ∙ simp (length-append, length-take, length-drop) (omega (arith, place-within m rows))

pub length-replaced : (before m w : ℕ) (rows : List Row) → rows_formed before rows ≡ true → is_known m rows ≡ true → length (with_registration m w rows) ≡ length rows
length-replaced before m w rows f h = ap length (registration-replaced before m w rows (new_row m w) f h) ∙ simp length-set

new-row-formed : (m w : ℕ) → is_mpan m ≡ true → is_registration w ≡ true → Words (new_row m w)
new-row-formed m w hm hw = record { mpan-formed = hm; registration-formed = hw; reading-formed = no-reading-well-formed }

-- the rows are well formed afterwards
pub registration-formed : (before m w : ℕ) (rows : List Row) → rows_formed before rows ≡ true → before < m → is_mpan m ≡ true → is_registration w ≡ true → rows_formed before (with_registration m w rows) ≡ true
unfolding with_registration
registration-formed before m w [] f l hm hw =
    first-formed before (new_row m w) [] (record { words = new-row-formed m w hm hw; above = l; after = formed-none m })
registration-formed before m w (r ∷ rows) f l hm hw =
    let first = formed-first before r rows f in
    by-mpan r m
    (λ b.
    rw (stored_next r rows m w b)
    (first-formed before r (with_registration m w rows)
    (record { words = first.words; above = first.above; after = registration-formed r.mpan m w rows first.after b hm hw })))
    (λ b.
    let row : Row = record { mpan = m; registration = w; reading = r.reading } in
    rw (stored_here r rows m w b)
    (first-formed before row rows
    (record { words = record { mpan-formed = hm; registration-formed = hw; reading-formed = first.words.reading-formed }; above = l; after = rw b at first.after })))
    (λ b.
    rw (stored-before r rows m w b)
    (first-formed before (new_row m w) (r ∷ rows)
    (record { words = new-row-formed m w hm hw; above = l; after = first-formed m r rows (record { words = first.words; above = b; after = first.after }) })))

-- the same in a slice's words

module _ (words : List ℕ) (n m w : ℕ) (room : 3 * n ≤ length words) where
  -- a new meter's row is inserted: the words before its place stay, and those from there on are what `insert_row` leaves
  pub registration-inserts : is_known m (rows_of n words) ≡ false → written (with_registration m w (rows_of n words)) words ≡ take (3 * place_of m (rows_of n words)) words ++ written (new_row m w ∷ rows_of (n - place_of m (rows_of n words)) (drop (3 * place_of m (rows_of n words)) words)) (drop (3 * place_of m (rows_of n words)) words)
  registration-inserts h =
      rw (registration-inserted m w (rows_of n words) h) (written-inserted n (place_of m (rows_of n words)) (new_row m w) words room (place-within-in words n m))

  -- a known meter's word 1 is stored
  pub registration-stores : (before : ℕ) → rows_formed before (rows_of n words) ≡ true → is_known m (rows_of n words) ≡ true → written (with_registration m w (rows_of n words)) words ≡ set words (3 * place_of m (rows_of n words) + 1) w
  registration-stores before f h =
      let there = known-within-in words n m h in
      let e = row-of n (place_of m (rows_of n words)) words (first_row words) there in
      rw (registration-replaced before m w (rows_of n words) (first_row words) f h, e)
      (rw (known-mpan-in words n m before f h) at (written-registration n (place_of m (rows_of n words)) w words room there))
