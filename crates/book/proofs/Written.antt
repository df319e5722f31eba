-- Rows written at the start of a slice: read back, and as the stores that the code makes.
use Prim.Native.Nat.{ℕ, suc, ◌+◌, ◌*◌, ◌-◌, ◌≤◌, ◌<◌}
use mathlib.Core.Path.{◌≡◌, refl, sym, ◌∙◌, ap}
use mathlib.Core.List.{List, [], ◌∷◌, ◌++◌, append_assoc}
use native.Mathlib.Numerals.{add-one, add-two}
use native.Mathlib.Omega.{arith}
use lib.ListN.{length, get_or, set, take, drop, length-append, length-drop, take-append-drop}
use lib.Seq.{drop-drop, set_split, sets-eq, set-get_or, get_or-set_other}
use Rattle.book.specs.Rows.{Row, rows_of, words_of, written}
use Rattle.book.proofs.RowsOf.{length-rows, take-rows, drop-rows, words-of-rows, length-words}

words_append : (rows more : List Row) → words_of (rows ++ more) ≡ words_of rows ++ words_of more
unfolding words_of
words_append [] more = refl
words_append (r ∷ rows) more = rw (words_append rows more)

-- rows after others: written behind their words
pub written-append : (rows more : List Row) (words : List ℕ) → written (rows ++ more) words ≡ words_of rows ++ written more (drop (3 * length rows) words)
unfolding written
written-append rows more words =
    let e : 3 * length rows + 3 * length more ≡ 3 * (length rows + length more) = omega arith in
    rw (words_append rows more, length-append rows more, drop-drop (3 * length more) (3 * length rows) words, e, append_assoc)

-- a row before others: its three words
pub written-cons : (r : Row) (rows : List Row) (words : List ℕ) → written (r ∷ rows) words ≡ r.mpan ∷ r.registration ∷ r.reading ∷ written rows (drop 3 words)
unfolding written words_of
written-cons r rows words =
    let e : 3 * suc (length rows) ≡ 3 + 3 * length rows = omega arith in
    rw (e, drop-drop (3 * length rows) 3 words)

-- the rows that stand there already change nothing
pub written_same : (n : ℕ) (words : List ℕ) → 3 * n ≤ length words → written (rows_of n words) words ≡ words
unfolding written
written_same n words h = rw (words-of-rows n words h, length-rows n words) (take-append-drop (3 * n) words)

pub length-written : (rows : List Row) (words : List ℕ) → 3 * length rows ≤ length words → length (written rows words) ≡ length words
unfolding written
length-written rows words h = rw (length-append, length-words, length-drop) (omega arith)

read_back : (rows : List Row) (words : List ℕ) → rows_of (length rows) (written rows words) ≡ rows
unfolding rows_of
read_back [] words = refl
read_back (r ∷ rows) words = rw (written-cons r rows words) (ap (λ (l : List Row). r ∷ l) (read_back rows (drop 3 words)))

-- what was written is read back
pub rows-of-written : (n : ℕ) (rows : List Row) (words : List ℕ) → length rows ≡ n → rows_of n (written rows words) ≡ rows
rows-of-written n rows words e = rw (← e) (read_back rows words)

module _ (n k : ℕ) (r : Row) (words : List ℕ) (room : 3 * n ≤ length words) where
  -- a new row k among the first n: the words from its place on are those that `insert_row` leaves
  pub written-inserted : k ≤ n → written (take k (rows_of n words) ++ r ∷ drop k (rows_of n words)) words ≡ take (3 * k) words ++ written (r ∷ rows_of (n - k) (drop (3 * k) words)) (drop (3 * k) words)
  written-inserted h = rw (take-rows k n words h, drop-rows k n words h, written-append, length-rows, words-of-rows k words (omega arith))

  -- row k replaced: its three words are stored
  pub written-set : k < n → written (set (rows_of n words) k r) words ≡ set (set (set words (3 * k) r.mpan) (3 * k + 1) r.registration) (3 * k + 2) r.reading
  written-set h =
      let l : k < length (rows_of n words) = rw length-rows h in
      let e : 3 * suc k ≡ 3 * k + 3 = omega arith in
      let left : length (drop (3 * k + 3) words) ≡ length words - (3 * k + 3) = length-drop (3 * k + 3) words in
      let three = r.mpan ∷ r.registration ∷ r.reading ∷ [] in
      rw (set_split (rows_of n words) k r l, take-rows k n words (omega arith), drop-rows (suc k) n words h)
      (rw (written-append, length-rows, words-of-rows k words (omega arith), written-cons, drop-drop, e)
      (rw (written_same (n - suc k) (drop (3 * k + 3) words) (omega arith), add-one, add-two)
      (sym (sets-eq three words (3 * k) (omega arith) ∙ append_assoc (take (3 * k) words) three (drop (3 * k + 3) words)))))

module _ (n k w : ℕ) (words : List ℕ) (room : 3 * n ≤ length words) (there : k < n) where
  -- row k with another registration: one word is stored
  pub written-registration : written (set (rows_of n words) k (record { mpan = get_or words (3 * k) 0; registration = w; reading = get_or words (3 * k + 2) 0 })) words ≡ set words (3 * k + 1) w
  written-registration =
      let row : Row = record { mpan = get_or words (3 * k) 0; registration = w; reading = get_or words (3 * k + 2) 0 } in
      let kept = get_or-set_other words (3 * k + 1) (3 * k + 2) w 0 (λ e. omega arith) in
      written-set n k row words room there
      ∙ rw (set-get_or words (3 * k) 0, ← kept, set-get_or)

  -- row k with another reading: one word is stored
  pub written-reading : written (set (rows_of n words) k (record { mpan = get_or words (3 * k) 0; registration = get_or words (3 * k + 1) 0; reading = w })) words ≡ set words (3 * k + 2) w
  written-reading =
      let row : Row = record { mpan = get_or words (3 * k) 0; registration = get_or words (3 * k + 1) 0; reading = w } in
      written-set n k row words room there
      ∙ rw (set-get_or words (3 * k) 0, set-get_or words (3 * k + 1) 0)
