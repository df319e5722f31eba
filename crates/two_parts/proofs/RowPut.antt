-- One row of a slice by its number: the last of the first rows, a row that is kept, and a row that is put in the place of another.
use Prim.Native.Nat.{ℕ, zero, suc, ◌+◌, ◌*◌, ◌-◌, ◌≤◌, ◌<◌}
use mathlib.Core.Path.{◌≡◌, refl, sym, ◌∙◌, ap}
use mathlib.Core.Bool.{true}
use mathlib.Core.List.{List, [], ◌∷◌, ◌++◌}
use native.Mathlib.Omega.{arith}
use borrow.Rule.Slice.PartMut.{put_mid}
use lib.ListN.{length, get_or, take, drop, length-append, length-take, length-drop}
use lib.Seq.{take-append-le, drop-drop, drop_at}
use Rattle.book.specs.Rows.{Row, first_row, rows_of, rows_formed, is_known, words_of, written}
use Rattle.book.proofs.RowsOf.{first-row, length-rows, take-rows, row-of, words-of-rows, length-words}
use Rattle.book.proofs.Written.{written-append, length-written, rows-of-written}
use Rattle.two_parts.specs.Merge.{row_of, row_put}
use Rattle.two_parts.proofs.MergedBack.{Below, below_last, formed-take, known-there}

-- one row more
pub rows_last : (n : ℕ) (words : List ℕ) → rows_of (suc n) words ≡ rows_of n words ++ row_of n words ∷ []
unfolding rows_of
rows_last zero words = refl
rows_last (suc n) words =
    let e : 3 + 3 * n ≡ 3 * suc n = omega arith in
    ap (λ (l : List Row). first_row words ∷ l) (rows_last n (drop 3 words) ∙ rw (drop-drop (3 * n) 3 words, e))

module _ (n i : ℕ) (there : i < n) where
  pub row_is : (words : List ℕ) (d : Row) → get_or (rows_of n words) i d ≡ row_of i words
  row_is words d = row-of n i words d there ∙ sym (first-row words (3 * i))

  -- the same rows have the same row i
  pub row_kept : (words before : List ℕ) → rows_of n words ≡ rows_of n before → row_of i words ≡ row_of i before
  row_kept words before e =
      sym (row_is words (first_row words)) ∙ ap (λ (l : List Row). get_or l i (first_row words)) e ∙ row_is before (first_row words)

  pub row-known : (words : List ℕ) → is_known (row_of i words).mpan (rows_of n words) ≡ true
  row-known words =
      let k = known-there (rows_of n words) i (first_row words) (rw length-rows there) in
      rw (row_is words (first_row words)) at k

  -- rows that rise are below the next
  pub below_row : (words : List ℕ) → rows_formed 0 (rows_of n words) ≡ true → Below (row_of i words).mpan (rows_of i words)
  below_row words f =
      let g : rows_formed 0 (rows_of (suc i) words) ≡ true = rw (take-rows (suc i) n words there) at (formed-take 0 (suc i) (rows_of n words) f) in
      below_last 0 (rows_of i words) (row_of i words) (rw (rows_last i words) at g)

module _ (i : ℕ) (r : Row) (words : List ℕ) where
  put_count : length (rows_of i words ++ r ∷ []) ≡ i + 1
  put_count = rw (length-append, length-rows)

  pub length-put : 3 * (i + 1) ≤ length words → length (row_put i r words) ≡ length words
  unfolding row_put
  length-put room = length-written (rows_of i words ++ r ∷ []) words (rw put_count room)

  -- the rows before it stay
  pub rows-before-put : (n : ℕ) → n ≤ i → rows_of n (row_put i r words) ≡ rows_of n words
  unfolding row_put
  rows-before-put n h =
      let back = rows-of-written (i + 1) (rows_of i words ++ r ∷ []) words put_count in
      let long : n ≤ length (rows_of i words) = rw length-rows h in
      sym (take-rows n (i + 1) (row_put i r words) (omega arith))
      ∙ ap (take n) back
      ∙ take-append-le n (rows_of i words) (r ∷ []) long
      ∙ take-rows n i words h

  -- and so do the words after it
  pub words-from-put : drop (3 * i) (row_put i r words) ≡ r.mpan ∷ r.registration ∷ r.reading ∷ drop (3 * suc i) words
  unfolding row_put written words_of
  words-from-put =
      let e : 3 * i + 3 ≡ 3 * suc i = omega arith in
      rw (written-append (rows_of i words) (r ∷ []) words)
      (drop_at (words_of (rows_of i words)) (written (r ∷ []) (drop (3 * length (rows_of i words)) words)) (3 * i) (rw (length-words, length-rows))
      ∙ rw (length-rows, drop-drop 3 (3 * i) words, e))

-- put as three words
three-put : (i : ℕ) (three words : List ℕ) → length three ≡ 3 → 3 * (i + 1) ≤ length words → take (3 * i) words ++ (three ++ drop (3 * i + 3) words) ≡ row_put i (first_row three) words
unfolding row_put written words_of
three-put i (a ∷ b ∷ c ∷ []) words l room = rw (written-append, length-rows, words-of-rows i words (omega arith), drop-drop 3 (3 * i) words)
three-put i [] words l room = absurd (omega arith)
three-put i (a ∷ []) words l room = absurd (omega arith)
three-put i (a ∷ b ∷ []) words l room = absurd (omega arith)
three-put i (a ∷ b ∷ c ∷ d ∷ more) words l room = absurd (omega arith)

pub row-put : (i : ℕ) (three words : List ℕ) → length three ≡ length (take (3 * i + 3 - 3 * i) (drop (3 * i) words)) → 3 * (i + 1) ≤ length words → put_mid (3 * i) (3 * i + 3 - 3 * i) words three ≡ row_put i (first_row three) words
row-put i three words l room =
    let e : 3 * i + 3 - 3 * i ≡ 3 = omega arith in
    rw (e, drop-drop 3 (3 * i) words) (three-put i three words (l ∙ simp (length-take, length-drop) (omega arith)) room)

-- for the search for a proof
pub ruleset put = (row-put)
