-- Where a meter's row stands among rows that rise, and whether it is there: what the search for an MPAN finds.
use Prim.Native.Nat.{ℕ, zero, suc, ◌*◌, ◌≤◌, ◌<◌, zero-le, suc-le-suc}
use mathlib.Core.Path.{◌≡◌, refl, sym, ◌∙◌, ap}
use mathlib.Core.Bool.{Bool, true, false, true≢false}
use mathlib.Core.List.{List, [], ◌∷◌}
use native.Mathlib.Nat.{le_of_suc-le-suc, not-suc-le-zero, lt_trans}
use native.Mathlib.Omega.{arith}
use borrow.Author.Tests.{ltb-true, ltb-false, eqb-true, eqb-false, lt-ltb, le-ltb, eq-eqb, ne_eqb}
use lib.Dec.{ltb, eqb}
use lib.ListN.{length, get_or}
use Rattle.words.specs.Mpan.{is_mpan}
use Rattle.book.specs.Rows.{Row, first_row, rows_of, rows_formed, is_known}
use Rattle.book.specs.Helpers.{place_of}
use Rattle.book.proofs.Rising.{formed-first, all_above, all-mpans}
use Rattle.book.proofs.RowsOf.{length-rows, row-of}

-- a row's MPAN is below the one looked for, or is it, or is above it
pub by-mpan : {X : Type 0} (r : Row) (m : ℕ) → (r.mpan < m → X) → (r.mpan ≡ m → X) → (m < r.mpan → X) → X
by-mpan {X} r m below same above = less (ltb r.mpan m) refl
  where
    not-less : (t : Bool) → m ≤ r.mpan → eqb r.mpan m ≡ t → X
    not-less true l e = same (eqb-true r.mpan m e)
    not-less false l e =
        let n = eqb-false r.mpan m e in
        above (omega (arith, n))

    less : (t : Bool) → ltb r.mpan m ≡ t → X
    less true e = below (ltb-true r.mpan m e)
    less false e = not-less (eqb r.mpan m) (ltb-false r.mpan m e) refl

module _ (r : Row) (rows : List Row) (m : ℕ) where
  pub place-next : r.mpan < m → place_of m (r ∷ rows) ≡ suc (place_of m rows)
  unfolding place_of
  place-next h = rw (lt-ltb r.mpan m h)

  pub place_here : m ≤ r.mpan → place_of m (r ∷ rows) ≡ 0
  unfolding place_of
  place_here h = rw (le-ltb r.mpan m h)

  pub known_next : (r.mpan ≡ m → ⊥) → is_known m (r ∷ rows) ≡ is_known m rows
  unfolding is_known
  known_next h = rw (ne_eqb r.mpan m h)

  pub known-here : r.mpan ≡ m → is_known m (r ∷ rows) ≡ true
  unfolding is_known
  known-here h = rw (eq-eqb r.mpan m h)

pub place-within : (m : ℕ) (rows : List Row) → place_of m rows ≤ length rows
unfolding place_of
place-within m [] = zero-le
place-within m (r ∷ rows) =
    by-mpan r m
    (λ h. rw (place-next r rows m h) (suc-le-suc (place-within m rows)))
    (λ h. rw (place_here r rows m (omega arith)) zero-le)
    (λ h. rw (place_here r rows m (omega arith)) zero-le)

-- a row whose MPAN is below stands before the place
pub before-place : (before : ℕ) (rows : List Row) (m i : ℕ) (d : Row) → rows_formed before rows ≡ true → i < length rows → (get_or rows i d).mpan < m → i < place_of m rows
before-place before [] m i d f l h = absurd (not-suc-le-zero l)
before-place before (r ∷ rows) m zero d f l h = rw (place-next r rows m h) (suc-le-suc zero-le)
before-place before (r ∷ rows) m (suc i) d f l h =
    let a = (formed-first before r rows f).after in
    let g = all_above r.mpan rows i d a (le_of_suc-le-suc l) in
    rw (place-next r rows m (lt_trans g h)) (suc-le-suc (before-place r.mpan rows m i d a (le_of_suc-le-suc l) h))

-- a row whose MPAN is not below stands at the place or after it
pub place-before : (rows : List Row) (m i : ℕ) (d : Row) → i < length rows → m ≤ (get_or rows i d).mpan → place_of m rows ≤ i
place-before [] m i d l h = absurd (not-suc-le-zero l)
place-before (r ∷ rows) m zero d l h = rw (place_here r rows m h) zero-le
place-before (r ∷ rows) m (suc i) d l h =
    by-mpan r m
    (λ b. rw (place-next r rows m b) (suc-le-suc (place-before rows m i d (le_of_suc-le-suc l) h)))
    (λ b. rw (place_here r rows m (omega arith)) zero-le)
    (λ b. rw (place_here r rows m (omega arith)) zero-le)

-- a row whose MPAN it is stands at the place
pub place_same : (before : ℕ) (rows : List Row) (m i : ℕ) (d : Row) → rows_formed before rows ≡ true → i < length rows → (get_or rows i d).mpan ≡ m → place_of m rows ≡ i
place_same before [] m i d f l h = absurd (not-suc-le-zero l)
place_same before (r ∷ rows) m zero d f l h = place_here r rows m (omega arith)
place_same before (r ∷ rows) m (suc i) d f l h =
    let a = (formed-first before r rows f).after in
    let g = all_above r.mpan rows i d a (le_of_suc-le-suc l) in
    place-next r rows m (omega arith) ∙ ap suc (place_same r.mpan rows m i d a (le_of_suc-le-suc l) h)

-- no row after one above m is m's
pub none_above : (before : ℕ) (rows : List Row) (m : ℕ) → rows_formed before rows ≡ true → m ≤ before → is_known m rows ≡ false
unfolding is_known
none_above before [] m f h = refl
none_above before (r ∷ rows) m f h =
    let g = formed-first before r rows f in
    let a = g.above in
    known_next r rows m (λ e. omega arith) ∙ none_above r.mpan rows m g.after (omega arith)

-- nor is the first row, where it is above m
pub first_above : (before : ℕ) (r : Row) (rows : List Row) (m : ℕ) → rows_formed before (r ∷ rows) ≡ true → m < r.mpan → is_known m (r ∷ rows) ≡ false
first_above before r rows m f h =
    known_next r rows m (λ e. omega arith) ∙ none_above r.mpan rows m (formed-first before r rows f).after (omega arith)

-- where a row stands at the place, it decides whether the meter is known
pub known_at : (before : ℕ) (rows : List Row) (m : ℕ) (d : Row) → rows_formed before rows ≡ true → place_of m rows < length rows → is_known m rows ≡ eqb (get_or rows (place_of m rows) d).mpan m
known_at before [] m d f l = absurd (not-suc-le-zero l)
known_at before (r ∷ rows) m d f l =
    by-mpan r m
    (λ h.
    let e = place-next r rows m h in
    let k : place_of m rows < length rows = le_of_suc-le-suc (rw e at l) in
    rw (e, known_next r rows m (λ q. omega arith)) (known_at r.mpan rows m d (formed-first before r rows f).after k))
    (λ h. rw (place_here r rows m (omega arith)) (known-here r rows m h ∙ sym (eq-eqb r.mpan m h)))
    (λ h. rw (place_here r rows m (omega arith)) (first_above before r rows m f h ∙ sym (ne_eqb r.mpan m (λ q. omega arith))))

-- and where none stands there, it is not
pub known-none : (rows : List Row) (m : ℕ) → length rows ≤ place_of m rows → is_known m rows ≡ false
unfolding is_known
known-none [] m h = refl
known-none (r ∷ rows) m h =
    by-mpan r m
    (λ b. known_next r rows m (λ q. omega arith) ∙ known-none rows m (le_of_suc-le-suc (rw (place-next r rows m b) at h)))
    (λ b. absurd (not-suc-le-zero (rw (place_here r rows m (omega arith)) at h)))
    (λ b. absurd (not-suc-le-zero (rw (place_here r rows m (omega arith)) at h)))

-- the row of a known meter stands at its place
pub known-within : (rows : List Row) (m : ℕ) → is_known m rows ≡ true → place_of m rows < length rows
known-within rows m h = go (ltb (place_of m rows) (length rows)) refl
  where
    go : (t : Bool) → ltb (place_of m rows) (length rows) ≡ t → place_of m rows < length rows
    go true e = ltb-true (place_of m rows) (length rows) e
    go false e = absurd (true≢false (sym h ∙ known-none rows m (ltb-false (place_of m rows) (length rows) e)))

pub known-mpan : (before : ℕ) (rows : List Row) (m : ℕ) (d : Row) → rows_formed before rows ≡ true → is_known m rows ≡ true → (get_or rows (place_of m rows) d).mpan ≡ m
known-mpan before rows m d f h = eqb-true (get_or rows (place_of m rows) d).mpan m (sym (known_at before rows m d f (known-within rows m h)) ∙ h)

-- the same of the first n rows of a slice, by their words: word 3 * i is row i's MPAN

pub place-within-in : (words : List ℕ) (n m : ℕ) → place_of m (rows_of n words) ≤ n
place-within-in words n m = rw (length-rows n words) at (place-within m (rows_of n words))

module _ (words : List ℕ) (n i : ℕ) (inside : i < n) where
  row-there : i < length (rows_of n words)
  row-there = rw length-rows inside

  mpan-there : (get_or (rows_of n words) i (first_row words)).mpan ≡ get_or words (3 * i) 0
  mpan-there = ap (λ (r : Row). r.mpan) (row-of n i words (first_row words) inside)

  pub mpan-in : rows_formed 0 (rows_of n words) ≡ true → is_mpan (get_or words (3 * i) 0) ≡ true
  mpan-in f = rw mpan-there at (all-mpans 0 (rows_of n words) i (first_row words) f row-there)

  pub before-place-in : (m : ℕ) → rows_formed 0 (rows_of n words) ≡ true → get_or words (3 * i) 0 < m → i < place_of m (rows_of n words)
  before-place-in m f h = before-place 0 (rows_of n words) m i (first_row words) f row-there (rw mpan-there h)

  pub place-before-in : (m : ℕ) → m ≤ get_or words (3 * i) 0 → place_of m (rows_of n words) ≤ i
  place-before-in m h = place-before (rows_of n words) m i (first_row words) row-there (rw mpan-there h)

  pub place-same-in : (m : ℕ) → rows_formed 0 (rows_of n words) ≡ true → get_or words (3 * i) 0 ≡ m → place_of m (rows_of n words) ≡ i
  place-same-in m f h = place_same 0 (rows_of n words) m i (first_row words) f row-there (mpan-there ∙ h)

module _ (words : List ℕ) (n m : ℕ) where
  pub known-none-in : n ≤ place_of m (rows_of n words) → is_known m (rows_of n words) ≡ false
  known-none-in h = known-none (rows_of n words) m (rw length-rows h)

  pub known-at-in : rows_formed 0 (rows_of n words) ≡ true → place_of m (rows_of n words) < n → is_known m (rows_of n words) ≡ eqb (get_or words (3 * place_of m (rows_of n words)) 0) m
  known-at-in f h =
      known_at 0 (rows_of n words) m (first_row words) f (row-there words n (place_of m (rows_of n words)) h)
      ∙ ap (λ (x : ℕ). eqb x m) (mpan-there words n (place_of m (rows_of n words)) h)

  -- a row whose MPAN it is decides both
  pub known-same-in : (i : ℕ) → rows_formed 0 (rows_of n words) ≡ true → i < n → get_or words (3 * i) 0 ≡ m → is_known m (rows_of n words) ≡ true
  known-same-in i f l h =
      let e = place-same-in words n i l m f h in
      known-at-in f (rw e l) ∙ rw e (eq-eqb (get_or words (3 * i) 0) m h)

  pub known-within-in : is_known m (rows_of n words) ≡ true → place_of m (rows_of n words) < n
  known-within-in h = rw (length-rows n words) at (known-within (rows_of n words) m h)

  pub known-mpan-in : (before : ℕ) → rows_formed before (rows_of n words) ≡ true → is_known m (rows_of n words) ≡ true → get_or words (3 * place_of m (rows_of n words)) 0 ≡ m
  known-mpan-in before f h =
      sym (mpan-there words n (place_of m (rows_of n words)) (known-within-in h)) ∙ known-mpan before (rows_of n words) m (first_row words) f h

-- for the search for a proof
pub ruleset found = (eq-eqb, ne_eqb, known-none-in, known-at-in)

pub ruleset near = (place-same-in, known-same-in)
