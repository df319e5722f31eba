-- Rows that are well formed: the first row, and those after it. Their MPANs rise.
use Prim.Native.Nat.{ℕ, zero, suc, ◌^◌, ◌<◌}
use mathlib.Core.Path.{◌≡◌, refl}
use mathlib.Core.Bool.{true, ◌&&◌, and-eq-true_iff}
use mathlib.Core.List.{List, [], ◌∷◌}
use native.Mathlib.Nat.{le_of_suc-le-suc, not-suc-le-zero, lt_trans}
use native.Mathlib.Omega.{arith}
use borrow.Author.Tests.{leb-true, ltb-true, lt-ltb}
use lib.Dec.{leb, ltb}
use lib.ListN.{length, get_or}
use Rattle.words.specs.Limits.{mpan_least, mpan_most}
use Rattle.words.specs.Mpan.{is_mpan}
use Rattle.words.specs.Registration.{is_registration}
use Rattle.words.specs.Reading.{is_reading}
use Rattle.book.specs.Rows.{Row, is_row, rows_formed}

-- a row's three words, each well formed
pub record Words (r : Row) : Type 0 where
  pub mpan-formed : is_mpan r.mpan ≡ true
  pub registration-formed : is_registration r.registration ≡ true
  pub reading-formed : is_reading r.reading ≡ true

-- the first row is well formed and above `before`, and the rows after it are well formed and above it
pub record First (before : ℕ) (r : Row) (rows : List Row) : Type 0 where
  pub words : Words r
  pub above : before < r.mpan
  pub after : rows_formed r.mpan rows ≡ true

pub formed-none : (before : ℕ) → rows_formed before [] ≡ true
unfolding rows_formed
formed-none before = refl

pub row_words : (r : Row) → is_row r ≡ true → Words r
row_words r h =
    let w = (and-eq-true_iff (is_mpan r.mpan && is_registration r.registration) (is_reading r.reading)).0 h in
    let v = (and-eq-true_iff (is_mpan r.mpan) (is_registration r.registration)).0 w.0 in
    record { mpan-formed = v.0; registration-formed = v.1; reading-formed = w.1 }

pub formed-first : (before : ℕ) (r : Row) (rows : List Row) → rows_formed before (r ∷ rows) ≡ true → First before r rows
unfolding rows_formed
formed-first before r rows h =
    let a = (and-eq-true_iff (is_row r && ltb before r.mpan) (rows_formed r.mpan rows)).0 h in
    let b = (and-eq-true_iff (is_row r) (ltb before r.mpan)).0 a.0 in
    record {
      words = row_words r b.0;
      above = ltb-true before r.mpan b.1;
      after = a.1;
    }

pub first-formed : (before : ℕ) (r : Row) (rows : List Row) → First before r rows → rows_formed before (r ∷ rows) ≡ true
unfolding rows_formed
first-formed before r rows f =
    rw (f.words.mpan-formed, f.words.registration-formed, f.words.reading-formed, lt-ltb before r.mpan f.above) f.after

-- each row's MPAN is above what stands before the first
pub all_above : (before : ℕ) (rows : List Row) (i : ℕ) (d : Row) → rows_formed before rows ≡ true → i < length rows → before < (get_or rows i d).mpan
all_above before [] i d h l = absurd (not-suc-le-zero l)
all_above before (r ∷ rows) zero d h l = (formed-first before r rows h).above
all_above before (r ∷ rows) (suc i) d h l =
    let f = formed-first before r rows h in
    lt_trans f.above (all_above r.mpan rows i d f.after (le_of_suc-le-suc l))

-- each row's MPAN is in range
pub all-mpans : (before : ℕ) (rows : List Row) (i : ℕ) (d : Row) → rows_formed before rows ≡ true → i < length rows → is_mpan (get_or rows i d).mpan ≡ true
all-mpans before [] i d h l = absurd (not-suc-le-zero l)
all-mpans before (r ∷ rows) zero d h l = (formed-first before r rows h).words.mpan-formed
all-mpans before (r ∷ rows) (suc i) d h l = all-mpans r.mpan rows i d (formed-first before r rows h).after (le_of_suc-le-suc l)

-- an MPAN is a 63-bit number
pub mpan-small : (m : ℕ) → is_mpan m ≡ true → m < 2 ^ 63
unfolding is_mpan
mpan-small m h = omega (arith, leb-true m mpan_most ((and-eq-true_iff (leb mpan_least m) (leb m mpan_most)).0 h).1)
