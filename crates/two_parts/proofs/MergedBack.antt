-- Rows merged from the back: the last row of the merged rows is the last of one part.
use Prim.Native.Nat.{ℕ, zero, suc, ◌≤◌, ◌<◌}
use mathlib.Core.Path.{◌≡◌, refl, ◌∙◌, ap}
use mathlib.Core.Bool.{true}
use mathlib.Core.List.{List, [], ◌∷◌, ◌++◌}
use native.Mathlib.Nat.{le_of_suc-le-suc, not-suc-le-zero, lt_trans}
use native.Mathlib.Omega.{arith}
use lib.ListN.{length, get_or, take}
use Rattle.book.specs.Rows.{Row, rows_formed, is_known}
use Rattle.book.proofs.Rising.{formed-none, formed-first, first-formed}
use Rattle.book.proofs.PlaceOf.{known_next, known-here}
use Rattle.two_parts.specs.TwoParts.{with_row, merged}
use Rattle.two_parts.proofs.WithRow.{by_order, by-meter, row_next, row_here}

-- every MPAN is below m
pub data Below (m : ℕ) : List Row → Type 0 where
  none : Below m []
  also : {r : Row} {rows : List Row} → r.mpan < m → Below m rows → Below m (r ∷ rows)

pub below_more : {m n : ℕ} {rows : List Row} → m ≤ n → Below m rows → Below n rows
below_more l none = none
below_more l (also {r} h b) = also {r = r} (omega arith) (below_more l b)

pub below_end : {m : ℕ} (rows : List Row) (z : Row) → Below m rows → z.mpan < m → Below m (rows ++ z ∷ [])
below_end [] z none h = also h none
below_end (r ∷ rows) z (also g b) h = also g (below_end rows z b h)

-- rows that rise are below their last
last-above : (before : ℕ) (rows : List Row) (z : Row) → rows_formed before (rows ++ z ∷ []) ≡ true → before < z.mpan
last-above before [] z f = (formed-first before z [] f).above
last-above before (r ∷ rows) z f =
    let first = formed-first before r (rows ++ z ∷ []) f in
    lt_trans first.above (last-above r.mpan rows z first.after)

pub below_last : (before : ℕ) (rows : List Row) (z : Row) → rows_formed before (rows ++ z ∷ []) ≡ true → Below z.mpan rows
below_last before [] z f = none
below_last before (r ∷ rows) z f =
    let after = (formed-first before r (rows ++ z ∷ []) f).after in
    also (last-above r.mpan rows z after) (below_last r.mpan rows z after)

-- a row above all others stands last, and a row below the last stands before it
row_last : (r : Row) (rows : List Row) → Below r.mpan rows → with_row r rows ≡ rows ++ r ∷ []
unfolding with_row
row_last r [] none = refl
row_last r (x ∷ rows) (also h b) = row_next r x rows h ∙ ap (λ (l : List Row). x ∷ l) (row_last r rows b)

row-before-last : (r z : Row) (rows : List Row) → r.mpan < z.mpan → with_row r (rows ++ z ∷ []) ≡ with_row r rows ++ z ∷ []
unfolding with_row
row-before-last r z [] h = row_here r z [] (omega arith)
row-before-last r z (x ∷ rows) h =
    by_order x r.mpan
    (λ b. rw (row_next r x rows b, row_next r x (rows ++ z ∷ []) b) (ap (λ (l : List Row). x ∷ l) (row-before-last r z rows h)))
    (λ b. rw (row_here r x rows b, row_here r x (rows ++ z ∷ []) b))

-- the last row of the first part, above all of the later one
pub last-of-first : (A B : List Row) (a : Row) → Below a.mpan B → merged (A ++ a ∷ []) B ≡ merged A B ++ a ∷ []
unfolding merged
last-of-first A [] a none = refl
last-of-first A (r ∷ B) a (also h b) = ap (with_row r) (last-of-first A B a b) ∙ row-before-last r a (merged A B) h

-- the last row of the later part, above all others
pub last-of-later : (A B : List Row) (b : Row) → Below b.mpan A → Below b.mpan B → merged A (B ++ b ∷ []) ≡ merged A B ++ b ∷ []
unfolding merged
last-of-later A [] b all none = row_last b A all
last-of-later A (r ∷ B) b all (also h more) = ap (with_row r) (last-of-later A B b all more) ∙ row-before-last r b (merged A B) h

-- the first rows of well-formed rows are well formed
pub formed-take : (before n : ℕ) (rows : List Row) → rows_formed before rows ≡ true → rows_formed before (take n rows) ≡ true
formed-take before zero rows f = formed-none before
formed-take before (suc n) [] f = f
formed-take before (suc n) (r ∷ rows) f =
    let first = formed-first before r rows f in
    first-formed before r (take n rows) (record { words = first.words; above = first.above; after = formed-take r.mpan n rows first.after })

-- the meter of a row that is there is known
pub known-there : (rows : List Row) (i : ℕ) (d : Row) → i < length rows → is_known (get_or rows i d).mpan rows ≡ true
known-there [] i d l = absurd (not-suc-le-zero l)
known-there (r ∷ rows) zero d l = known-here r rows r.mpan refl
known-there (r ∷ rows) (suc i) d l =
    by-meter r (get_or rows i d).mpan
    (λ b. known-here r rows (get_or rows i d).mpan b)
    (λ b. known_next r rows (get_or rows i d).mpan b ∙ known-there rows i d (le_of_suc-le-suc l))
