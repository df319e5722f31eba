-- The rows of a slice tested one after the other: what is left decides. The range of MPANs is tested at the last row only.
use Prim.Native.Nat.{ℕ, ◌+◌, ◌-◌, ◌≤◌, ◌<◌}
use mathlib.Core.Path.{◌≡◌, refl, sym, ◌∙◌}
use mathlib.Core.Bool.{Bool, true, false, ◌&&◌}
use mathlib.Core.List.{List, [], ◌∷◌, map}
use native.Mathlib.Omega.{arith}
use lib.Dec.{leb, ltb}
use lib.ListN.{length, get_or, drop}
use borrow.Author.Tests.{ltb-true, leb-true, leb-false, le-leb, lt-leb, lt-ltb}
use Rattle.std.proofs.lemmas.List.{drop_more, drop_all}
use Rattle.words.specs.Limits.{mpan_least, mpan_most}
use Rattle.words.specs.Mpan.{is_mpan}
use Rattle.words.specs.Registration.{is_registration}
use Rattle.words.specs.Reading.{is_reading}
use Rattle.words.proofs.Tests.{by-test}
use Rattle.book.specs.Rows.{Row, first_row, is_row, rows_formed}

-- a row that stands above the one before it, with well-formed words behind its MPAN
abbrev pub rises : ℕ → Row → Bool
rises before r = ltb before r.mpan && is_registration r.registration && is_reading r.reading

-- rows that rise, up to an MPAN in range
unfoldable pub rises_from : ℕ → List Row → Bool
rises_from before [] = leb before mpan_most
rises_from before (r ∷ rows) = rises before r && rises_from r.mpan rows

-- once above the range, they stay above it
rises-above : (before : ℕ) (rows : List Row) → mpan_most < before → rises_from before rows ≡ false
unfolding rises_from
rises-above before [] h = lt-leb before mpan_most h
rises-above before (r ∷ rows) h =
    by-test (ltb before r.mpan)
    (λ above.
    by-test (rises before r)
    (λ passes. rw (passes, rises-above r.mpan rows (omega (arith, ltb-true before r.mpan above))))
    (λ fails. rw fails))
    (λ below. rw below)

module _ (before : ℕ) (r : Row) (least : mpan_least ≤ before + 1) where
  -- above an MPAN that is not too low, the range is its upper bound
  in-range : ltb before r.mpan ≡ true → r.mpan ≤ mpan_most → is_mpan r.mpan ≡ true
  unfolding is_mpan
  in-range above most =
      rw (le-leb mpan_least r.mpan (omega (arith, ltb-true before r.mpan above)), le-leb r.mpan mpan_most most)

  too-high : mpan_most < r.mpan → is_mpan r.mpan ≡ false
  unfolding is_mpan
  too-high high = by-test (leb mpan_least r.mpan) (λ t. rw (t, lt-leb r.mpan mpan_most high)) (λ t. rw t)

-- the three ways of a row: in place and in range, above the range, not above the row before
module _ (before : ℕ) (r : Row) (rows : List Row) (least : mpan_least ≤ before + 1) where
  row-in-range : ltb before r.mpan ≡ true → r.mpan ≤ mpan_most → rows_formed r.mpan rows ≡ rises_from r.mpan rows → rows_formed before (r ∷ rows) ≡ rises_from before (r ∷ rows)
  unfolding rows_formed rises_from
  row-in-range above low rest =
      by-test (is_registration r.registration && is_reading r.reading)
      (λ t. rw (in-range before r least above low, above, t) rest)
      (λ t. rw (in-range before r least above low, above, t))

  row-too-high : mpan_most < r.mpan → rows_formed before (r ∷ rows) ≡ rises_from before (r ∷ rows)
  unfolding rows_formed rises_from
  row-too-high high =
      by-test (rises before r)
      (λ t. rw (too-high before r least high, t, rises-above r.mpan rows high))
      (λ t. rw (too-high before r least high, t))

  row-too-low : ltb before r.mpan ≡ false → rows_formed before (r ∷ rows) ≡ rises_from before (r ∷ rows)
  unfolding rows_formed rises_from
  row-too-low below = by-test (is_row r) (λ t. rw (t, below)) (λ t. rw (t, below))

formed-rises : (before : ℕ) (rows : List Row) → mpan_least ≤ before + 1 → before ≤ mpan_most → rows_formed before rows ≡ rises_from before rows
unfolding rows_formed rises_from
formed-rises before [] least most = sym (le-leb before mpan_most most)
formed-rises before (r ∷ rows) least most =
    by-test (ltb before r.mpan)
    (λ above.
    by-test (leb r.mpan mpan_most)
    (λ low.
    let in_bounds = leb-true r.mpan mpan_most low in
    row-in-range before r rows least above in_bounds
    (formed-rises r.mpan rows (omega (arith, ltb-true before r.mpan above)) in_bounds))
    (λ high. row-too-high before r rows least (leb-false r.mpan mpan_most high)))
    (row-too-low before r rows least)

-- the least MPAN is as good a bound below as 0
from-least : (rows : List Row) → rows_formed 0 rows ≡ rows_formed (mpan_least - 1) rows
unfolding rows_formed is_mpan
from-least [] = refl
from-least (r ∷ rows) =
    by-test (leb mpan_least r.mpan)
    (λ t.
    let high = leb-true mpan_least r.mpan t in
    rw (lt-ltb 0 r.mpan (omega arith), lt-ltb (mpan_least - 1) r.mpan (omega arith)))
    (λ t. rw t)

module _ (rows : List (List ℕ)) where
  -- the rows from row i on decide, after an MPAN `before`
  pub record RowsLeft (before i : ℕ) : Type 0 where
    pub decide : rows_formed 0 (map first_row rows) ≡ rises_from before (map first_row (drop i rows))

  pub all-rows-left : RowsLeft (mpan_least - 1) 0
  all-rows-left =
      record { decide = from-least (map first_row rows) ∙ formed-rises (mpan_least - 1) (map first_row rows) (omega arith) (omega arith) }

  module _ (before i : ℕ) (l : RowsLeft before i) where
    abbrev this : Row
    this = first_row (get_or rows i [])

    next_row : i < length rows → rows_formed 0 (map first_row rows) ≡ (rises before this && rises_from this.mpan (map first_row (drop (i + 1) rows)))
    unfolding rises_from
    next_row h = l.decide ∙ rw (drop_more rows i [] h)

    pub row-passes : i < length rows → rises before this ≡ true → RowsLeft this.mpan (i + 1)
    row-passes h t = record { decide = rw t at (next_row h) }

    pub row-fails : i < length rows → rises before this ≡ false → false ≡ rows_formed 0 (map first_row rows)
    row-fails h t = sym (rw t at (next_row h))

    pub no-row-left : length rows ≤ i → leb before mpan_most ≡ rows_formed 0 (map first_row rows)
    unfolding rises_from
    no-row-left h = sym (rw (drop_all i rows h) at l.decide)

pub ruleset turns = (all-rows-left, row-passes, row-fails, no-row-left)
