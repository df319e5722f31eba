-- What the meters that wait in a category change in the cells, gathered row by row: before the first row, one row later, and after the last.
use Prim.Native.Nat.{ℕ, ◌+◌, ◌≤◌, ◌<◌}
use mathlib.Core.Path.{◌≡◌, sym, ◌∙◌}
use mathlib.Core.Bool.{true, false}
use mathlib.Core.List.{List, [], ◌∷◌, ◌++◌, map}
use native.Mathlib.Omega.{arith}
use lib.IntN.{ℤ, pos, nat_abs, ◌+ℤ◌, +ℤ_idl}
use lib.ListN.{length, get_or, take, length-map}
use Rattle.std.proofs.lemmas.List.{length-take-le, take-map, take_all, get_or-map}
use Rattle.integers.specs.Sum.{sum}
use Rattle.book.specs.Rows.{Row, first_row}
use Rattle.book.proofs.Rising.{Words}
use Rattle.cells.specs.Cells.{sum_over}
use Rattle.cells.proofs.Each.{Each, each_at, each_take}
use Rattle.cells.proofs.Turns.{this_row, rows_next}
use Rattle.running.specs.Words.{cell_words}
use Rattle.running.specs.Helpers.{waits_in, waiting_cell, cells_give, shape_sum, cells_changed, WaitingArguments, GatherArguments}
use Rattle.running.proofs.Changed.{same_from, twice-from, none_from}
use Rattle.running.proofs.ChangedCells.{first-at}
use Rattle.running.proofs.ShapeChange.{rows_words, sum-waits, sum-passes, shape-sum-most}

-- the changes after these meters
abbrev gathered : ℕ → ℤ → List Row → List ℤ → List ℤ
gathered category wh meters start = cells_changed (shape_sum category wh meters) start

pub none-gathered : (category : ℕ) (wh : ℤ) (start : List ℤ) → start ≡ gathered category wh [] start
unfolding shape_sum sum_over sum
none-gathered category wh start = sym (none_from 0 cell_words start)

-- a turn: row i
module _ (category : ℕ) (wh : ℤ) (start : List ℤ) (rows : List (List ℕ)) (ok : GatherArguments start (map first_row rows) wh) (long : length start ≡ cell_words) (i : ℕ) (inside : i < length rows)
    {change : List ℤ} (got : change ≡ gathered category wh (map first_row (take i rows)) start) where
  abbrev this : Row
  this = this_row rows i

  abbrev before : List Row
  before = map first_row (take i rows)

  all_words : Each Words (map first_row rows)
  all_words = rows_words (map first_row rows) ok.rows-held.each

  before-words : Each Words before
  before-words = rw take-map at (each_take all_words i)

  this-words : Words this
  this-words =
      let k : i < length (map first_row rows) = rw (length-map rows first_row) inside in
      rw (get_or-map first_row rows i [] this inside) at (each_at all_words i this k)

  before-few : length before ≤ 65536
  before-few =
      omega (
        arith,
        ok.rows-held.few,
        length-map rows first_row,
        length-map (take i rows) first_row ∙ length-take-le i rows (omega arith),
      )

  change-most : (k : ℕ) → k < cell_words → nat_abs (get_or change k (pos 0)) ≤ 1310720000000000
  change-most k l =
      rw (got, first-at (shape_sum category wh before) cell_words k start l (omega (arith, long)), ok.empty k l, +ℤ_idl)
      (omega (arith, shape-sum-most category wh k ok.wh-bound before-words, before-few))

  pub turn-asks : WaitingArguments change this.registration wh
  turn-asks = record { registered = this-words.registration-formed; wh-bound = ok.wh-bound; change-bound = change-most }

  pub turn-passes : waits_in category this.registration this.reading ≡ false → change ≡ gathered category wh (map first_row (take (i + 1) rows)) start
  turn-passes other =
      got
      ∙ rw (rows_next rows i inside)
      (same_from (shape_sum category wh before) (shape_sum category wh (before ++ (this ∷ []))) 0 cell_words start
      (λ k l. sum-passes category wh before this k other))

  pub turn-adds : waits_in category this.registration this.reading ≡ true → {after : List ℤ}
      → after ≡ cells_changed (cells_give (waiting_cell this.registration) this.registration wh) change → after ≡ gathered category wh (map first_row (take (i + 1) rows)) start
  turn-adds waits stored =
      let gives = cells_give (waiting_cell this.registration) this.registration wh in
      stored
      ∙ rw (got, rows_next rows i inside)
      (twice-from (shape_sum category wh before) gives 0 cell_words start
      ∙ same_from (λ k. shape_sum category wh before k +ℤ gives k) (shape_sum category wh (before ++ (this ∷ []))) 0 cell_words start
      (λ k l. sum-waits category wh before this k waits))

pub all-gathered : (category : ℕ) (wh : ℤ) (start : List ℤ) (rows : List (List ℕ)) (i : ℕ) → length rows ≤ i
    → gathered category wh (map first_row (take i rows)) start ≡ gathered category wh (map first_row rows) start
all-gathered category wh start rows i out = rw (take_all i rows out)
