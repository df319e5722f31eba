-- Cells that keep up, over whole lists: each call keeps the slice up with the rows, and the sums over the rows do not depend on the order of the meters. So the allocation from the slice is the one worked from the rows.
use Prim.Native.Nat.{ℕ}
use mathlib.Core.Path.{◌≡◌, sym, ap, ap₂, ◌∙◌, fun_ext}
use mathlib.Core.Bool.{true}
use mathlib.Core.List.{List, ◌++◌, map}
use lib.IntN.{ℤ}
use lib.ListN.{length, take, drop}
use lib.Seq.{take_at}
use Rattle.book.specs.declared.Settings.{Settings}
use Rattle.book.specs.Limits.{categories}
use Rattle.book.specs.Rows.{Row, capacity}
use Rattle.book.specs.Book.{Book, fresh_book, used_rows}
use Rattle.cells.specs.Cells.{count_from}
use Rattle.cells.proofs.Counting.{counted-length}
use Rattle.cells.proofs.Permuted.{Permuted}
use Rattle.cells.proofs.SumOver.{sum-over-any-order}
use Rattle.running.specs.Words.{slice_words, word_in, sum_in}
use Rattle.running.specs.Running.{Running, cells_for, within_limits}
use Rattle.running.proofs.CellsFor.{cells-for-length}
use Rattle.calls.specs.declared.Call.{Call}
use Rattle.calls.specs.Calls.{book_after}
use Rattle.calls.proofs.KeptUp.{Kept, kept-in-limits, list-kept, list-book, list-numbers, list-lent-well, fresh_kept}
use Rattle.allocation.specs.Running.{RunningAllocation, allocate_running}
use Rattle.allocation.proofs.SameAllocation as same
use Rattle.meaning.specs.Meaning.{meant_shape, meant_meters, meant_settings}
use Rattle.meaning.specs.Kept.{FreshCells, fresh_running, listed_running, meant_cells, CellsKept}
use Rattle.meaning.specs.Demand.{allocation_after, rows_allocated}
use Rattle.meaning.proofs.Meant.{list-meant}

-- the sums over the same meters in any order
cells-any-order : {meters others : List Row} → Permuted Row meters others → (shapes : List ℕ) → cells_for shapes meters ≡ cells_for shapes others
unfolding cells_for sum_in
cells-any-order p shapes = ap (λ (f : ℕ → ℤ). map f (count_from 0 slice_words)) (fun_ext (λ k. sum-over-any-order (word_in shapes k) p))

module _ (words : List ℕ) (cells : List ℤ) (fresh : FreshCells cells) (calls : List Call) where
  abbrev made : Book
  made = book_after (fresh_book words) calls

  abbrev summed : List ℤ
  summed = cells_for made.settings.shapes (used_rows made) ++ drop slice_words cells

  cells-meant : cells_for made.settings.shapes (used_rows made) ≡ meant_cells (capacity words) calls
  unfolding meant_cells
  cells-meant =
      let means = list-meant words calls in
      cells-any-order means.meters-meant made.settings.shapes
      ∙ ap (λ (s : Settings). cells_for s.shapes (meant_meters (capacity words) calls)) means.settings-meant

  at-start : Kept (drop slice_words cells) (fresh_running words cells)
  at-start = fresh_kept words cells fresh.zeros

  slice_kept : (listed_running words cells calls).cells ≡ summed
  slice_kept =
      (list-kept at-start calls).cells_are
      ∙ ap (λ (b : Book). cells_for b.settings.shapes (used_rows b) ++ drop slice_words cells) (list-book at-start calls)

  -- the theorem
  pub cells-kept : CellsKept words cells calls
  cells-kept =
      record {
        book-same = list-book at-start calls;
        numbers-same = list-numbers at-start calls;
        lent-well = list-lent-well at-start calls;
        kept-up = slice_kept;
        meant = slice_kept ∙ ap (λ (l : List ℤ). l ++ drop slice_words cells) cells-meant;
      }

  cells-within : within_limits summed ≡ true
  cells-within = sym (ap within_limits slice_kept) ∙ kept-in-limits (list-kept at-start calls)

  -- the book and the cells, by what they are without cells
  running-is : listed_running words cells calls ≡ record { book = made; cells = summed }
  running-is = ap₂ (λ (b : Book) (c : List ℤ). record { book = b; cells = c }) (list-book at-start calls) slice_kept

  -- the first 836 words
  pub first-words : take slice_words (listed_running words cells calls).cells ≡ cells_for made.settings.shapes (used_rows made)
  first-words =
      ap (λ (r : Running). take slice_words r.cells) running-is
      ∙ take_at (cells_for made.settings.shapes (used_rows made)) (drop slice_words cells) slice_words (cells-for-length made.settings.shapes (used_rows made))

  shapes-long : length made.settings.shapes ≡ categories
  unfolding meant_settings
  shapes-long = ap (λ (s : Settings). length s.shapes) (list-meant words calls).settings-meant ∙ counted-length (meant_shape calls) categories

  module _ (slice : List ℤ) where
    abbrev allocated : Running → RunningAllocation
    allocated r = allocate_running r slice

    pub answer-same : (allocation_after words cells calls slice).answer ≡ (rows_allocated words calls slice).answer
    unfolding allocation_after rows_allocated
    answer-same = ap (λ (r : Running). (allocated r).answer) running-is ∙ same.same_answer made (drop slice_words cells) shapes-long cells-within slice

    pub volumes-same : (allocation_after words cells calls slice).volumes ≡ (rows_allocated words calls slice).volumes
    unfolding allocation_after rows_allocated
    volumes-same = ap (λ (r : Running). (allocated r).volumes) running-is ∙ same.same-volumes made (drop slice_words cells) shapes-long cells-within slice
