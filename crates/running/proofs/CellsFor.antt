-- The words of a slice that holds a sum over the rows.
use Prim.Native.Nat.{ℕ, ◌<◌}
use mathlib.Core.Path.{◌≡◌, sym, ap, ◌∙◌}
use mathlib.Core.List.{List, ◌++◌}
use lib.IntN.{ℤ, pos}
use lib.ListN.{length, get_or}
use lib.Seq.{get_or-take, take_at}
use Rattle.book.specs.Rows.{Row}
use Rattle.cells.proofs.Counting.{counted-length, counted-at}
use Rattle.running.specs.Words.{slice_words, sum_in}
use Rattle.running.specs.Running.{cells_for}

module _ (shapes : List ℕ) (meters : List Row) where
  pub cells-for-length : length (cells_for shapes meters) ≡ slice_words
  unfolding cells_for
  cells-for-length = counted-length (sum_in shapes meters) slice_words

  pub word_at : (later : List ℤ) (k : ℕ) → k < slice_words → get_or (cells_for shapes meters ++ later) k (pos 0) ≡ sum_in shapes meters k
  unfolding cells_for
  word_at later k h =
      sym (get_or-take slice_words (cells_for shapes meters ++ later) k (pos 0) h)
      ∙ ap (λ (l : List ℤ). get_or l k (pos 0)) (take_at (cells_for shapes meters) later slice_words cells-for-length)
      ∙ counted-at (sum_in shapes meters) slice_words k (pos 0) h
