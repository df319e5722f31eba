-- A change added to the cells one after the other, or only to their sizes, as the code works it: each sum is far inside an i64.
use Prim.Native.Nat.{ℕ, zero, suc, ◌+◌, ◌*◌, ◌≤◌, ◌<◌}
use mathlib.Core.Path.{◌≡◌, refl}
use mathlib.Core.List.{List, []}
use native.Mathlib.Numerals.{add-one}
use native.Mathlib.Omega.{arith}
use lib.Dec.{lit<}
use lib.IntN.{ℤ, pos, nat_abs, ◌+ℤ◌}
use lib.ListN.{get_or, set, take}
use mir.Syntax.{w64}
use mir.Val.{SFits, to_z, of_z}
use Rattle.integers.specs.Sum.{sizes}
use Rattle.integers.proofs.Sizes.{sizes-take}
use Rattle.integers.proofs.Fit.{Held, held, plus-fits, plus-held}
use Rattle.running.specs.Words.{cell_words}
use Rattle.running.specs.Running.{added_from}
use Rattle.running.specs.Helpers.{cells_changed, change_of, ChangeArguments}
use Rattle.running.proofs.Changed.{length-changed}
use Rattle.running.proofs.ChangedCells.{kept_from, one_word_more, first-at}

pub none-added : (f : ℕ → ℤ) (cells : List ℤ) → cells ≡ added_from f 0 0 cells
unfolding added_from
none-added f cells = refl

pub none-sized : 0 ≡ sizes []
unfolding sizes
none-sized = refl

module _ (start change : List ℤ) (ok : ChangeArguments start change) where
  abbrev changed : List ℤ
  changed = cells_changed (change_of change) start

  module _ (i : ℕ) (h : i < cell_words) where
    cell-held : Held (of_z w64 (get_or start i (pos 0))) (get_or start i (pos 0)) 1310720000000000
    cell-held = held (get_or start i (pos 0)) 1310720000000000 (ok.cells-bound i h) (lit< tt)

    change-held : Held (of_z w64 (get_or change i (pos 0))) (get_or change i (pos 0)) 1310720000000000
    change-held = held (get_or change i (pos 0)) 1310720000000000 (ok.change-bound i h) (lit< tt)

    -- their sum as the code works it out
    abbrev sum_bits : ℤ → ℕ
    sum_bits cell = of_z w64 (to_z w64 (of_z w64 cell) +ℤ to_z w64 (of_z w64 (get_or change i (pos 0))))

    sum-held : Held (sum_bits (get_or start i (pos 0))) (get_or start i (pos 0) +ℤ get_or change i (pos 0)) 2621440000000000
    sum-held = plus-held cell-held change-held (lit< tt)

    -- cells of which the first i are changed
    module _ {cells : List ℤ} (got : cells ≡ added_from (change_of change) 0 i start) where
      same_cell : get_or cells i (pos 0) ≡ get_or start i (pos 0)
      same_cell = rw got (kept_from (change_of change) 0 i i start (omega arith))

      pub sum-fits : SFits w64 (to_z w64 (of_z w64 (get_or cells i (pos 0))) +ℤ to_z w64 (of_z w64 (get_or change i (pos 0))))
      sum-fits = rw same_cell (plus-fits cell-held change-held (lit< tt))

      pub one-added : set cells i (to_z w64 (sum_bits (get_or cells i (pos 0)))) ≡ added_from (change_of change) 0 (i + 1) start
      one-added = rw (same_cell, sum-held.reads, ← same_cell, got) (one_word_more (change_of change) i start)

    changed-here : get_or changed i (pos 0) ≡ get_or start i (pos 0) +ℤ get_or change i (pos 0)
    changed-here = first-at (change_of change) cell_words i start h (omega (arith, ok.long))

    pub size-most : nat_abs (get_or changed i (pos 0)) ≤ 2621440000000000
    size-most = rw changed-here sum-held.bound

    pub size-worked : nat_abs (to_z w64 (sum_bits (get_or start i (pos 0)))) ≡ nat_abs (get_or changed i (pos 0))
    size-worked = rw (sum-held.reads, changed-here) refl

    pub one-sized : sizes (take (i + 1) changed) ≡ sizes (take i changed) + nat_abs (get_or changed i (pos 0))
    one-sized = rw add-one (sizes-take changed i (omega (arith, ok.long, length-changed (change_of change) 0 cell_words start)))

  pub sizes-bound : (i : ℕ) → i ≤ cell_words → sizes (take i changed) ≤ i * 2621440000000000
  unfolding sizes
  sizes-bound zero h = omega arith
  sizes-bound (suc i) h = omega (arith, rw add-one at (one-sized i (omega arith)), size-most i (omega arith), sizes-bound i (omega arith))
