-- The slice kept up with another shape of a category, from the first meter that waits in it, as the code works it.
use Prim.Native.Nat.{ℕ, ◌-◌, ◌<◌}
use mathlib.Core.Path.{◌≡◌, sym, ap, ◌∙◌}
use mathlib.Core.Bool.{true, and-eq-true_iff}
use mathlib.Core.List.{List, map}
use native.Mathlib.Omega.{arith}
use borrow.Author.Tests.{ltb-true, ltb-false}
use lib.Dec.{lit<, ltb}
use lib.IntN.{ℤ, pos, ◌-ℤ◌, +ℤ_idl}
use lib.ListN.{length, get_or, take, drop, replicate, length-replicate, get_or-replicate, take-append-drop}
use mir.Syntax.{w64}
use mir.Val.{to_z, of_z}
use mir.ValLaws.{to_z-of_z}
use Rattle.std.specs.Prelude.{Some, None, Ok}
use Rattle.std.specs.List.{list_all}
use Rattle.std.proofs.lemmas.List.{take_all, drop-map, length-drop, get_or_past}
use Rattle.std.proofs.lemmas.List.Folds.{list_all-append}
use Rattle.integers.proofs.Fit.{fit}
use Rattle.words.proofs.Tests.{by-test}
use Rattle.book.specs.Limits.{categories, shape_missing}
use Rattle.book.specs.Settings.{is_shape}
use Rattle.book.specs.Rows.{Row, first_row, is_row}
use Rattle.cells.specs.Energy.{shape_wh}
use Rattle.running.specs.Words.{cell_words, slice_words}
use Rattle.running.specs.Running.{with_change}
use Rattle.running.specs.Ready.{CellsReady}
use Rattle.running.specs.Helpers.{first_waiting, shape_sum, shape_change, cells_changed, change_of, ShapesFormed, RowsHeld, GatherArguments, ChangeArguments, KeepsUp}
use Rattle.running.proofs.Changed.{length-changed, changed-same, changed-nothing}
use Rattle.running.proofs.ChangedCells.{first-at, cell-within}
use Rattle.running.proofs.ShapeChange.{rows_words, cells-change, numbers-kept, shape-sum-most}
use Rattle.running.proofs.WhMore.{more-most}
use Rattle.running.proofs.FirstWaiting.{sum-from-first, sum-unwaited}
use Rattle.running.proofs.KeptUp.{unchanged-up}

-- nothing changed yet
abbrev no_change : List ℤ
no_change = replicate cell_words (pos 0)

module _ (shapes : List ℕ) (rows : List (List ℕ)) (category wh : ℕ) (formed : ShapesFormed shapes) (held : RowsHeld (map first_row rows)) (in-range : category < categories) (shaped : is_shape wh ≡ true) where
  abbrev meters : List Row
  meters = map first_row rows

  -- how many Wh the shape gets more
  abbrev more : ℤ
  more = pos (shape_wh wh) -ℤ pos (shape_wh (get_or shapes category shape_missing))

  abbrev change : ℕ → ℤ
  change = shape_change shapes category wh meters

  cell-change : (k : ℕ) → k < cell_words → change k ≡ shape_sum category more meters k
  cell-change k h = cells-change shapes formed.formed category wh (omega (arith, formed.long)) k h meters held.each

  module _ (cells : List ℤ) {most : ℕ} (ready : CellsReady cells most) where
    pub none-waits : None ≡ first_waiting category rows → KeepsUp change cells (Ok tt) cells
    none-waits e = unchanged-up change cells (changed-nothing change cells unchanged) ready.within
      where
        unchanged : (k : ℕ) → k < slice_words → change k ≡ pos 0
        unchanged k h =
            by-test (ltb k cell_words)
            (λ t. cell-change k (ltb-true k cell_words t) ∙ sum-unwaited category more k rows e)
            (λ t. numbers-kept shapes category wh k (ltb-false k cell_words t) meters)

  module _ (first : ℕ) (e : Some first ≡ first_waiting category rows) where
    -- the rows from the first on
    abbrev later : List (List ℕ)
    later = take (length rows - first) (drop first rows)

    later-is : later ≡ drop first rows
    later-is = take_all (length rows - first) (drop first rows) (omega (arith, length-drop first rows))

    later-held : RowsHeld (map first_row later)
    later-held =
        let parts = sym (list_all-append is_row (take first meters) (drop first meters)) ∙ ap (list_all is_row) (take-append-drop first meters) ∙ held.each in
        rw (later-is, ← drop-map first_row first rows)
        (record {
          few = omega (arith, length-drop first meters, held.few);
          each = ((and-eq-true_iff (list_all is_row (take first meters)) (list_all is_row (drop first meters))).0 parts).1;
        })

    -- the Wh as the code holds them
    module _ {r : ℤ} (w : r ≡ more) where
      more-read : to_z w64 (of_z w64 r) ≡ more
      more-read = rw w (to_z-of_z w64 more (fit more 10000000 (more-most shapes formed category wh shaped) (lit< tt)))

      pub gather-asks : GatherArguments no_change (map first_row later) (to_z w64 (of_z w64 r))
      gather-asks =
          record {
            empty = λ k h. get_or-replicate cell_words k (pos 0) (pos 0) h;
            rows-held = later-held;
            wh-bound = rw more-read (more-most shapes formed category wh shaped);
          }

      -- the changes as they were gathered
      module _ {gathered : List ℤ} (got : gathered ≡ cells_changed (shape_sum category (to_z w64 (of_z w64 r)) (map first_row later)) no_change) where
        gathered-is : gathered ≡ cells_changed (shape_sum category more (map first_row later)) no_change
        gathered-is = rw more-read at got

        gathered-long : length gathered ≡ cell_words
        gathered-long = ap length gathered-is ∙ length-changed (shape_sum category more (map first_row later)) 0 cell_words no_change ∙ length-replicate cell_words (pos 0)

        gathered-at : (k : ℕ) → k < cell_words → get_or gathered k (pos 0) ≡ shape_sum category more meters k
        gathered-at k h =
            let inside : k < length no_change = omega (arith, length-replicate cell_words (pos 0)) in
            rw (gathered-is, first-at (shape_sum category more (map first_row later)) cell_words k no_change h inside, get_or-replicate cell_words k (pos 0) (pos 0) h, later-is)
            (+ℤ_idl (shape_sum category more (map first_row (drop first rows)) k) ∙ sum-from-first category more k rows first e)

        module _ (cells : List ℤ) {most : ℕ} (ready : CellsReady cells most) where
          pub change-asks : ChangeArguments cells gathered
          change-asks =
              record {
                long = omega (arith, ready.long);
                change-long = gathered-long;
                cells-bound = cell-within cells ready.within;
                change-bound =
                    λ k h.
                    rw (gathered-at k h)
                    (omega (arith, shape-sum-most category more k (more-most shapes formed category wh shaped) (rows_words meters held.each), held.few));
              }

          -- the change of all words, since it is 0 at the words that are no cells
          pub same_change : with_change (change_of gathered) cells ≡ with_change change cells
          same_change = changed-same (change_of gathered) cells change by-word
            where
              by-word : (k : ℕ) → k < slice_words → change_of gathered k ≡ change k
              by-word k h =
                  by-test (ltb k cell_words)
                  (λ t. let l = ltb-true k cell_words t in gathered-at k l ∙ sym (cell-change k l))
                  (λ t.
                  let out = ltb-false k cell_words t in
                  get_or_past gathered k (pos 0) (omega (arith, gathered-long)) ∙ sym (numbers-kept shapes category wh k out meters))
