-- A change added to the cells unless their sizes would pass their limit: there is none past the cells, so it is a change of the slice.
use Prim.Native.Nat.{ℕ, ◌≤◌, ◌<◌}
use mathlib.Core.Path.{◌≡◌, refl, sym, ap, ◌∙◌}
use mathlib.Core.List.{List}
use native.Mathlib.Omega.{arith}
use borrow.Author.Tests.{le-leb, lt-leb}
use lib.Dec.{leb}
use lib.IntN.{ℤ, pos}
use lib.ListN.{take}
use Rattle.std.specs.Prelude.{Some, None}
use Rattle.std.proofs.lemmas.List.{get_or_past}
use Rattle.integers.specs.Sum.{sizes}
use Rattle.running.specs.Words.{cell_words, slice_words}
use Rattle.running.specs.Running.{sizes_most, with_change, within_limits}
use Rattle.running.specs.Ready.{CellsReady}
use Rattle.running.specs.Helpers.{cells_changed, change_of, ChangeArguments, Exchanges}
use Rattle.running.proofs.Changed.{changed-length}
use Rattle.running.proofs.ChangedCells.{only-first, changed-within}
use Rattle.running.proofs.Exchanges.{kept, not-kept}

module _ (cells change : List ℤ) (ok : ChangeArguments cells change) (ready : CellsReady cells sizes_most) where
  abbrev changed : List ℤ
  changed = with_change (change_of change) cells

  of-cells : changed ≡ cells_changed (change_of change) cells
  of-cells = only-first (change_of change) 0 cell_words slice_words cells (omega arith) (λ i a b. get_or_past change i (pos 0) (omega (arith, ok.change-long)))

  module _ {most : ℕ} (t : most ≡ sizes (take cell_words (cells_changed (change_of change) cells))) where
    within-is : within_limits changed ≡ leb most sizes_most
    within-is = rw of-cells (changed-within cells ready.within (change_of change) ∙ ap (λ (x : ℕ). leb x sizes_most) (sym t))

    pub passes-limit : sizes_most < most → Exchanges (change_of change) cells None cells
    passes-limit h = not-kept (change_of change) cells refl (within-is ∙ lt-leb most sizes_most h)

    changed-ready : most ≤ sizes_most → CellsReady changed most
    changed-ready h =
        record {
          long = omega (arith, changed-length (change_of change) cells, ready.long);
          within = within-is ∙ le-leb most sizes_most h;
          size-most = omega (arith, t, ap (λ (xs : List ℤ). sizes (take cell_words xs)) of-cells);
        }

    pub fits-limit : most ≤ sizes_most → {after : List ℤ} → after ≡ cells_changed (change_of change) cells → Exchanges (change_of change) cells (Some most) after
    fits-limit h a = kept (change_of change) cells most (a ∙ sym of-cells) (changed-ready h)
