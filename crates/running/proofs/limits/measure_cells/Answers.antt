-- `measure_cells` meets its contract: the sum of 768 sizes that are each below 2^51 has not wrapped, and one that is not is above the limit. Assumes nothing.
use Prim.Native.Nat.{◌<◌}
use mathlib.Core.Path.{◌≡◌}
use native.Mathlib.Omega.{arith}
use borrow.Author.Rules.{rules}
use lib.IntN.{ℤ, pos, nat_abs}
use lib.ListN.{get_or, take}
use Rattle.std.proofs.Common.{length-take}
use Rattle.std.proofs.lemmas.List.{get_or-take}
use mir.Syntax.{w64}
use mir.Val.{SFits}
use mir.ValLaws.{to_z-of_z}
use Rattle.running.specs.Words.{cell_words}
use Rattle.running.proofs.WithinLimits.{none-added, one-more-added, added-within, added-beyond}
use Rattle.running.proofs.limits.measure_cells.Goals as goal

pub slice_bounds-cell-items-end : goal.slice_bounds-cell-items-end
slice_bounds-cell-items-end c = omega (arith, length-take {A = ℤ})

pub loop-cell-init : goal.loop-cell-init
loop-cell-init c = none-added _

pub offset_bounds-cell-items-cell-index : goal.offset_bounds-cell-items-cell-index
offset_bounds-cell-items-cell-index c = omega (arith, length-take {A = ℤ})

-- the cell of a turn is among the 768, and its size is that of the slice's
in-turn : (c : goal.After-unsigned_abs-size)
    → (c.loop-cell.cell-index < cell_words) × (c.unsigned_abs-size.result ≡ nat_abs (get_or c.args.cells.now c.loop-cell.cell-index (pos 0)))
in-turn c =
    let i = c.loop-cell.cell-index in
    let h : i < cell_words = omega (arith, length-take {A = ℤ}) in
    let f : SFits w64 (get_or (take cell_words c.args.cells.now) i (pos 0)) = search rules in
    (h, rw (to_z-of_z w64 (get_or (take cell_words c.args.cells.now) i (pos 0)) f, get_or-take cell_words c.args.cells.now i (pos 0) h) at c.unsigned_abs-size.ensures.value)

pub loop-cell-preserved : goal.loop-cell-preserved
loop-cell-preserved c =
    let t = in-turn c in
    one-more-added _ _ _ _ _ c.requires t.0 c.loop-cell.invariant t.1

pub returns-then-bits-total : goal.returns-then-bits-total
returns-then-bits-total c =
    let e : c.loop-cell.cell-index ≡ cell_words = omega (arith, length-take {A = ℤ}) in
    added-within _ _ _ (rw e at c.loop-cell.invariant) c.if-bits-total.true

pub returns-else-bits-total : goal.returns-else-bits-total
returns-else-bits-total c =
    let e : c.loop-cell.cell-index ≡ cell_words = omega (arith, length-take {A = ℤ}) in
    added-beyond _ _ _ (rw e at c.loop-cell.invariant) c.if-bits-total.false
