-- `wh_more` meets its contract: no shape has more than 10,000,000 Wh. Assumes nothing.
use Prim.Native.Nat.{ℕ, ◌≤◌}
use mathlib.Core.Path.{◌≡◌, ap, ap₂, ◌∙◌}
use native.Mathlib.Omega.{arith}
use lib.Dec.{lit<}
use lib.IntN.{pos, ◌-ℤ◌}
use lib.ListN.{get_or}
use mir.ValLaws.{to_z_pos}
use mir.Syntax.{w64}
use Rattle.std.proofs.lemmas.List.{get_or_default}
use Rattle.integers.proofs.Fit.{Held, minus-fits, minus-held}
use Rattle.book.specs.Limits.{shape_missing}
use Rattle.cells.specs.Energy.{shape_wh}
use Rattle.cells.proofs.RowBounds.{shape-most}
use Rattle.running.proofs.WhMore.{old-most}
use Rattle.running.proofs.shape.wh_more.Goals as goal

before-is : (c : goal.After-shape_wh) → c.shape_wh-before.result ≡ shape_wh (get_or c.args.shapes.now c.args.category shape_missing)
before-is c =
    c.shape_wh-before.ensures ∙ ap shape_wh (c.from.ensures ∙ get_or_default c.args.shapes.now c.args.category 0 shape_missing (omega (arith, c.requires.shapes.long)))

before-most : (c : goal.After-shape_wh) → c.shape_wh-before.result ≤ 10000000
before-most c = omega (arith, before-is c, old-most c.args.shapes.now c.requires.shapes c.args.category)

wh-held : (n : ℕ) → n ≤ 10000000 → Held n (pos n) 10000000
wh-held n most = record { reads = to_z_pos w64 n (omega arith); bound = most }

pub overflow_cast-result : goal.overflow_cast-result
overflow_cast-result c = omega (arith, shape-most c.args.wh c.requires.shape)

pub overflow_cast-result-2 : goal.overflow_cast-result-2
overflow_cast-result-2 c = omega (arith, before-most c)

after-held : (c : goal.After-shape_wh) → Held c.shape_wh.result (pos c.shape_wh.result) 10000000
after-held c = wh-held _ (omega (arith, shape-most c.args.wh c.requires.shape))

pub overflow_sub-result : goal.overflow_sub-result
overflow_sub-result c = minus-fits (after-held c) (wh-held _ (before-most c)) (lit< tt)

pub returns : goal.returns
returns c =
    (minus-held (after-held c) (wh-held _ (before-most c)) (lit< tt)).reads ∙ ap₂ (λ (m n : ℕ). pos m -ℤ pos n) c.shape_wh.ensures (before-is c)
