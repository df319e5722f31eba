-- The Wh of a category's shape, and how many more another shape has: no shape has more than 10,000,000.
use Prim.Native.Nat.{ℕ, ◌≤◌}
use mathlib.Core.Path.{◌≡◌, refl}
use mathlib.Core.Bool.{true}
use mathlib.Core.List.{List}
use lib.IntN.{pos, nat_abs, ◌-ℤ◌}
use lib.ListN.{get_or}
use Rattle.integers.proofs.Linear.{linear, minus, size, one_side}
use Rattle.book.specs.Limits.{shape_missing}
use Rattle.book.specs.Settings.{is_shape}
use Rattle.book.proofs.AllOf.{entry-passes}
use Rattle.cells.specs.Energy.{shape_wh}
use Rattle.cells.proofs.RowBounds.{shape-most}
use Rattle.running.specs.Helpers.{ShapesFormed}

module _ (shapes : List ℕ) (formed : ShapesFormed shapes) (category : ℕ) where
  -- the shape that the category has
  abbrev old : ℕ
  old = get_or shapes category shape_missing

  pub old-most : shape_wh old ≤ 10000000
  old-most = shape-most old (entry-passes is_shape shapes category shape_missing formed.formed refl)

  pub more-most : (wh : ℕ) → is_shape wh ≡ true → nat_abs (pos (shape_wh wh) -ℤ pos (shape_wh old)) ≤ 10000000
  more-most wh h =
      let more = pos (shape_wh wh) -ℤ pos (shape_wh old) in
      omega (linear, size more, one_side more, minus (pos (shape_wh wh)) (pos (shape_wh old)), shape-most wh h, old-most)
