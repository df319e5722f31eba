-- Document 02, request 4: the cells of the units as they stand in the slice of running cells, and "every cell rounded by the loss rule".
use Rattle.std.specs.Prelude.{ℕ, ◌*◌, List, ℤ, map, take, drop}
use Rattle.integers.specs.Rounding.{nearest_wh}
use Rattle.book.specs.Limits.{classes}

-- "by unit and then class": the 24 unrounded cells of a unit
unfoldable pub unit_cells : List ℤ → ℕ → List ℤ
unit_cells cells unit = take classes (drop (classes * unit) cells)

-- "allocated as it reads, every cell rounded by the loss rule"
unfoldable pub rounded_cells : List ℤ → ℕ → List ℤ
rounded_cells cells unit = map nearest_wh (unit_cells cells unit)
