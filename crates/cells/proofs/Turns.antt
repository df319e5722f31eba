-- A turn of a pass over rows of three words: the rows before row i, and row i.
use Prim.Native.Nat.{ℕ, ◌+◌, ◌<◌}
use mathlib.Core.Path.{◌≡◌}
use mathlib.Core.Bool.{true}
use mathlib.Core.List.{List, [], ◌∷◌, ◌++◌, map, map-append}
use lib.ListN.{length, get_or, take, length-map}
use Rattle.std.proofs.lemmas.List.{take_more, take-map, get_or-map}
use Rattle.std.specs.List.{list_all}
use Rattle.book.specs.Settings.{is_shape}
use Rattle.book.specs.Rows.{Row, first_row, rows_formed}
use Rattle.cells.proofs.Each.{Each, each_at, each_take}
use Rattle.cells.proofs.RowBounds.{RowBounds, rows-bounds}

module _ (rows : List (List ℕ)) (i : ℕ) where
  -- row i
  abbrev pub this_row : Row
  this_row = first_row (get_or rows i [])

  pub rows_next : i < length rows → map first_row (take (i + 1) rows) ≡ map first_row (take i rows) ++ (this_row ∷ [])
  rows_next h = rw (take_more rows i [] h, map-append)

  -- what rows of a well-formed book contribute
  module _ (shapes : List ℕ) (shaped : list_all is_shape shapes ≡ true) (formed : rows_formed 0 (map first_row rows) ≡ true) where
    all-bounds : Each (RowBounds shapes) (map first_row rows)
    all-bounds = rows-bounds shapes shaped 0 (map first_row rows) formed

    pub before-bounds : Each (RowBounds shapes) (map first_row (take i rows))
    before-bounds = rw take-map at (each_take all-bounds i)

    pub this-bounds : i < length rows → RowBounds shapes this_row
    this-bounds h =
        let k : i < length (map first_row rows) = rw (length-map rows first_row) h in
        rw (get_or-map first_row rows i [] this_row h) at (each_at all-bounds i this_row k)
