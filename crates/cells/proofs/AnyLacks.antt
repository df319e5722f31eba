-- Whether any of the rows lacks its shape, as a loop over them tells it.
use Prim.Native.Nat.{ℕ, ◌+◌, ◌≤◌, ◌<◌}
use mathlib.Core.Path.{◌≡◌, ◌∙◌, ap}
use mathlib.Core.Bool.{◌||◌, or-false}
use mathlib.Core.List.{List, [], ◌∷◌, ◌++◌, map}
use lib.ListN.{length, take}
use Rattle.std.proofs.lemmas.List.{take_all}
use Rattle.std.proofs.lemmas.List.Folds.{list_any-append}
use Rattle.book.specs.Rows.{Row, first_row}
use Rattle.cells.specs.Energy.{lacks_shape, any_lacks_shape}
use Rattle.cells.proofs.Turns.{this_row, rows_next}

lacks-more : (shapes : List ℕ) (meters : List Row) (r : Row) → any_lacks_shape shapes (meters ++ (r ∷ [])) ≡ (any_lacks_shape shapes meters || lacks_shape shapes r.registration r.reading)
unfolding any_lacks_shape
lacks-more shapes meters r = list_any-append _ meters (r ∷ []) ∙ ap (λ b. any_lacks_shape shapes meters || b) (or-false _)

module _ (shapes : List ℕ) (rows : List (List ℕ)) (i : ℕ) where
  pub lacks-next : i < length rows → any_lacks_shape shapes (map first_row (take (i + 1) rows)) ≡ (any_lacks_shape shapes (map first_row (take i rows)) || lacks_shape shapes (this_row rows i).registration (this_row rows i).reading)
  lacks-next h = rw (rows_next rows i h) (lacks-more shapes (map first_row (take i rows)) (this_row rows i))

  pub lacks-all : length rows ≤ i → any_lacks_shape shapes (map first_row (take i rows)) ≡ any_lacks_shape shapes (map first_row rows)
  lacks-all h = rw (take_all i rows h)

pub ruleset each_row = (lacks-next, lacks-all)
