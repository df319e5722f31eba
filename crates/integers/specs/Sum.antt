-- Sums of signed numbers.
use Rattle.std.specs.Prelude.{ℕ, ◌+◌, List, [], ◌∷◌, ℤ, pos, nat_abs, ◌+ℤ◌}

-- "the sum of": the sum of a list, 0 for the empty one
unfoldable pub sum : List ℤ → ℤ
sum [] = pos 0
sum (x ∷ xs) = x +ℤ sum xs

-- "sizes add up": the sizes of numbers, added up
unfoldable pub sizes : List ℤ → ℕ
sizes [] = 0
sizes (x ∷ xs) = nat_abs x + sizes xs
