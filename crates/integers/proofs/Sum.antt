-- Sums of lists of signed numbers: of two lists joined, and of the first entries of a list.
use Prim.Native.Nat.{ℕ, suc, ◌<◌}
use mathlib.Core.Path.{◌≡◌, sym, ap, ◌∙◌}
use mathlib.Core.List.{List, [], ◌∷◌, ◌++◌}
use lib.ListN.{length, get_or, take}
use lib.Seq.{take-suc}
use lib.IntN.{ℤ, pos, ◌+ℤ◌, +ℤ_idl, +ℤ_idr, +ℤ_assoc}
use Rattle.integers.specs.Sum.{sum}

pub sum-append : (xs ys : List ℤ) → sum (xs ++ ys) ≡ sum xs +ℤ sum ys
unfolding sum
sum-append [] ys = sym (+ℤ_idl (sum ys))
sum-append (x ∷ xs) ys = ap (λ z. x +ℤ z) (sum-append xs ys) ∙ sym (+ℤ_assoc x (sum xs) (sum ys))

-- one entry more
pub sum-take : (xs : List ℤ) (i : ℕ) → i < length xs → sum (take (suc i) xs) ≡ sum (take i xs) +ℤ get_or xs i (pos 0)
unfolding sum
sum-take xs i h = ap sum (take-suc xs i (pos 0) h) ∙ sum-append (take i xs) _ ∙ ap (λ z. sum (take i xs) +ℤ z) (+ℤ_idr _)
