-- The sizes of numbers that entries have, added up; and n and a of a unit within those of its cells.
use Prim.Native.Nat.{ℕ, suc, ◌*◌, ◌≤◌}
use mathlib.Core.Path.{◌≡◌, sym, ap, ◌∙◌}
use mathlib.Core.Bool.{true, and-eq-true_iff}
use mathlib.Core.List.{List, [], ◌∷◌, map}
use native.Mathlib.Omega.{arith}
use native.Mathlib.Nat.{mul-le-mul_left}
use lib.IntN.{ℤ, pos, nat_abs, ◌*ℤ◌}
use lib.ListN.{length, get_or, get_or-map}
use borrow.Author.Tests.{leb-true}
use Rattle.integers.specs.Sum.{sizes}
use Rattle.integers.proofs.Size.{size-plus, size-times}
use Rattle.integers.proofs.Sizes.{size-entry}
use Rattle.std.specs.List.{list_all}
use Rattle.book.specs.Settings.{is_weight}
use Rattle.correction.specs.Correction.{by_direction, net_of, weighted_of}
use Rattle.correction.proofs.RunningSums.{direction-size}

-- the size of a number that each entry has
pub size-figure : {A : Type 0} (figure : A → ℤ) (xs : List A) (i : ℕ) (d : A) → figure d ≡ pos 0 → nat_abs (figure (get_or xs i d)) ≤ sizes (map figure xs)
size-figure figure xs i d none =
    let e : get_or (map figure xs) i (pos 0) ≡ figure (get_or xs i d) = ap (get_or (map figure xs) i) (sym none) ∙ get_or-map figure xs i d in
    rw (← e) (size-entry (map figure xs) i)

pub sizes-most : (xs : List ℤ) (B : ℕ) → ((k : ℕ) → nat_abs (get_or xs k (pos 0)) ≤ B) → sizes xs ≤ length xs * B
unfolding sizes
sizes-most [] B h = omega arith
sizes-most (x ∷ xs) B h = omega (arith, h 0, sizes-most xs B (λ k. h (suc k)))

-- n and a of a unit, from the sizes of its cells
pub net-most : (class : ℕ) (cells : List ℤ) → nat_abs (net_of class cells) ≤ sizes cells
unfolding net_of sizes
net-most class [] = omega arith
net-most class (c ∷ cells) = omega (arith, size-plus (by_direction class c) (net_of (suc class) cells), direction-size class c, net-most (suc class) cells)

pub weighted-most : (cells : List ℤ) (weights : List ℕ) → list_all is_weight weights ≡ true → nat_abs (weighted_of cells weights) ≤ 1000 * sizes cells
unfolding weighted_of sizes
weighted-most [] weights h = omega arith
weighted-most (c ∷ cells) [] h = omega arith
weighted-most (c ∷ cells) (w ∷ weights) h =
    let parts = (and-eq-true_iff (is_weight w) (list_all is_weight weights)).0 h in
    omega (
      arith,
      size-plus (c *ℤ pos w) (weighted_of cells weights),
      size-times c (pos w),
      mul-le-mul_left (nat_abs c) (leb-true w 1000 parts.0),
      weighted-most cells weights parts.1,
    )
