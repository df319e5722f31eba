-- The 24 words of a unit in a slice of cells: the slice in arrays of 24 has them unit by unit, how many they are, where they stand, and how large they are: those of all units are its first 768.
use Prim.Native.Nat.{ℕ, zero, suc, ◌+◌, ◌-◌, ◌*◌, ◌≤◌, ◌<◌}
use mathlib.Core.Path.{◌≡◌, refl, ap, ◌∙◌}
use mathlib.Core.List.{List, []}
use native.Mathlib.Omega.{arith}
use lib.IntN.{ℤ, pos}
use lib.ListN.{length, get_or, take, drop, length-drop}
use lib.Seq.{length-take-le, get_or-take, get_or-drop, take-add, drop-drop}
use Rattle.std.specs.Simd.{first_chunks}
use Rattle.integers.specs.Sum.{sizes}
use Rattle.integers.proofs.Sizes.{sizes-append}
use Rattle.book.specs.Limits.{classes}
use Rattle.cells.specs.Cells.{units}
use Rattle.cells.proofs.Totals.{total}
use Rattle.correction.specs.Slice.{unit_cells}

chunk-at : (n k i : ℕ) (cells : List ℤ) → i < k → get_or (first_chunks n k cells) i [] ≡ take n (drop (n * i) cells)
chunk-at n zero i cells h = absurd (omega arith)
chunk-at n (suc k) zero cells h = let e : 0 ≡ n * 0 = omega arith in ap (λ (m : ℕ). take n (drop m cells)) e
chunk-at n (suc k) (suc i) cells h =
    let e : n + n * i ≡ n * suc i = omega arith in
    chunk-at n k i (drop n cells) (omega arith) ∙ ap (take n) (drop-drop (n * i) n cells ∙ ap (λ (m : ℕ). drop m cells) e)

-- the array of a unit is its cells
pub unit-chunk : (cells : List ℤ) (k unit : ℕ) → unit < k → get_or (first_chunks classes k cells) unit [] ≡ unit_cells cells unit
unfolding unit_cells
unit-chunk cells k unit h = chunk-at classes k unit cells h

-- their number, and where each stands in the slice
pub unit-cells-long : (cells : List ℤ) (unit : ℕ) → classes * units ≤ length cells → unit < units → length (unit_cells cells unit) ≡ classes
unfolding unit_cells
unit-cells-long cells unit long h = length-take-le classes (drop (classes * unit) cells) (omega (arith, length-drop (classes * unit) cells))

pub unit-cell : (cells : List ℤ) (unit class : ℕ) → class < classes → get_or (unit_cells cells unit) class (pos 0) ≡ get_or cells (classes * unit + class) (pos 0)
unfolding unit_cells
unit-cell cells unit class h = get_or-take classes (drop (classes * unit) cells) class (pos 0) h ∙ get_or-drop (classes * unit) cells class (pos 0)

part-sizes : (xs : List ℤ) (m n rest : ℕ) → sizes (take n (drop m xs)) ≤ sizes (take (m + (n + rest)) xs)
part-sizes xs m n rest = rw (take-add m (n + rest) xs, sizes-append, take-add n rest (drop m xs), sizes-append) (omega arith)

-- the sizes of the cells of one unit, of n units from unit j on, and of all
pub unit-sizes : (cells : List ℤ) (unit : ℕ) → unit < units → sizes (unit_cells cells unit) ≤ sizes (take (classes * units) cells)
unfolding unit_cells
unit-sizes cells unit h =
    let rest : ℕ = classes * units - classes * unit - classes in
    let all : classes * unit + (classes + rest) ≡ classes * units = omega arith in
    rw all at (part-sizes cells (classes * unit) classes rest)

sizes-from : (cells : List ℤ) (j n : ℕ) → total (λ unit. sizes (unit_cells cells unit)) j n ≡ sizes (take (classes * n) (drop (classes * j) cells))
unfolding total sizes unit_cells
sizes-from cells j zero = refl
sizes-from cells j (suc n) =
    let first : classes * suc n ≡ classes + classes * n = omega arith in
    let next : classes * suc j ≡ classes * j + classes = omega arith in
    rw (first, take-add classes (classes * n) (drop (classes * j) cells), sizes-append, drop-drop classes (classes * j) cells, sizes-from cells (suc j) n, next)

pub units-sizes : (cells : List ℤ) → total (λ unit. sizes (unit_cells cells unit)) 0 units ≡ sizes (take (classes * units) cells)
units-sizes cells = sizes-from cells 0 units
