-- Cells, counts and missing shapes do not depend on the order of the meters.
use Prim.Native.Nat.{ℕ, ◌-◌}
use mathlib.Core.Path.{◌≡◌, refl, ap, ap₂, ◌∙◌, fun_ext}
use mathlib.Core.Bool.{Bool, true, false, ◌||◌, cond}
use mathlib.Core.List.{List, map}
use native.Mathlib.Nat.{add_left_comm}
use lib.IntN.{ℤ}
use Rattle.integers.specs.Rounding.{nearest_wh}
use Rattle.book.specs.Limits.{classes}
use Rattle.book.specs.Rows.{Row}
use Rattle.cells.specs.declared.Counts.{Counts}
use Rattle.cells.specs.Energy.{source_of, any_lacks_shape, count_for, add_counts, counts_of, lacks_shape}
use Rattle.cells.specs.Cells.{is_loss_class, consumption_cell, loss_cell, cell, count_from, cells_of, energy_in, loss_in}
use Rattle.cells.proofs.Permuted.{Permuted, none, keep, exchange, chain}
use Rattle.cells.proofs.SumOver.{sum-over-any-order}

or-exchange : (a b c : Bool) → a || (b || c) ≡ b || (a || c)
or-exchange true true c = refl
or-exchange true false c = refl
or-exchange false true c = refl
or-exchange false false c = refl

pub lacks-any-order : (shapes : List ℕ) {meters others : List Row} → Permuted Row meters others → any_lacks_shape shapes meters ≡ any_lacks_shape shapes others
unfolding any_lacks_shape
lacks-any-order shapes none = refl
lacks-any-order shapes (keep {x = r} p) = ap (λ b. lacks_shape shapes r.registration r.reading || b) (lacks-any-order shapes p)
lacks-any-order shapes (exchange {x = r} {y = o} {xs = rest}) =
    or-exchange (lacks_shape shapes r.registration r.reading) (lacks_shape shapes o.registration o.reading) (any_lacks_shape shapes rest)
lacks-any-order shapes (chain p q) = lacks-any-order shapes p ∙ lacks-any-order shapes q

add-exchange : (x y z : Counts) → add_counts x (add_counts y z) ≡ add_counts y (add_counts x z)
add-exchange x y z i =
    record {
      actual = add_left_comm x.actual y.actual z.actual i;
      estimated = add_left_comm x.estimated y.estimated z.estimated i;
      defaulted = add_left_comm x.defaulted y.defaulted z.defaulted i;
      idle = add_left_comm x.idle y.idle z.idle i;
    }

pub counts-any-order : {meters others : List Row} → Permuted Row meters others → counts_of meters ≡ counts_of others
unfolding counts_of
counts-any-order none = refl
counts-any-order (keep {x = r} p) = ap (add_counts (count_for (source_of r.registration r.reading))) (counts-any-order p)
counts-any-order (exchange {x = r} {y = o} {xs = rest}) = add-exchange (count_for (source_of r.registration r.reading)) (count_for (source_of o.registration o.reading)) (counts_of rest)
counts-any-order (chain p q) = counts-any-order p ∙ counts-any-order q

module _ {meters others : List Row} (p : Permuted Row meters others) where
  pub loss-any-order : (shapes : List ℕ) (unit class : ℕ) → loss_cell shapes meters unit class ≡ loss_cell shapes others unit class
  unfolding loss_cell
  loss-any-order shapes unit class = sum-over-any-order (loss_in shapes unit class) p

  pub cell-any-order : (shapes : List ℕ) (unit class : ℕ) → cell shapes meters unit class ≡ cell shapes others unit class
  unfolding cell consumption_cell
  cell-any-order shapes unit class =
      ap₂ (λ (loss consumption : ℤ). cond (is_loss_class class) (nearest_wh loss) consumption)
      (loss-any-order shapes unit (class - 1))
      (sum-over-any-order (energy_in shapes unit class) p)

  pub cells-any-order : (shapes : List ℕ) (unit : ℕ) → cells_of shapes meters unit ≡ cells_of shapes others unit
  unfolding cells_of
  cells-any-order shapes unit = ap (λ (c : ℕ → ℤ). map c (count_from 0 classes)) (fun_ext (cell-any-order shapes unit))
