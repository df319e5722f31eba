-- What an allocation works out, and what its droppings are promised to be, does not depend on the order of the meters.
use Prim.Native.Nat.{ℕ}
use mathlib.Core.Path.{◌≡◌, refl, ap, fun_ext}
use mathlib.Core.List.{List}
use lib.IntN.{ℤ}
use Rattle.book.specs.declared.Settings.{Settings}
use Rattle.book.specs.Rows.{Row}
use Rattle.cells.proofs.Permuted.{Permuted}
use Rattle.cells.proofs.SumOver.{sum-over-any-order}
use Rattle.cells.proofs.AnyOrder.{loss-any-order, cell-any-order, cells-any-order, counts-any-order, lacks-any-order}
use Rattle.correction.specs.Correction.{over_losses}
use Rattle.allocation.specs.Losses.{rounded_losses, exact_loss, exact_losses, LossesReconciled}
use Rattle.allocation.specs.Allocate.{all_unit_sums, meters_cause, figures_of}
use Rattle.allocation.proofs.Alike.{MetersAlike, sums-alike, cause-alike, figures-alike}

module _ {meters others : List Row} (p : Permuted Row meters others) where
  any_order : (shapes : List ℕ) → MetersAlike shapes meters others
  any_order shapes =
      record {
        same-cells = cells-any-order p shapes;
        same-losses = loss-any-order p shapes;
        same-counts = counts-any-order p;
        same-lacks = lacks-any-order shapes p;
      }

  pub sums-any-order : (s : Settings) → all_unit_sums s meters ≡ all_unit_sums s others
  sums-any-order s = sums-alike refl (any_order s.shapes)

  pub cause-any-order : (s : Settings) → meters_cause s meters ≡ meters_cause s others
  cause-any-order s = cause-alike refl (any_order s.shapes)

  pub figures-any-order : (s : Settings) → figures_of s meters ≡ figures_of s others
  figures-any-order s = figures-alike refl (any_order s.shapes)

  -- rounded losses and exact ones, and so droppings as promised of the meters are as promised of them in the other order
  module _ (shapes : List ℕ) where
    rounded-any-order : (unit : ℕ) → rounded_losses shapes meters unit ≡ rounded_losses shapes others unit
    unfolding rounded_losses
    rounded-any-order unit = ap over_losses (fun_ext (cell-any-order p shapes unit))

    exact-any-order : (unit : ℕ) → exact_losses shapes meters unit ≡ exact_losses shapes others unit
    unfolding exact_losses
    exact-any-order unit = sum-over-any-order (exact_loss shapes unit) p

    pub reconciled-any-order : {droppings : List ℤ} → LossesReconciled shapes meters droppings → LossesReconciled shapes others droppings
    reconciled-any-order l =
        record {
          long = l.long;
          reconciled = λ unit h. rw (rounded-any-order unit, exact-any-order unit) at (l.reconciled unit h);
          bounded = l.bounded;
        }
