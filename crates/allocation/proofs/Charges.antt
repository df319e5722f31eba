-- Two well-formed books with the same settings, and with rows that differ only in their networks and tariffs, are allocated alike.
use Prim.Native.Nat.{ℕ, zero, suc}
use mathlib.Core.Path.{◌≡◌, refl, ap}
use mathlib.Core.Bool.{true}
use mathlib.Core.List.{List}
use lib.IntN.{ℤ}
use Rattle.book.specs.declared.Settings.{Settings}
use Rattle.book.specs.Rows.{Row}
use Rattle.book.specs.Book.{Book, used_rows, well_formed}
use Rattle.book.proofs.Charges.{RowsAlike, same-where-alike}
use Rattle.cells.specs.Cells.{loss_cell, cells_of}
use Rattle.cells.specs.Energy.{counts_of, any_lacks_shape}
use Rattle.cells.proofs.Charges.{loss-without-charges, cells-without-charges, counts-without-charges, lacks-without-charges}
use Rattle.correction.specs.Volumes.{volumes_of, with_volumes}
use Rattle.allocation.specs.Allocate.{allocation_cause, allocation_outcome, allocate_call}
use Rattle.allocation.proofs.Alike.{MetersAlike, sums-alike, cause-alike, figures-alike}
use Rattle.allocation.proofs.Outcome.{sums_of}

-- rows that differ only so have the same cells, losses, counts and missing shapes
alike-meters : (shapes : List ℕ) (meters others : List Row) → RowsAlike meters others → MetersAlike shapes meters others
alike-meters shapes meters others alike =
    record {
      same-cells = λ unit. same-where-alike meters others alike (λ (rows : List Row). cells_of shapes rows unit) (λ rows. cells-without-charges shapes rows unit);
      same-losses = λ unit class. same-where-alike meters others alike (λ (rows : List Row). loss_cell shapes rows unit class) (λ rows. loss-without-charges shapes rows unit class);
      same-counts = same-where-alike meters others alike counts_of counts-without-charges;
      same-lacks = same-where-alike meters others alike (any_lacks_shape shapes) (lacks-without-charges shapes);
    }

module _ (b other : Book) (formed : well_formed b ≡ true) (other-formed : well_formed other ≡ true) (settings : b.settings ≡ other.settings)
    (rows : RowsAlike (used_rows b) (used_rows other)) (slice : List ℤ) where
  meters-alike : MetersAlike b.settings.shapes (used_rows b) (used_rows other)
  meters-alike = alike-meters b.settings.shapes (used_rows b) (used_rows other) rows

  same-cause : allocation_cause b slice ≡ allocation_cause other slice
  unfolding allocation_cause
  same-cause = rw (formed, other-formed, cause-alike settings meters-alike)

  answer-by : (cause : ℕ) → (allocation_outcome cause b slice).answer ≡ (allocation_outcome cause other slice).answer
  unfolding allocation_outcome
  answer-by zero = figures-alike settings meters-alike
  answer-by (suc k) = refl

  volumes-by : (cause : ℕ) → (allocation_outcome cause b slice).volumes ≡ (allocation_outcome cause other slice).volumes
  unfolding allocation_outcome
  volumes-by zero = rw (sums-alike settings meters-alike) (ap (λ (s : Settings). with_volumes (volumes_of s.take_wh (sums_of other)) slice) settings)
  volumes-by (suc k) = refl

  pub answer-without-charges : (allocate_call b slice).answer ≡ (allocate_call other slice).answer
  unfolding allocate_call
  answer-without-charges = rw same-cause (answer-by (allocation_cause other slice))

  pub volumes-without-charges : (allocate_call b slice).volumes ≡ (allocate_call other slice).volumes
  unfolding allocate_call
  volumes-without-charges = rw same-cause (volumes-by (allocation_cause other slice))
