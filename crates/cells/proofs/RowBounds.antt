-- What a well-formed row contributes, and where: its energy, its losses and its class. And how many rows a well-formed book has.
use Prim.Native.Nat.{ℕ, suc, ◌*◌, ◌/◌, ◌%◌, ◌≤◌, ◌<◌}
use mathlib.Core.Path.{◌≡◌, refl}
use mathlib.Core.Bool.{Bool, true, false, ◌||◌, cond, or-false}
use mathlib.Core.List.{List, [], ◌∷◌}
use native.Mathlib.Omega.{arith}
use native.Mathlib.Nat.{mul-le-mul_right}
use lib.Dec.{eqb, leb}
use lib.ListN.{length}
use lib.IntN.{pos, nat_abs, ◌-ℤ◌, ◌*ℤ◌}
use borrow.Author.Tests.{leb-true}
use Rattle.integers.proofs.Linear.{linear, minus, size, one_side}
use Rattle.integers.proofs.Size.{size-times}
use Rattle.words.specs.Registration.{direction_of, llf_of}
use Rattle.words.proofs.RegistrationWord.{well-formed-bounds, unit-bound}
use Rattle.words.proofs.ReadingWord.{reading-word-bounds}
use Rattle.book.specs.Limits.{meters_most, classes, shape_most, shape_missing}
use Rattle.std.specs.List.{list_all}
use Rattle.book.specs.Settings.{is_shape}
use Rattle.book.specs.Rows.{Row, capacity, rows_formed}
use Rattle.book.specs.Book.{Book, used_rows, well_formed}
use Rattle.book.proofs.AllOf.{entry-passes}
use Rattle.book.proofs.Rising.{Words, formed-first}
use Rattle.book.proofs.WellFormed.{formed-book, formed-settings, used-count}
use Rattle.cells.specs.declared.Source.{Source}
use Rattle.cells.specs.declared.Source.TheVariants.{Actual, Estimated, Defaulted, Idle}
use Rattle.cells.specs.Energy.{source_of, shape_of, shape_wh, energy_from, energy_wh}
use Rattle.cells.specs.Cells.{estimate_bit, consumption_class, loss_thousandths}
use Rattle.cells.proofs.Each.{Each, no-entry, entry}

pub record RowBounds (shapes : List ℕ) (r : Row) : Type 0 where
  pub energy : energy_wh shapes r.registration r.reading ≤ 10000000
  pub llf : llf_of r.registration ≤ 2000
  pub loss : nat_abs (loss_thousandths shapes r.registration r.reading) ≤ 1000 * energy_wh shapes r.registration r.reading
  pub class : suc (consumption_class r.registration r.reading) < classes

-- a shape's Wh, a missing one's 0
pub shape-most : (shape : ℕ) → is_shape shape ≡ true → shape_wh shape ≤ shape_most
unfolding shape_wh
shape-most shape h = by (eqb shape shape_missing) h
  where
    by : (missing : Bool) → leb shape shape_most || missing ≡ true → cond missing 0 shape ≤ shape_most
    by true e = omega arith
    by false e = leb-true shape shape_most (rw or-false at e)

-- "(LLF − 1,000)"
pub excess-most : (llf : ℕ) → llf ≤ 2000 → nat_abs (pos llf -ℤ pos 1000) ≤ 1000
excess-most llf h = let z = pos llf -ℤ pos 1000 in omega (linear, size z, one_side z, minus (pos llf) (pos 1000))

loss-most : (llf e : ℕ) → llf ≤ 2000 → nat_abs ((pos llf -ℤ pos 1000) *ℤ pos e) ≤ 1000 * e
loss-most llf e h = rw (size-times (pos llf -ℤ pos 1000) (pos e)) (mul-le-mul_right e (excess-most llf h))

pub estimate-most : (x : Source) → estimate_bit x ≤ 1
unfolding estimate_bit
estimate-most Actual = omega arith
estimate-most Estimated = omega arith
estimate-most Defaulted = omega arith
estimate-most Idle = omega arith

-- how small these numbers are, for the check to cite
pub ruleset few = (estimate-most, unit-bound)

-- the class of a meter's consumption is even, and of its direction
module _ (registration reading : ℕ) where
  pub class-even : consumption_class registration reading % 2 ≡ 0
  unfolding consumption_class
  class-even = omega arith

  pub class-direction : consumption_class registration reading / 4 % 2 ≡ direction_of registration
  unfolding consumption_class
  class-direction = omega (arith, estimate-most (source_of registration reading))

module _ (shapes : List ℕ) (formed : list_all is_shape shapes ≡ true) where
  module _ (r : Row) (words : Words r) where
    energy-most : (x : Source) → energy_from shapes r.registration r.reading x ≤ 10000000
    unfolding energy_from
    energy-most Actual = (reading-word-bounds r.reading words.reading-formed).0
    energy-most Estimated = (reading-word-bounds r.reading words.reading-formed).0
    energy-most Defaulted = shape-most (shape_of shapes r.registration) (entry-passes is_shape shapes _ shape_missing formed refl)
    energy-most Idle = omega arith

    pub row-bounds : RowBounds shapes r
    unfolding energy_wh consumption_class
    row-bounds =
        let fields = well-formed-bounds r.registration words.registration-formed in
        record {
          energy = energy-most (source_of r.registration r.reading);
          llf = fields.llf-most;
          loss = loss-most (llf_of r.registration) (energy_wh shapes r.registration r.reading) fields.llf-most;
          class = omega (arith, fields.segment, fields.direction, estimate-most (source_of r.registration r.reading));
        }

  -- well-formed rows
  pub rows-bounds : (before : ℕ) (rows : List Row) → rows_formed before rows ≡ true → Each (RowBounds shapes) rows
  rows-bounds before [] h = no-entry
  rows-bounds before (r ∷ rows) h =
      let f = formed-first before r rows h in
      entry (row-bounds r f.words) (rows-bounds r.mpan rows f.after)

-- those of a well-formed book
module _ (b : Book) (h : well_formed b ≡ true) where
  pub book-bounds : Each (RowBounds b.settings.shapes) (used_rows b)
  book-bounds =
      let f = formed-book b h in
      rows-bounds b.settings.shapes (formed-settings b.settings f.settings-formed).shapes-formed 0 (used_rows b) f.rows-formed

  pub book-few : length (used_rows b) ≤ meters_most
  unfolding capacity
  book-few = omega (arith, used-count b, (formed-book b h).within)
