-- `entry_of` meets its contract: each field is the definition's, and the bounds of a well-formed meter keep each number far inside its width.
use Prim.Native.Nat.{ℕ, ◌≤◌}
use mathlib.Core.Path.{◌≡◌, refl, ◌∙◌}
use mathlib.Core.Bool.{cond}
use mathlib.Core.List.{List}
use native.Mathlib.Omega.{arith}
use denote.Enum.Bare.{sameb}
use lib.Dec.{lit<, eqb}
use lib.IntN.{pos, ◌-ℤ◌, ◌*ℤ◌}
use mir.Syntax.{w64}
use mir.Val.{SFits, to_z, of_z, bool_byte}
use mir.ValLaws.{to_z_pos}
use Rattle.std.specs.Prelude.{Option, Some}
use Rattle.integers.proofs.Fit.{Held, held-literal, minus-held, times-fits, times-held}
use Rattle.integers.proofs.Linear.{linear}
use Rattle.words.specs.Limits.{mpan_least}
use Rattle.words.specs.Registration.{llf_of}
use Rattle.words.proofs.RegistrationWord.{unit-bound}
use Rattle.book.specs.declared.Held as book
use Rattle.book.specs.Helpers.{row}
use Rattle.cells.specs.declared.Use.{Use}
use Rattle.cells.specs.declared.Source.{Source}
use Rattle.cells.specs.declared.Source.TheVariants.{Actual, Estimated, Defaulted, Idle}
use Rattle.cells.specs.contracts.Source.{the_type}
use Rattle.cells.specs.Energy.{source_number, energy_wh}
use Rattle.cells.specs.Cells.{estimate_bit, class_of, consumption_class, loss_thousandths}
use Rattle.cells.specs.Helpers.{use_of, wh_of}
use Rattle.cells.proofs.RowBounds.{RowBounds}
use Rattle.cells.proofs.Uses.{use-wh}
use Rattle.running.specs.Helpers.{entry_of, BeforeFormed, ShapesFormed}
use Rattle.running.proofs.Entries.{held-bounds, entry-formed}
use Rattle.running.proofs.meters.entry_of.Goals as goal

-- whether a meter waits, as the code asks and writes it
waits-as : (x : Source) → to_z w64 (of_z w64 (pos (bool_byte (sameb the_type x Defaulted)))) ≡ cond (eqb (source_number x) 2) (pos 1) (pos 0)
waits-as Actual = refl
waits-as Estimated = refl
waits-as Defaulted = refl
waits-as Idle = refl

-- the energy, the class and the losses, as the code works them out
module _ (shapes : List ℕ) (registration reading : ℕ) {used : Use} (u : used ≡ use_of shapes registration reading) where
  class-is : {class : ℕ} → class ≡ class_of (estimate_bit used.source) registration → class ≡ consumption_class registration reading
  unfolding consumption_class
  class-is k = k ∙ rw u

  module _ (most : energy_wh shapes registration reading ≤ 10000000) {wh : ℕ} (w : wh ≡ wh_of used) where
    wh-is : wh ≡ energy_wh shapes registration reading
    wh-is = w ∙ rw u (use-wh shapes registration reading)

    wh-held : Held wh (pos (energy_wh shapes registration reading)) 10000000
    wh-held = rw wh-is (record { reads = to_z_pos w64 (energy_wh shapes registration reading) (omega (arith, most)); bound = most })

    thousandths-fit : SFits w64 (pos 1000 *ℤ to_z w64 wh)
    thousandths-fit = times-fits (held-literal 1000 (lit< tt)) wh-held (lit< tt)

    thousandths-read : to_z w64 (of_z w64 (pos 1000 *ℤ to_z w64 wh)) ≡ pos 1000 *ℤ pos (energy_wh shapes registration reading)
    thousandths-read = (times-held (held-literal 1000 (lit< tt)) wh-held (lit< tt)).reads

    module _ {llf : ℕ} (l : llf ≡ llf_of registration) where
      llf-held : Held llf (pos (llf_of registration)) 2047
      llf-held = rw l (record { reads = to_z_pos w64 (llf_of registration) (omega arith); bound = omega arith })

      excess-held : Held (of_z w64 (to_z w64 llf -ℤ pos 1000)) (pos (llf_of registration) -ℤ pos 1000) 3047
      excess-held = minus-held llf-held (held-literal 1000 (lit< tt)) (lit< tt)

      loss-fits : SFits w64 (to_z w64 (of_z w64 (to_z w64 llf -ℤ pos 1000)) *ℤ to_z w64 wh)
      loss-fits = times-fits excess-held wh-held (lit< tt)

      loss-read : to_z w64 (of_z w64 (to_z w64 (of_z w64 (to_z w64 llf -ℤ pos 1000)) *ℤ to_z w64 wh)) ≡ loss_thousandths shapes registration reading
      loss-read = (times-held excess-held wh-held (lit< tt)).reads

-- the bounds of a meter that is there
bounds : {shapes : List ℕ} {before : Option book.Held} {held : book.Held} → ShapesFormed shapes → BeforeFormed before → before ≡ Some held
    → RowBounds shapes (row mpan_least held.registration held.reading)
bounds {shapes} {before} {held} ok h e = held-bounds shapes ok held (rw e at h)

pub returns-in_default-clause-is : goal.returns-in_default-clause-is
unfolding entry_of
returns-in_default-clause-is c = rw c.in_default.is

pub overflow_cast-wh : goal.overflow_cast-wh
overflow_cast-wh c =
    let held = c.in-Some.held in
    let b = bounds c.requires.shapes c.requires.formed c.in-Some.is in
    omega (linear, wh-is c.args.shapes.now held.registration held.reading c.use_of-meter.ensures b.energy c.unwrap_or-wh.ensures, b.energy)

pub overflow_mul-result : goal.overflow_mul-result
overflow_mul-result c = omega (arith, c.unit-unit.ensures, unit-bound c.in-Some.held.registration)

pub overflow_add-result : goal.overflow_add-result
overflow_add-result c =
    let held = c.in-Some.held in
    omega (
      arith,
      c.unit-unit.ensures,
      unit-bound held.registration,
      class-is c.args.shapes.now held.registration held.reading c.use_of-meter.ensures c.class-class.ensures,
      (bounds c.requires.shapes c.requires.formed c.in-Some.is).class,
    )

pub overflow_mul-result-2 : goal.overflow_mul-result-2
overflow_mul-result-2 c =
    let held = c.in-Some.held in
    let b = bounds c.requires.shapes c.requires.formed c.in-Some.is in
    thousandths-fit c.args.shapes.now held.registration held.reading c.use_of-meter.ensures b.energy c.unwrap_or-wh.ensures

pub overflow_mul-result-3 : goal.overflow_mul-result-3
overflow_mul-result-3 c =
    let held = c.in-Some.held in
    let b = bounds c.requires.shapes c.requires.formed c.in-Some.is in
    loss-fits c.args.shapes.now held.registration held.reading c.use_of-meter.ensures b.energy c.unwrap_or-wh.ensures c.of.ensures

pub returns-clause-is : goal.returns-clause-is
unfolding entry_of
returns-clause-is c =
    let shapes = c.args.shapes.now in
    let held = c.in-Some.held in
    let u = c.use_of-meter.ensures in
    let most = (bounds c.requires.shapes c.requires.formed c.in-Some.is).energy in
    rw (
      c.in-Some.is,
      c.unit-unit.ensures,
      class-is shapes held.registration held.reading u c.class-class.ensures,
      thousandths-read shapes held.registration held.reading u most c.unwrap_or-wh.ensures,
      loss-read shapes held.registration held.reading u most c.unwrap_or-wh.ensures c.of.ensures,
      c.from.ensures,
      c.of-2.ensures,
      c.from-2.ensures,
      c.eq.ensures,
      waits-as c.use_of-meter.result.source,
      u,
    )

pub returns-clause-formed : goal.returns-clause-formed
returns-clause-formed c = rw (returns-clause-is c) (entry-formed c.args.shapes.now c.requires.shapes c.args.held c.requires.formed)
