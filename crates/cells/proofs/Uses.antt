-- What a use says of its meter: the energy in Wh, which is 0 where the shape is missing, and whether it is missing.
use Prim.Native.Nat.{ℕ}
use mathlib.Core.Path.{◌≡◌, refl}
use mathlib.Core.Bool.{Bool, true, false, cond}
use mathlib.Core.List.{List}
use lib.Dec.{eqb}
use Rattle.std.specs.Prelude.{Some, None, unwrap_or}
use Rattle.book.specs.Limits.{shape_missing}
use Rattle.cells.specs.declared.Source.{Source}
use Rattle.cells.specs.declared.Source.TheVariants.{Actual, Estimated, Defaulted, Idle}
use Rattle.cells.specs.Energy.{source_of, shape_of, shape_wh, energy_from, energy_wh, lacks_shape_from}
use Rattle.cells.specs.Helpers.{use_of, wh_of}

module _ (shapes : List ℕ) (registration reading : ℕ) where
  pub use-wh : wh_of (use_of shapes registration reading) ≡ energy_wh shapes registration reading
  unfolding energy_wh energy_from lacks_shape_from shape_wh
  use-wh = by (source_of registration reading)
    where
      shaped : (missing : Bool) (shape : ℕ) → unwrap_or (cond missing None (Some (cond missing 0 shape))) 0 ≡ cond missing 0 shape
      shaped true shape = refl
      shaped false shape = refl

      by : (s : Source) → unwrap_or (cond (lacks_shape_from shapes registration s) None (Some (energy_from shapes registration reading s))) 0 ≡ energy_from shapes registration reading s
      by Actual = refl
      by Estimated = refl
      by Defaulted = shaped (eqb (shape_of shapes registration) shape_missing) (shape_of shapes registration)
      by Idle = refl
      -- as the code asks it
