-- The bits of a word, at every place and width.
use Prim.Native.Nat.{ℕ, ◌+◌, ◌*◌, ◌%◌, ◌^◌}
use mathlib.Core.Path.{◌≡◌}
use native.Mathlib.Nat.{add_comm}
use lib.Pow.{mod-pow-add}
use Rattle.words.specs.Registration.{bit_field}

-- the bits below `at` and the field that starts there are the bits below the field's end
pub join : (w at width : ℕ) → w % 2 ^ at + bit_field w at width * 2 ^ at ≡ w % 2 ^ (width + at)
join w at width = rw (mod-pow-add w width at) (add_comm _ _)
