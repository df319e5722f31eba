-- What an acceptance tells of a cause.
use Prim.Native.Nat.{ℕ, suc}
use mathlib.Core.Path.{◌≡◌, refl}
use mathlib.Core.Bool.{Bool, true, false}
use native.Mathlib.Omega.{arith}
use Rattle.refusals.specs.Causes.{refuse, accepted}

-- a cause that did not apply, and the causes after it
pub passed : (b : Bool) (k rest : ℕ) → refuse b (suc k) rest ≡ accepted → (b ≡ false) × (rest ≡ accepted)
passed true k rest h = absurd (omega arith)
passed false k rest h = (refl, h)
