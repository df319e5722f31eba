-- The order of ℤ: what a branch of the code knows of it, and its laws for sums and products. `lib.Signed` has reflexivity, `<ℤ-≤ℤ_trans`, irreflexivity and `clash_ℤ`; what is
-- linear, `omega linear` proves where it is wanted.
use mathlib.Core.Path.{◌≡◌, sym, subst}
use mathlib.Core.Bool.{Bool, true, false, not}
use Prim.Native.Nat.{◌+◌, ◌*◌, ◌≤◌, ◌<◌}
use native.Mathlib.Nat.{lt_of_mul-lt-mul_right, le_of_mul-le-mul_right}
use lib.Dec.{T}
use lib.IntN.{ℤ, pos, negsuc, ◌+ℤ◌, ◌*ℤ◌}
use lib.Signed.{le_z, lt_z, ◌≤ℤ◌, ◌<ℤ◌, le_z_yes, lt_z_yes, lt_z_no}
use borrow.Author.Differences.{up, down, below_in, at_most_in}
use Rattle.integers.proofs.Linear.{linear}

-- a test that held or failed
pub lt-true : (a b : ℤ) → lt_z a b ≡ true → a <ℤ b
lt-true a b e = lt_z_yes (subst T (sym e) tt)

pub lt-false : (a b : ℤ) → lt_z a b ≡ false → b ≤ℤ a
lt-false a b e = lt_z_no (subst (λ (t : Bool). T (not t)) (sym e) tt)

pub le-true : (a b : ℤ) → le_z a b ≡ true → a ≤ℤ b
le-true a b e = le_z_yes (subst T (sym e) tt)

module _ {a b : ℤ} where
  pub le_of_lt : a <ℤ b → a ≤ℤ b
  le_of_lt h = omega linear

  pub antisymmetric : a ≤ℤ b → b ≤ℤ a → a ≡ b
  antisymmetric h k = omega linear

  pub le-of-lt-next : a <ℤ (b +ℤ pos 1) → a ≤ℤ b
  le-of-lt-next h = omega linear

-- a factor that is not negative may be left off
pub times-cancel-lt : (a b d : ℤ) → pos 0 ≤ℤ d → (a *ℤ d) <ℤ (b *ℤ d) → a <ℤ b
times-cancel-lt a b (pos n) p h =
    let k : (up a + down b) * n < (up b + down a) * n = omega linear in
    below_in a b (lt_of_mul-lt-mul_right n k)
times-cancel-lt a b (negsuc n) p h = absurd p.le

pub times-cancel-le : (a b d : ℤ) → pos 0 <ℤ d → (a *ℤ d) ≤ℤ (b *ℤ d) → a ≤ℤ b
times-cancel-le a b (pos n) p h =
    let q : 0 < n = omega linear in
    let k : (up a + down b) * n ≤ (up b + down a) * n = omega linear in
    at_most_in a b (le_of_mul-le-mul_right k q)
times-cancel-le a b (negsuc n) p h = absurd p.lt
