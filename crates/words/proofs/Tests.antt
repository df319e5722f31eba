-- Tests taken apart: by their two outcomes, a disjunction that passes or fails, two tests that pass together, a test of each number below a bound. A conjunction is taken apart by the library's `and-eq-true_iff`.
use Prim.Native.Nat.{ℕ, zero, suc, ◌<◌}
use mathlib.Core.Path.{◌≡◌, refl, sym}
use mathlib.Core.Bool.{Bool, true, false, not, ◌&&◌, ◌||◌, true≢false, and-eq-true_iff}
use mathlib.Core.Logic.{◌⊎◌, inl, inr}
use native.Mathlib.Omega.{arith}
use lib.Dec.{eqb}
use borrow.Author.Tests.{eqb-true, eqb-false}

pub by-test : {X : Type 0} (t : Bool) → (t ≡ true → X) → (t ≡ false → X) → X
by-test true yes-case no-case = yes-case refl
by-test false yes-case no-case = no-case refl

pub either : (a b : Bool) → a || b ≡ true → (a ≡ true) ⊎ (b ≡ true)
either true b e = inl refl
either false b e = inr e

pub neither : (a b : Bool) → a || b ≡ false → (a ≡ false) × (b ≡ false)
neither true b h = absurd (true≢false h)
neither false b h = (refl, h)

pub same_test : (s t : Bool) → (s ≡ true → t ≡ true) → (t ≡ true → s ≡ true) → s ≡ t
same_test true t to fro = sym (to refl)
same_test false true to fro = fro refl
same_test false false to fro = refl

-- two tests compared, and a test of every number below a bound

unfoldable pub same : Bool → Bool → Bool
same true t = t
same false t = not t

pub same-where : (s t : Bool) → same s t ≡ true → s ≡ t
unfolding same
same-where true t e = sym e
same-where false true e = e
same-where false false e = refl

unfoldable pub all_below : ℕ → (ℕ → Bool) → Bool
all_below zero p = true
all_below (suc n) p = p n && all_below n p

pub all-below : (n : ℕ) (p : ℕ → Bool) → all_below n p ≡ true → (x : ℕ) → x < n → p x ≡ true
unfolding all_below
all-below zero p all x h = absurd (omega arith)
all-below (suc n) p all x h =
    let k = (and-eq-true_iff (p n) (all_below n p)).0 all in
    by-test (eqb x n)
    (λ e. rw (eqb-true x n e) k.0)
    (λ e. all-below n p k.1 x (omega (arith, eqb-false x n e)))
