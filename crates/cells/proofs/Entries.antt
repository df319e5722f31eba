-- Entries of a list: a bound on all of them from one on those within.
use Prim.Native.Nat.{ℕ, ◌≤◌, ◌<◌}
use mathlib.Core.Path.{◌≡◌, ap}
use mathlib.Core.List.{List}
use native.Mathlib.Omega.{arith}
use borrow.Author.Tests.{ltb-true, ltb-false}
use lib.Dec.{ltb}
use lib.IntN.{ℤ, pos, nat_abs}
use lib.ListN.{length, get_or, get_or-eq_default}
use Rattle.words.proofs.Tests.{by-test}

pub by_place : (xs : List ℤ) (n B : ℕ) → length xs ≡ n → ((k : ℕ) → k < n → nat_abs (get_or xs k (pos 0)) ≤ B) → (k : ℕ) → nat_abs (get_or xs k (pos 0)) ≤ B
by_place xs n B long h k =
    by-test (ltb k n)
    (λ t. h k (ltb-true k n t))
    (λ t.
    let out : length xs ≤ k = omega (arith, ltb-false k n t) in
    omega (arith, ap nat_abs (get_or-eq_default xs (pos 0) out)))
