-- `words::is_actual` meets its contract: no code above 31 is actual, and the bit of each code up to 31 is its test, by computation.
use Prim.Native.Nat.{ℕ, ◌<◌}
use mathlib.Core.Path.{◌≡◌, refl}
use mathlib.Core.Bool.{true}
use native.Mathlib.Omega.{arith}
use lib.Dec.{eqb}
use borrow.Author.Tests.{lt-leb, ne_eqb}
use Rattle.words.specs.Registration.{bit_field}
use Rattle.words.specs.Reading.{is_actual}
use Rattle.words.proofs.Tests.{same, same-where, all_below, all-below}
use Rattle.words.proofs.is_actual.Goals as goal

-- codes as bits: those of a number are the actual ones if the test of each code up to 31 says so
bit_is : (codes : ℕ) → all_below 32 (λ k. same (eqb (bit_field codes k 1) 1) (is_actual k)) ≡ true → (q : ℕ) → q < 32 → eqb (bit_field codes q 1) 1 ≡ is_actual q
bit_is codes all q h = same-where (eqb (bit_field codes q 1) 1) (is_actual q) (all-below 32 (λ k. same (eqb (bit_field codes k 1) 1) (is_actual k)) all q h)

pub returns-then-q-gt31 : goal.returns-then-q-gt31
unfolding is_actual
returns-then-q-gt31 c =
    let q = c.args.q in
    rw (lt-leb q 6 (omega arith), ne_eqb q 9 (λ e. omega arith), ne_eqb q 13 (λ e. omega arith))

pub returns : goal.returns
unfolding same all_below is_actual
returns c = bit_is _ refl c.args.q (omega arith)
