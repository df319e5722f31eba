-- How large the Take of settings that are well formed can be.
use Prim.Native.Nat.{ℕ, ◌≤◌}
use mathlib.Core.Path.{◌≡◌}
use mathlib.Core.Bool.{true, ◌&&◌, and-eq-true_iff}
use mathlib.Core.Logic.{⊎_elim}
use native.Mathlib.Omega.{arith}
use lib.Dec.{eqb, lit<}
use lib.IntN.{ℤ, nat_abs}
use mir.Syntax.{w64}
use mir.Val.{SFits}
use borrow.Author.Tests.{eqb-true}
use Rattle.integers.proofs.Fit.{fit}
use Rattle.integers.proofs.Order.{le-true}
use Rattle.integers.proofs.Size.{within}
use Rattle.words.proofs.Tests.{either}
use Rattle.book.specs.declared.Settings.{Settings}
use Rattle.book.specs.Limits.{take_least, take_most, take_flag_unset, take_flag_set}
use Rattle.book.specs.Settings.{is_take, take_formed, settings_formed}
use Rattle.book.proofs.WellFormed.{formed-settings}

take-most : (flag : ℕ) (wh : ℤ) → take_formed flag wh ≡ true → nat_abs wh ≤ 5000000000
unfolding take_formed
take-most flag wh h =
    ⊎_elim
    (λ unset. omega (arith, eqb-true (nat_abs wh) 0 (simp and-eq-true_iff at unset).1))
    (λ set.
    let parts = (simp and-eq-true_iff at set).1 in
    within (le-true take_least wh parts.0) (le-true wh take_most parts.1))
    (either (eqb flag take_flag_unset && eqb (nat_abs wh) 0) (eqb flag take_flag_set && is_take wh) h)

-- the Take of settings that are well formed
pub take-limited : (s : Settings) → settings_formed s ≡ true → nat_abs s.take_wh ≤ 5000000000
take-limited s h = take-most s.take_set s.take_wh (formed-settings s h).take-formed

pub take-fits : (s : Settings) → settings_formed s ≡ true → SFits w64 s.take_wh
take-fits s h = fit s.take_wh 5000000000 (take-limited s h) (lit< tt)
