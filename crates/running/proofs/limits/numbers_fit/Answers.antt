-- `numbers_fit` meets its contract: the next number is that of the slice, and the bits of all tell whether each is in its range. Assumes nothing.
use Prim.Native.Nat.{◌<◌}
use mathlib.Core.Path.{◌≡◌, sym}
use native.Mathlib.Omega.{arith}
use lib.IntN.{ℤ, pos}
use lib.ListN.{get_or, take, drop}
use Rattle.std.proofs.Common.{length-drop, length-take}
use Rattle.std.proofs.lemmas.List.{get_or-take}
use mir.Syntax.{w64}
use mir.Val.{SFits, of_z}
use borrow.Author.Rules.{rules}
use mir.ValLaws.{to_z-of_z}
use Rattle.running.specs.Words.{cell_words}
use Rattle.running.specs.Running.{number_words}
use Rattle.running.proofs.WithinLimits.{number_next, or_in-range, word_in-range}
use Rattle.running.proofs.limits.numbers_fit.Goals as goal

pub loop-number-preserved : goal.loop-number-preserved
loop-number-preserved c =
    let i = c.loop-number.number-index in
    let words = drop cell_words c.args.cells.now in
    let h : i < number_words = omega (arith, length-drop {A = ℤ}, length-take {A = ℤ}) in
    let f : SFits w64 (get_or (take number_words words) i (pos 0)) = search rules in
    let g : SFits w64 (get_or words i (pos 0)) = rw (get_or-take number_words words i (pos 0) h) at f in
    let e : c.cast_unsigned-bits.result ≡ of_z w64 (get_or words i (pos 0)) = rw (to_z-of_z w64 (get_or (take number_words words) i (pos 0)) f, get_or-take number_words words i (pos 0) h) at c.cast_unsigned-bits.ensures in
    rw (or_in-range c.loop-number.bits c.cast_unsigned-bits.result, c.loop-number.invariant, e, word_in-range (get_or words i (pos 0)) g) (sym (number_next i words (omega (arith, length-drop {A = ℤ}))))

pub returns : goal.returns
returns c =
    let e : c.loop-number.number-index ≡ number_words = omega (arith, length-drop {A = ℤ}, length-take {A = ℤ}) in
    rw c.cast_unsigned.ensures (rw e at c.loop-number.invariant)
