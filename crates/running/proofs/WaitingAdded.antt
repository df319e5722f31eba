-- What a meter that waits has more, added to the changes of its two cells one after the other, as the code works it: each number on the way stays far inside an i64.
use Prim.Native.Nat.{ℕ, ◌+◌, ◌*◌, ◌<◌}
use mathlib.Core.Path.{◌≡◌}
use mathlib.Core.Bool.{true}
use mathlib.Core.List.{List}
use native.Mathlib.Omega.{arith}
use lib.Dec.{lit<}
use lib.IntN.{ℤ, pos, ◌+ℤ◌, ◌-ℤ◌, ◌*ℤ◌}
use lib.ListN.{length, get_or, set}
use lib.Seq.{get_or-set_other}
use mir.Syntax.{w64}
use mir.Val.{SFits, to_z, of_z}
use mir.ValLaws.{to_z_pos}
use Rattle.integers.proofs.Fit.{Held, held, held-literal, plus-fits, plus-held, minus-held, times-fits, times-held}
use Rattle.words.specs.Registration.{is_registration, llf_of, unit_of}
use Rattle.words.proofs.RegistrationWord.{well-formed-bounds, unit-bound}
use Rattle.cells.specs.Cells.{class_of}
use Rattle.running.specs.Words.{cell_words}
use Rattle.running.specs.Helpers.{waiting_cell, cells_give, cells_changed, WaitingArguments}
use Rattle.running.proofs.ChangedCells.{two-added}

pub waiting-inside : (registration : ℕ) → is_registration registration ≡ true → 24 * unit_of registration + class_of 1 registration + 1 < 768
waiting-inside registration formed =
    let fields = well-formed-bounds registration formed in
    omega (arith, unit-bound registration, fields.segment, fields.direction)

-- for the check to cite
pub ruleset inside = (waiting-inside)

-- what is added to the two words, as the code works it out
abbrev thousandths_bits : ℤ → ℕ
thousandths_bits wh = of_z w64 (pos 1000 *ℤ to_z w64 (of_z w64 wh))

abbrev loss_bits : ℕ → ℤ → ℕ
loss_bits llf wh = of_z w64 (to_z w64 (of_z w64 (to_z w64 llf -ℤ pos 1000)) *ℤ to_z w64 (of_z w64 wh))

module _ (change : List ℤ) (registration : ℕ) (wh : ℤ) (ok : WaitingArguments change registration wh) where
  wh-held : Held (of_z w64 wh) wh 10000000
  wh-held = held wh 10000000 ok.wh-bound (lit< tt)

  thousandths-held : Held (thousandths_bits wh) (pos 1000 *ℤ wh) 10000000000
  thousandths-held = times-held (held-literal 1000 (lit< tt)) wh-held (lit< tt)

  module _ {llf : ℕ} (l : llf ≡ llf_of registration) where
    llf-held : Held llf (pos llf) 2000
    llf-held =
        let most = (well-formed-bounds registration ok.registered).llf-most in
        record { reads = to_z_pos w64 llf (omega arith); bound = omega arith }

    excess-held : Held (of_z w64 (to_z w64 llf -ℤ pos 1000)) (pos llf -ℤ pos 1000) 3000
    excess-held = minus-held llf-held (held-literal 1000 (lit< tt)) (lit< tt)

    pub loss-fits : SFits w64 (to_z w64 (of_z w64 (to_z w64 llf -ℤ pos 1000)) *ℤ to_z w64 (of_z w64 wh))
    loss-fits = times-fits excess-held wh-held (lit< tt)

    loss-held : Held (loss_bits llf wh) ((pos llf -ℤ pos 1000) *ℤ wh) 30000000000
    loss-held = times-held excess-held wh-held (lit< tt)

    module _ {at : ℕ} (a : at ≡ waiting_cell registration) (long : length change ≡ cell_words) where
      next-inside : at + 1 < cell_words
      next-inside = omega (arith, waiting-inside registration ok.registered)

      change-held : (k : ℕ) → k < cell_words → Held (of_z w64 (get_or change k (pos 0))) (get_or change k (pos 0)) 1310720000000000
      change-held k h = held (get_or change k (pos 0)) 1310720000000000 (ok.change-bound k h) (lit< tt)

      first_reads : to_z w64 (of_z w64 (to_z w64 (of_z w64 (get_or change at (pos 0))) +ℤ to_z w64 (thousandths_bits wh))) ≡ get_or change at (pos 0) +ℤ pos 1000 *ℤ wh
      first_reads = (plus-held (change-held at (omega (arith, next-inside))) thousandths-held (lit< tt)).reads

      -- the second word is not the one that was stored
      next-kept : (x : ℤ) → get_or (set change at x) (at + 1) (pos 0) ≡ get_or change (at + 1) (pos 0)
      next-kept x = get_or-set_other change at (at + 1) x (pos 0) (λ e. omega arith)

      pub next_fits : (x : ℤ) → SFits w64 (to_z w64 (of_z w64 (get_or (set change at x) (at + 1) (pos 0))) +ℤ to_z w64 (loss_bits llf wh))
      next_fits x = rw (next-kept x) (plus-fits (change-held (at + 1) next-inside) loss-held (lit< tt))

      next-reads : (x : ℤ) → to_z w64 (of_z w64 (to_z w64 (of_z w64 (get_or (set change at x) (at + 1) (pos 0))) +ℤ to_z w64 (loss_bits llf wh))) ≡ get_or (set change at x) (at + 1) (pos 0) +ℤ (pos llf -ℤ pos 1000) *ℤ wh
      next-reads x = rw (next-kept x) (plus-held (change-held (at + 1) next-inside) loss-held (lit< tt)).reads

      pub both-added : let x = to_z w64 (of_z w64 (to_z w64 (of_z w64 (get_or change at (pos 0))) +ℤ to_z w64 (thousandths_bits wh))) in
          set (set change at x) (at + 1) (to_z w64 (of_z w64 (to_z w64 (of_z w64 (get_or (set change at x) (at + 1) (pos 0))) +ℤ to_z w64 (loss_bits llf wh))))
          ≡ cells_changed (cells_give (waiting_cell registration) registration wh) change
      unfolding cells_give
      both-added =
          rw (next-reads _, first_reads, a, l)
          (two-added cell_words (waiting_cell registration) (pos 1000 *ℤ wh) ((pos (llf_of registration) -ℤ pos 1000) *ℤ wh) change (waiting-inside registration ok.registered) (omega (arith, long)))
