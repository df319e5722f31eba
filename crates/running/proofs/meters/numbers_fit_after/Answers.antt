-- `numbers_fit_after` meets its contract: each number with its change is far inside an i64.
use Prim.Native.Nat.{ℕ, ◌*◌, ◌+◌, ◌≤◌}
use mathlib.Core.Path.{◌≡◌}
use native.Mathlib.Omega.{arith}
use lib.IntN.{ℤ, pos, nat_abs, ◌+ℤ◌, ◌-ℤ◌}
use lib.ListN.{get_or}
use mir.Syntax.{w64}
use mir.Val.{SFits, to_z, of_z}
use Rattle.integers.proofs.Linear.{sized}
use Rattle.running.specs.Running.{sizes_most}
use Rattle.running.specs.Helpers.{amount_at, amount_most}
use Rattle.running.proofs.Amounts.{read}
use Rattle.running.proofs.Near.{amount-most}
use Rattle.running.proofs.meters.numbers_fit_after.Goals as goal

-- what an amount adds to a word, as the call told it
module _ (word : ℕ) (amount : ℤ) (h : nat_abs amount ≤ amount_most) (k : ℕ) {r : ℤ} (e : r ≡ amount_at word (to_z w64 (of_z w64 amount)) k) where
  told : r ≡ amount_at word amount k
  told = rw (read amount h) at e

  told-most : nat_abs r ≤ amount_most
  told-most = rw told (omega (arith, amount-most word amount k, h))

-- a number, and what is added to it
module _ (x a b : ℤ) (h : nat_abs x ≤ sizes_most + 0 * amount_most) (p : nat_abs a ≤ amount_most) (q : nat_abs b ≤ amount_most) where
  sum_fits : SFits w64 (to_z w64 (of_z w64 x) +ℤ to_z w64 (of_z w64 (to_z w64 (of_z w64 a) -ℤ to_z w64 (of_z w64 b))))
  sum_fits = omega (sized, h, p, q)

  sum-reads : to_z w64 (of_z w64 (to_z w64 (of_z w64 x) +ℤ to_z w64 (of_z w64 (to_z w64 (of_z w64 a) -ℤ to_z w64 (of_z w64 b))))) ≡ x +ℤ (a -ℤ b)
  sum-reads = omega (sized, h, p, q)

pub overflow_sub-at_from : goal.overflow_sub-at_from
overflow_sub-at_from c = omega (sized, told-most c.args.to c.args.more c.requires.more c.args.from c.amount_at.ensures, c.requires.less)

pub overflow_sub-at_to : goal.overflow_sub-at_to
overflow_sub-at_to c = omega (sized, told-most c.args.from c.args.less c.requires.less c.args.to c.amount_at-2.ensures, c.requires.more)

pub overflow_add-cells : goal.overflow_add-cells
overflow_add-cells c =
    let x = get_or c.args.cells.now c.args.from (pos 0) in
    sum_fits x c.amount_at.result c.args.less (c.requires.near.word-most c.args.from c.requires.from)
    (told-most c.args.to c.args.more c.requires.more c.args.from c.amount_at.ensures) c.requires.less

pub overflow_add-cells-2 : goal.overflow_add-cells-2
overflow_add-cells-2 c =
    let x = get_or c.args.cells.now c.args.to (pos 0) in
    sum_fits x c.args.more c.amount_at-2.result (c.requires.near.word-most c.args.to c.requires.to)
    c.requires.more (told-most c.args.from c.args.less c.requires.less c.args.to c.amount_at-2.ensures)

pub returns : goal.returns
returns c =
    let near = c.requires.near in
    let more = c.amount_at.ensures in
    let less = c.amount_at-2.ensures in
    rw (
      c.is_number.ensures,
      c.is_number-2.ensures,
      sum-reads (get_or c.args.cells.now c.args.from (pos 0)) c.amount_at.result c.args.less (near.word-most c.args.from c.requires.from)
          (told-most c.args.to c.args.more c.requires.more c.args.from more) c.requires.less,
      sum-reads (get_or c.args.cells.now c.args.to (pos 0)) c.args.more c.amount_at-2.result (near.word-most c.args.to c.requires.to)
          c.requires.more (told-most c.args.from c.args.less c.requires.less c.args.to less),
      told c.args.to c.args.more c.requires.more c.args.from more,
      told c.args.from c.args.less c.requires.less c.args.to less,
    )
