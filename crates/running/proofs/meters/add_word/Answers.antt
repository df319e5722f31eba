-- `add_word` meets its contract: no word is so large that an amount takes it out of an i64.
use mathlib.Core.Path.{◌≡◌}
use lib.IntN.{ℤ, pos, nat_abs, ◌+ℤ◌}
use lib.ListN.{get_or}
use Prim.Native.Nat.{◌≤◌}
use mir.Syntax.{w64}
use mir.Val.{to_z, of_z}
use Rattle.integers.proofs.Linear.{sized}
use Rattle.running.specs.Helpers.{amount_most}
use Rattle.running.proofs.Changed.{changed-one}
use Rattle.running.proofs.meters.add_word.Goals as goal

added : (x y : ℤ) → nat_abs x ≤ 1310790000000000 → nat_abs y ≤ amount_most → to_z w64 (of_z w64 (to_z w64 (of_z w64 x) +ℤ to_z w64 (of_z w64 y))) ≡ x +ℤ y
added x y h k = omega (sized, h, k)

pub returns : goal.returns
returns c =
    let near = c.requires.near in
    rw (
      added (get_or c.args.cells.now c.args.at (pos 0)) c.args.amount (near.word-most c.args.at c.requires.place) c.requires.amount,
      changed-one c.args.amount c.args.cells.now c.args.at c.requires.place near.long,
    )
