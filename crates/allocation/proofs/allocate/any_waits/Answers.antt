-- `any_waits` meets its contract: a turn takes the next shape and the next number. Assumes nothing.
use Prim.Native.Nat.{◌-◌}
use mathlib.Core.Path.{sym, refl, ◌∙◌}
use mathlib.Core.Logic.{⊎_elim}
use lib.ListN.{length, drop, length-drop}
use lib.Seq.{take_all}
use Rattle.std.proofs.Common.{arith}
use Rattle.std.proofs.lemmas.Grind.{common_steps}
use Rattle.running.specs.Words.{waiting_words}
use Rattle.allocation.specs.Running.{any_waits}
use Rattle.allocation.proofs.Waiting.{no-shape-left, no-number-left}
use Rattle.allocation.proofs.allocate.any_waits.Goals as goal

pub loop-shape-init : goal.loop-shape-init
loop-shape-init c =
    let numbers = drop waiting_words c.args.cells.now in
    rw (
      c.into_iter-shape-iterator.ensures.into_iter_gives,
      c.zip-shape-items.ensures.first,
      c.iter.ensures.rest,
      c.zip-shape-items.ensures.second.0,
      take_all (length c.args.cells.now - waiting_words) numbers (omega (arith, length-drop waiting_words c.args.cells.now)),
    )
    refl

pub returns-then-from-waiting : goal.returns-then-from-waiting
unfolding any_waits
returns-then-from-waiting c = grind (arith, common_steps)

pub loop-shape-preserved : goal.loop-shape-preserved
unfolding any_waits
loop-shape-preserved c = grind (arith, common_steps)

pub returns : goal.returns
returns c =
    sym
    (c.loop-shape.invariant
    ∙ ⊎_elim (λ a. no-shape-left c.loop-shape.shape-iterator.a.rest.now _ a.1.0) (λ b. no-number-left _ c.loop-shape.shape-iterator.b.rest.now b.1.0) c.in-None.ensures.steps)
