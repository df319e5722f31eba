-- `cepnhoy_set_take` gives the outcome of its call: the Take that `set` is handed is the one given, its bits read back as the same number. Assumes nothing.
use mathlib.Core.Path.{subst}
use lib.IntN.{ℤ}
use mir.Syntax.{w64}
use mir.ValLaws.{to_z-of_z}
use Rattle.book.specs.declared.Setting.TheVariants.{GroupTake}
use Rattle.book.specs.Helpers.{answer_of}
use Rattle.running.specs.Running.{running_of}
use Rattle.calls.specs.declared.Call.TheVariants.{Set}
use Rattle.calls.specs.Running.{running_call, RunningGives}
use Rattle.settlement.proofs.exports.cepnhoy_set_take.Goals as goal

pub returns : goal.returns
returns c =
    let a = c.args in
    rw c.of.ensures
    (subst (λ (wh : ℤ). RunningGives (running_call (running_of a.settings a.rows.now a.cells.now) (Set (GroupTake wh))) (answer_of a.settings c.set.result) a.rows.now a.cells.now)
    (to_z-of_z w64 a.wh c.ranges.wh) c.set.ensures)
