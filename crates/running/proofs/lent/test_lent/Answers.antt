-- `test_lent` meets its contract: a slice that is long enough is measured, once its book is known to be well formed. Assumes nothing.
use mathlib.Core.Path.{sym, ◌∙◌}
use Rattle.running.proofs.TestedFirst.{slice-measured, lent-measured}
use Rattle.running.proofs.lent.test_lent.Goals as goal

pub returns : goal.returns
returns c =
    lent-measured _ (sym c.is_formed.ensures ∙ c.if-not-is_formed.false)
    (slice-measured _ c.if-cells-lt-SLICE_WORDS.false c.measure.ensures c.ok_or.ensures.value)
