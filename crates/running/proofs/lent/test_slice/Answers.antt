-- `test_slice` meets its contract: a slice that is long enough is measured. Assumes nothing.
use Rattle.running.proofs.TestedFirst.{slice-measured}
use Rattle.running.proofs.lent.test_slice.Goals as goal

pub returns : goal.returns
returns c = slice-measured _ c.if-cells-lt-SLICE_WORDS.false c.measure.ensures c.ok_or.ensures.value
