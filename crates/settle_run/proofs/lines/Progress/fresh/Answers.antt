use Rattle.settle_run.proofs.lines.Progress.fresh.Goals as goal

pub returns : goal.returns
returns c = rw (c.fresh.ensures, c.new.ensures, c.new-2.ensures)
