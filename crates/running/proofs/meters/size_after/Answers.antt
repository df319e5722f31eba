-- `size_after` meets its contract: the entries change the same two cells, or two each.
use Rattle.running.proofs.Amounts.{read, difference-read}
use Rattle.running.proofs.SizeAfter.{same-arguments, same-sizes, taken-arguments, apart-arguments, apart-sizes}
use Rattle.running.proofs.meters.size_after.Goals as goal

-- in the same two cells
pub size_with-requires : goal.size_with-requires
size_with-requires c =
    let r = c.requires in
    let old = c.args.old in
    let new = c.args.new in
    same-arguments c.args.cells.now old new r.old r.new r.near r.size r.within c.if-old-new.true
    (difference-read new.thousandths r.new.thousandths-bound old.thousandths r.old.thousandths-bound)
    (difference-read new.loss r.new.loss-bound old.loss r.old.loss-bound)

pub returns-then-old-new : goal.returns-then-old-new
returns-then-old-new c =
    let r = c.requires in
    let old = c.args.old in
    let new = c.args.new in
    same-sizes c.args.cells.now old new r.old r.new r.near r.size r.within c.if-old-new.true
    (difference-read new.thousandths r.new.thousandths-bound old.thousandths r.old.thousandths-bound)
    (difference-read new.loss r.new.loss-bound old.loss r.old.loss-bound)
    c.size_with.ensures

-- in two each
pub size_with-without-requires : goal.size_with-without-requires
size_with-without-requires c =
    let r = c.requires in
    let t = c.opposite-taken in
    taken-arguments c.args.cells.now c.args.old c.args.new r.old r.new r.near r.size r.within t.ensures.is
    (read t.result.thousandths t.ensures.formed.thousandths-bound) (read t.result.loss t.ensures.formed.loss-bound)

pub size_with-requires-2 : goal.size_with-requires-2
size_with-requires-2 c =
    let r = c.requires in
    let t = c.opposite-taken in
    apart-arguments c.args.cells.now c.args.old c.args.new r.old r.new r.near r.size r.within t.ensures.is
    (read t.result.thousandths t.ensures.formed.thousandths-bound) (read t.result.loss t.ensures.formed.loss-bound)
    c.if-old-new.false c.size_with-without.result c.size_with-without.ensures
    (read c.args.new.thousandths r.new.thousandths-bound) (read c.args.new.loss r.new.loss-bound)

pub returns : goal.returns
returns c =
    let r = c.requires in
    let t = c.opposite-taken in
    apart-sizes c.args.cells.now c.args.old c.args.new r.old r.new r.near r.size r.within t.ensures.is
    (read t.result.thousandths t.ensures.formed.thousandths-bound) (read t.result.loss t.ensures.formed.loss-bound)
    c.if-old-new.false c.size_with-without.result c.size_with-without.ensures
    (read c.args.new.thousandths r.new.thousandths-bound) (read c.args.new.loss r.new.loss-bound)
    c.size_with-2.ensures
