-- `words::is_reading` meets its contract: a word that passes the first test is well formed, and for the others the tests are those of the definition, of the fields taken out. Assumes nothing.
use mathlib.Core.Path.{sym}
use native.Mathlib.Omega.{arith}
use Rattle.words.proofs.ReadingWord.{common-reading}
use Rattle.words.proofs.is_reading.Goals as goal

pub returns-then-code-wh : goal.returns-then-code-wh
returns-then-code-wh c =
    let start = c.before.before.before in
    sym (common-reading start.args.w (omega (arith, start.well_formed)) (rw (c.of-code.ensures, c.of-wh.ensures) at c.if-code-wh.true))
