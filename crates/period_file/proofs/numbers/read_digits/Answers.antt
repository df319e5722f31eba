use mathlib.Core.Path.{sym, ◌∙◌}
use Rattle.period_file.proofs.Digits.{one_read}
use Rattle.period_file.proofs.numbers.read_digits.Goals as goal

pub loop-byte-preserved : goal.loop-byte-preserved
loop-byte-preserved c =
    rw c.from.ensures (one_read _ _ _ c.loop-byte-test.true c.loop-byte.invariant (sym c.is_ascii_digit.ensures.value ∙ c.if-not-is_ascii_digit.false))
