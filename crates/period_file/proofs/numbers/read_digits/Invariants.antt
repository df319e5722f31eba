-- `read_digits` reads a text of at most 18 bytes digit by digit: the bytes from the index on decide, and the value so far is below 10^index.
use Rattle.period_file.proofs.Digits.{Left}
use Rattle.period_file.proofs.numbers.read_digits.Given as goal

abbrev pub invariant-loop-byte : goal.invariant-loop-byte
invariant-loop-byte l = Left l.text l.value l.byte-index
