-- `Field::put` meets its contract: nothing of x is shifted out, and w lies below the bits that x takes.
use native.Mathlib.Nat.{add_comm, mod-eq_of_lt}
use lib.Bits.{or_shifted_r}
use Rattle.words.proofs.field.Field.put.Goals as goal

pub returns : goal.returns
returns c =
    rw (mod-eq_of_lt c.requires.room, or_shifted_r _ c.args.self.at _ c.requires.below) (add_comm _ _)
