-- The volumes printed one by one: those before one place, and the next.
use Rattle.std.proofs.Common.{◌≡◌, ℕ, zero, suc, ◌+◌, ◌<◌, ℤ, pos, List, [], ◌∷◌, ◌++◌, length, get_or, take, append_assoc, append-nil, add-one, arith}
use Rattle.report.specs.Lines.{volume_line, volume_lines}

from_unit : (unit i : ℕ) (volumes : List ℤ) → i < length volumes
    → volume_lines unit (take (suc i) volumes) ≡ volume_lines unit (take i volumes) ++ volume_line (unit + i) (get_or volumes i (pos 0))
unfolding volume_lines
from_unit unit i [] h = absurd (omega arith)
from_unit unit zero (wh ∷ volumes) h = let e : unit + 0 ≡ unit = omega arith in rw (e, append-nil)
from_unit unit (suc i) (wh ∷ volumes) h =
    let e : unit + suc i ≡ suc unit + i = omega arith in
    rw (from_unit (suc unit) i volumes (omega arith), append_assoc, e)

pub one_more : (i : ℕ) (volumes : List ℤ) → i < length volumes
    → volume_lines 0 (take (i + 1) volumes) ≡ volume_lines 0 (take i volumes) ++ volume_line i (get_or volumes i (pos 0))
one_more i volumes h = let e : 0 + i ≡ i = omega arith in rw (add-one, from_unit 0 i volumes h, e)

pub ruleset next_volume = (one_more, append_assoc)
