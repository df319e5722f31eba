-- Thousandths of a Wh rounded to whole Wh.
use Rattle.std.specs.Prelude.{ℕ, suc, ◌+◌, ◌/◌, ℤ, pos, negsuc, neg_ℤ, ◌-ℤ◌, ◌*ℤ◌}
use Rattle.integers.specs.declared.Rounded.{Rounded}

-- the nearest whole number to n thousandths, a half upward
abbrev pub nearest : ℕ → ℕ
nearest n = (n + 500) / 1000

-- "to the nearest Wh, halves away from zero": by size, under the sign
unfoldable pub nearest_wh : ℤ → ℤ
nearest_wh (pos n) = pos (nearest n)
nearest_wh (negsuc n) = neg_ℤ (pos (nearest (suc n)))

-- document 02, request 3: "how many thousandths of a Wh it dropped, signed": the thousandths there were, less those in the Wh they are rounded to
unfoldable pub dropped_thousandths : ℤ → ℤ
dropped_thousandths thousandths = thousandths -ℤ pos 1000 *ℤ nearest_wh thousandths

-- the two together
abbrev pub rounded_of : ℤ → Rounded
rounded_of thousandths = record { wh = nearest_wh thousandths; dropped = dropped_thousandths thousandths }
