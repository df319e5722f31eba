-- Document 01's example: what it prints for case 1 is the text of the definitions; and a number below 0 has a minus.
use mathlib.Core.Path.{◌≡◌, refl}
use mathlib.Core.List.{[], ◌∷◌}
use lib.IntN.{negsuc}
use Rattle.report.specs.Numbers.{digits_within, decimal, signed_decimal}
use Rattle.report.specs.Lines.{value_line, signed_line, count_lines, figure_lines, volume_line, volume_lines, allocation_text}
use Rattle.report.specs.Example.{joined, case_one, case_one_volumes, case_one_text}

pub case-one-prints : allocation_text case_one case_one_volumes ≡ joined case_one_text
unfolding digits_within decimal signed_decimal value_line signed_line count_lines figure_lines volume_line volume_lines allocation_text joined
case-one-prints = refl

-- -392, of case 4
pub below-zero-prints : signed_decimal (negsuc 391) ≡ 45 ∷ 51 ∷ 57 ∷ 50 ∷ []
unfolding digits_within decimal signed_decimal
below-zero-prints = refl
