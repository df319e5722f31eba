-- "Causes": the numbers of the table, and how one is chosen.
use Rattle.std.specs.Prelude.{ℕ, Bool, true, false}

abbrev pub book_ill_formed : ℕ
book_ill_formed = 1

abbrev pub argument_out_of_range : ℕ
argument_out_of_range = 2

abbrev pub quality_refused : ℕ
quality_refused = 3

abbrev pub meter_unknown : ℕ
meter_unknown = 4

abbrev pub issue_not_above : ℕ
issue_not_above = 5

abbrev pub capacity_reached : ℕ
capacity_reached = 6

abbrev pub volumes_short : ℕ
volumes_short = 7

abbrev pub take_unset : ℕ
take_unset = 8

abbrev pub shape_of_default_missing : ℕ
shape_of_default_missing = 9

abbrev pub weighted_below_one : ℕ
weighted_below_one = 10

abbrev pub tolerance_exceeded : ℕ
tolerance_exceeded = 11

-- document 02, request 1: "12, after 2, for a totals slice shorter than 4,096"
abbrev pub totals_short : ℕ
totals_short = 12

-- document 02, request 4: "Refusal 13, before 1, is a cell slice shorter than 836 words"
abbrev pub cells_short : ℕ
cells_short = 13

-- a calls slice that is no whole number of calls, or a numbers slice that is too short
abbrev pub list_misshapen : ℕ
list_misshapen = 19

-- "Acceptance is 0"
abbrev pub accepted : ℕ
accepted = 0

-- "The lowest number that applies is given", where causes stand in the order of their numbers: this cause if it applies, else what comes after it
abbrev pub refuse : Bool → ℕ → ℕ → ℕ
refuse true cause rest = cause
refuse false cause rest = rest
