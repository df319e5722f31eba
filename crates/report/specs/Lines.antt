-- The lines that the program prints.
use Rattle.std.specs.Prelude.{ℕ, suc, cond, List, [], ◌∷◌, ◌++◌, eqb, ℤ, nat_abs}
use Rattle.refusals.specs.Causes.{accepted}
use Rattle.allocation.specs.declared.Allocated.{Allocated}
use Rattle.report.specs.Numbers.{decimal, signed_decimal}

-- a comma, and the end of a line
abbrev pub comma : List ℕ
comma = 44 ∷ []

abbrev pub line_feed : List ℕ
line_feed = 10 ∷ []

-- the bytes of refused=, line=, status=, actual=, estimated=, defaulted=, idle=, unallocated=, weighted= and volume=
abbrev pub refused_key : List ℕ
refused_key = 114 ∷ 101 ∷ 102 ∷ 117 ∷ 115 ∷ 101 ∷ 100 ∷ 61 ∷ []

abbrev pub bad_line_key : List ℕ
bad_line_key = 108 ∷ 105 ∷ 110 ∷ 101 ∷ 61 ∷ []

abbrev pub status_key : List ℕ
status_key = 115 ∷ 116 ∷ 97 ∷ 116 ∷ 117 ∷ 115 ∷ 61 ∷ []

abbrev pub actual_key : List ℕ
actual_key = 97 ∷ 99 ∷ 116 ∷ 117 ∷ 97 ∷ 108 ∷ 61 ∷ []

abbrev pub estimated_key : List ℕ
estimated_key = 101 ∷ 115 ∷ 116 ∷ 105 ∷ 109 ∷ 97 ∷ 116 ∷ 101 ∷ 100 ∷ 61 ∷ []

abbrev pub defaulted_key : List ℕ
defaulted_key = 100 ∷ 101 ∷ 102 ∷ 97 ∷ 117 ∷ 108 ∷ 116 ∷ 101 ∷ 100 ∷ 61 ∷ []

abbrev pub idle_key : List ℕ
idle_key = 105 ∷ 100 ∷ 108 ∷ 101 ∷ 61 ∷ []

abbrev pub unallocated_key : List ℕ
unallocated_key = 117 ∷ 110 ∷ 97 ∷ 108 ∷ 108 ∷ 111 ∷ 99 ∷ 97 ∷ 116 ∷ 101 ∷ 100 ∷ 61 ∷ []

abbrev pub weighted_key : List ℕ
weighted_key = 119 ∷ 101 ∷ 105 ∷ 103 ∷ 104 ∷ 116 ∷ 101 ∷ 100 ∷ 61 ∷ []

abbrev pub volume_key : List ℕ
volume_key = 118 ∷ 111 ∷ 108 ∷ 117 ∷ 109 ∷ 101 ∷ 61 ∷ []

-- a key with a number, and with one that may be below 0
unfoldable pub value_line : List ℕ → ℕ → List ℕ
value_line key n = key ++ (decimal n ++ line_feed)

unfoldable pub signed_line : List ℕ → ℤ → List ℕ
signed_line key z = key ++ (signed_decimal z ++ line_feed)

-- "A refused call prints refused=line,number"
unfoldable pub refused_line : ℕ → ℕ → List ℕ
refused_line line number = refused_key ++ (decimal line ++ (comma ++ (decimal number ++ line_feed)))

-- "A line out of form prints line=its number"
abbrev pub bad_line : ℕ → List ℕ
bad_line line = value_line bad_line_key line

-- "status=0"
abbrev pub status_line : Allocated → List ℕ
status_line a = value_line status_key a.number

-- "actual=3", "estimated=0", "defaulted=0", "idle=0"
unfoldable pub count_lines : Allocated → List ℕ
count_lines a =
    value_line actual_key a.actual
    ++ (value_line estimated_key a.estimated
    ++ (value_line defaulted_key a.defaulted
    ++ value_line idle_key a.idle))

-- "(unallocated is U, weighted is W)"
unfoldable pub figure_lines : Allocated → List ℕ
figure_lines a =
    count_lines a
    ++ (signed_line unallocated_key a.unallocated
    ++ signed_line weighted_key a.weighted)

-- "a line volume=unit,Wh, in unit order, for each unit not at 0"
unfoldable pub volume_line : ℕ → ℤ → List ℕ
volume_line unit wh =
    cond (eqb (nat_abs wh) 0) []
    (volume_key ++ (decimal unit ++ (comma ++ (signed_decimal wh ++ line_feed))))

-- "in unit order": the volumes of the units from one on
unfoldable pub volume_lines : ℕ → List ℤ → List ℕ
volume_lines unit [] = []
volume_lines unit (wh ∷ volumes) = volume_line unit wh ++ volume_lines (suc unit) volumes

-- "Then it allocates; a refusal prints only its status"
unfoldable pub allocation_text : Allocated → List ℤ → List ℕ
allocation_text a volumes = status_line a ++ cond (eqb a.number accepted) (figure_lines a ++ volume_lines 0 volumes) []
