-- Word 2: the reading that a meter holds, and the quality codes.
use Rattle.std.specs.Prelude.{ℕ, ◌+◌, ◌*◌, ◌^◌, Bool, not, ◌&&◌, ◌||◌, leb, eqb}
use Rattle.words.specs.declared.Reading.{Reading}
use Rattle.words.specs.Limits.{consumption_most, quality_most, issue_least, issue_most}
use Rattle.words.specs.Registration.{bit_field}

-- "Word 2: consumption in bits 0–23"
abbrev pub consumption_of : ℕ → ℕ
consumption_of w = bit_field w 0 24

-- "quality in bits 24–28"
abbrev pub quality_of : ℕ → ℕ
quality_of w = bit_field w 24 5

-- "issue number in bits 32–63"
abbrev pub issue_of : ℕ → ℕ
issue_of w = bit_field w 32 32

-- the fields of a word, together
unfoldable pub reading_of : ℕ → Reading
reading_of w = record { issue = issue_of w; quality = quality_of w; consumption = consumption_of w }

-- the word that has these fields, "bits 29–31 zero"
unfoldable pub reading_word : Reading → ℕ
reading_word r = r.consumption + r.quality * 2 ^ 24 + r.issue * 2 ^ 32

-- "0–6 are A, A1, A2, A3, AAE1, AAE2, AAE3; 7 + n is En", and document 02, request 2: "E2 and E6 join the actuals": the actual codes
unfoldable pub is_actual : ℕ → Bool
is_actual q = leb q 6 || eqb q 9 || eqb q 13

-- "17–20 are ZE, ZE1, ZE2, ZE3"
abbrev pub is_ze : ℕ → Bool
is_ze q = leb 17 q && leb q 20

-- "E7 (code 14) isn't used here. ZE codes carry 0 Wh only": free of cause 3
unfoldable pub quality_allowed : Reading → Bool
quality_allowed r = not (eqb r.quality 14) && (not (is_ze r.quality) || eqb r.consumption 0)

-- each field in its range, as "Word 2" and "The calls" have it
unfoldable pub reading_in_range : Reading → Bool
reading_in_range r =
    leb issue_least r.issue
    && leb r.issue issue_most
    && leb r.quality quality_most
    && leb r.consumption consumption_most

-- "The whole word is 0 if the meter has no reading"
abbrev pub no_reading : ℕ
no_reading = 0

-- "each used word [..] is one that accepted calls could have written": the well-formed word 2
unfoldable pub is_reading : ℕ → Bool
is_reading w =
    eqb w no_reading
    || (eqb (bit_field w 29 3) 0 && reading_in_range (reading_of w) && quality_allowed (reading_of w))
