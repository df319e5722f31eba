-- "Numbers have 1 to 18 digits and no leading zeros; only take may have a minus, never before 0". A text is a list of bytes.
use Rattle.std.specs.Prelude.{ℕ, ◌+◌, ◌*◌, ◌-◌, Bool, not, ◌&&◌, cond, List, [], ◌∷◌, Option, None, Some, leb, ltb, eqb, ℤ, pos, neg_ℤ, length, get_or}
use Rattle.std.specs.Char.{is_ascii_digit}
use Rattle.std.specs.List.{list_all}
use Rattle.std.specs.Option.{option_map, option_and_then}

-- the bytes 0 and -
abbrev pub zero_byte : ℕ
zero_byte = 48

abbrev pub minus_byte : ℕ
minus_byte = 45

-- "Numbers are in base ten": the number that digits make after the digits of v
unfoldable pub value_after : ℕ → List ℕ → ℕ
value_after v [] = v
value_after v (byte ∷ text) = value_after (10 * v + (byte - zero_byte)) text

-- "1 to 18 digits": the bytes of a number
abbrev pub digits_most : ℕ
digits_most = 18

abbrev pub is_long_enough : List ℕ → Bool
is_long_enough text = leb 1 (length text) && leb (length text) digits_most

-- "no leading zeros": 0 itself is one byte
abbrev pub has_leading_zero : List ℕ → Bool
has_leading_zero text = ltb 1 (length text) && eqb (get_or text 0 0) zero_byte

-- the number that digits make, and none for a text with another byte
unfoldable pub digits_of : List ℕ → Option ℕ
digits_of text = cond (list_all is_ascii_digit text) (Some (value_after 0 text)) None

-- "Numbers have 1 to 18 digits and no leading zeros": the value of a text that is a number, and none for any other text
unfoldable pub number_of : List ℕ → Option ℕ
number_of text = cond (is_long_enough text && not (has_leading_zero text)) (digits_of text) None

-- "a minus, never before 0"
abbrev pub less_than_zero : ℕ → Option ℤ
less_than_zero n = cond (eqb n 0) None (Some (neg_ℤ (pos n)))

-- a number, or a minus and a number
unfoldable pub signed_of : List ℕ → Option ℤ
signed_of [] = None
signed_of (byte ∷ text) = cond (eqb byte minus_byte) (option_and_then less_than_zero (number_of text)) (option_map pos (number_of (byte ∷ text)))
