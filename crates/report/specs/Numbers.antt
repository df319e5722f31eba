-- "Numbers are in base ten": numbers as texts. A text is a list of bytes.
use Rattle.std.specs.Prelude.{ℕ, zero, suc, ◌+◌, ◌/◌, ◌%◌, cond, List, [], ◌∷◌, ◌++◌, ltb, ℤ, pos, negsuc}

-- the bytes 0 and -
abbrev pub zero_byte : ℕ
zero_byte = 48

abbrev pub minus_byte : ℕ
minus_byte = 45

abbrev pub digit_byte : ℕ → ℕ
digit_byte digit = zero_byte + digit

-- the digits of n, without leading zeros, where at most `more` of them stand before the last
unfoldable pub digits_within : ℕ → ℕ → List ℕ
digits_within zero n = digit_byte (n % 10) ∷ []
digits_within (suc more) n = cond (ltb n 10) (digit_byte n ∷ []) (digits_within more (n / 10) ++ (digit_byte (n % 10) ∷ []))

-- the digits of a number of 64 bits, which are at most 20
unfoldable pub decimal : ℕ → List ℕ
decimal n = digits_within 19 n

-- a number that may be below 0: a minus, and the digits of its size
unfoldable pub signed_decimal : ℤ → List ℕ
signed_decimal (pos n) = decimal n
signed_decimal (negsuc n) = minus_byte ∷ decimal (suc n)
