-- The digits that the library prints of a number of 64 bits are those of the definition.
use Rattle.std.proofs.Common.{◌≡◌, ℕ, zero, suc, ◌/◌, ◌%◌, ◌^◌, ◌<◌, ℤ, pos, negsuc, [], ◌∷◌, ◌++◌, cond, ltb, sym, ap, ◌∙◌, arith, append_assoc, lt-ltb, le-ltb, w64, FitsSigned}
use native.Mathlib.Nat.{pow-succ', mod-eq_of_lt}
use Rattle.std.specs.Fmt as fmt
use Rattle.std.proofs.lemmas.Fmt.{AppendsLastDigit, decimal_from_appends, length-decimal-le}
use Rattle.report.specs.Numbers.{digit_byte, digits_within, decimal, signed_decimal}

-- a bound that is larger gives the same digits
wider : (more n : ℕ) → n < 10 ^ suc more → digits_within more n ≡ digits_within (suc more) n
unfolding digits_within
wider zero n h = rw (lt-ltb n 10 h) (ap (λ d. digit_byte d ∷ []) (mod-eq_of_lt h))
wider (suc more) n h =
    ap (λ digits. cond (ltb n 10) (digit_byte n ∷ []) (digits ++ (digit_byte (n % 10) ∷ []))) (wider more (n / 10) (omega (arith, pow-succ' 10 (suc more))))

by_last_digit : AppendsLastDigit digits_within
unfolding digits_within
by_last_digit = record { one = λ more n h. rw (lt-ltb n 10 h); more = λ more n h. rw (le-ltb n 10 h) }

pub decimal-printed : (n : ℕ) → n < 2 ^ 64 → fmt.decimal n ≡ decimal n
unfolding decimal
decimal-printed n h =
    sym (wider 19 n (omega arith) ∙ decimal_from_appends digits_within by_last_digit 20 n h (length-decimal-le 20 n (omega arith) (omega arith) h))

pub signed-printed : (z : ℤ) → FitsSigned w64 z → fmt.signed_decimal z ≡ signed_decimal z
unfolding signed_decimal
signed-printed (pos n) h = decimal-printed n (omega (arith, h.sfits))
signed-printed (negsuc n) h = ap (λ digits. 45 ∷ digits) (decimal-printed (suc n) (omega (arith, h.sfits)))

pub ruleset printed = (decimal-printed, signed-printed, append_assoc)
