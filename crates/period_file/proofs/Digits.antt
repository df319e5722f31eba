-- A text read digit by digit: the bytes from i on decide, and the value of the i digits before them is below 10^i.
use Prim.Native.Nat.{ℕ, suc, ◌+◌, ◌*◌, ◌-◌, ◌^◌, ◌≤◌, ◌<◌}
use mathlib.Core.Path.{◌≡◌, refl, sym, ◌∙◌, ap}
use mathlib.Core.Bool.{Bool, true, false, cond}
use mathlib.Core.List.{List}
use native.Mathlib.Numerals.{add-one}
use native.Mathlib.Nat.{pow-succ', pow-le-pow_right}
use native.Mathlib.Omega.{arith}
use Rattle.std.proofs.lemmas.Bool.Decides.{nat_tests}
use lib.ListN.{length, get_or, drop, drop_of_length-le}
use lib.Seq.{drop-cons}
use Rattle.std.proofs.Common.{Option, None, Some}
use Rattle.std.specs.Char.{is_ascii_digit}
use Rattle.std.specs.List.{list_all}
use Rattle.period_file.specs.Numbers.{value_after, digits_of}

digit_range : (b : ℕ) → is_ascii_digit b ≡ true → (48 ≤ b) × (b ≤ 57)
digit_range b h = grind (arith, nat_tests)

-- what the bytes make after digits of value v
unfoldable pub rest : ℕ → List ℕ → Option ℕ
rest v text = cond (list_all is_ascii_digit text) (Some (value_after v text)) None

module _ (text : List ℕ) where
  pub record Left (v i : ℕ) : Type 0 where
    pub decide : digits_of text ≡ rest v (drop i text)
    pub below : v < 10 ^ i

  pub none_read : Left 0 0
  unfolding digits_of rest
  none_read = record { decide = refl; below = omega arith }

  next : (v i : ℕ) → i < length text → (t : Bool) → is_ascii_digit (get_or text i 0) ≡ t
      → rest v (drop i text) ≡ cond t (rest (10 * v + (get_or text i 0 - 48)) (drop (suc i) text)) None
  unfolding rest value_after
  next v i h true e = rw (drop-cons text i 0, e)
  next v i h false e = rw (drop-cons text i 0, e)

  pub one_read : (v i : ℕ) → i < length text → Left v i → is_ascii_digit (get_or text i 0) ≡ true → Left (10 * v + (get_or text i 0 - 48)) (i + 1)
  one_read v i h l t =
      record {
        decide = rw add-one (l.decide ∙ next v i h true t);
        below = rw add-one (rw (pow-succ' 10 i) (omega (arith, l.below, digit_range (get_or text i 0) t)));
      }

  pub no_digit : (v i : ℕ) → i < length text → Left v i → is_ascii_digit (get_or text i 0) ≡ false → None ≡ digits_of text
  no_digit v i h l t = sym (l.decide ∙ next v i h false t)

  pub all_read : (v i : ℕ) → length text ≤ i → Left v i → Some v ≡ digits_of text
  unfolding rest value_after
  all_read v i h l = sym (l.decide ∙ ap (rest v) (drop_of_length-le text h))

  -- the value of at most 18 digits, and of at most 17 before another
  pub in_18 : (v i : ℕ) → i ≤ 18 → Left v i → v < 10 ^ 18
  in_18 v i h l = omega (arith, l.below, pow-le-pow_right {n = 10} (omega arith) h)

  pub in_17 : (v i n : ℕ) → i < n → n ≤ 18 → Left v i → v < 10 ^ 17
  in_17 v i n h k l = let few : i ≤ 17 = omega arith in omega (arith, l.below, pow-le-pow_right {n = 10} (omega arith) few)

-- what the check needs to know of a text read digit by digit
pub ruleset digit_steps = (none_read, no_digit, all_read, in_17, in_18)
