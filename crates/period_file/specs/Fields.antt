-- "key=value lines", "Fields, by commas".
use Rattle.std.specs.Prelude.{ℕ, zero, suc, Bool, true, false, ◌&&◌, cond, List, [], ◌∷◌, Option, None, Some, eqb, length, get_or}
use Rattle.std.specs.Option.{option_map, option_and_then}
use Rattle.period_file.specs.Numbers.{minus_byte, number_of}

abbrev pub comma_byte : ℕ
comma_byte = 44

-- whether a line starts with a key and its "="
unfoldable pub starts_with : List ℕ → List ℕ → Bool
starts_with [] line = true
starts_with (k ∷ key) [] = false
starts_with (k ∷ key) (byte ∷ line) = eqb byte k && starts_with key line

-- "by commas": how many fields there are, what stands before the first comma, and what stands after it (nothing if there is none)
unfoldable pub field_count : List ℕ → ℕ
field_count [] = 1
field_count (byte ∷ text) = cond (eqb byte comma_byte) (suc (field_count text)) (field_count text)

unfoldable pub before_comma : List ℕ → List ℕ
before_comma [] = []
before_comma (byte ∷ text) = cond (eqb byte comma_byte) [] (byte ∷ before_comma text)

unfoldable pub after_comma : List ℕ → List ℕ
after_comma [] = []
after_comma (byte ∷ text) = cond (eqb byte comma_byte) text (after_comma text)

-- the field after n commas
unfoldable pub field : ℕ → List ℕ → List ℕ
field zero text = before_comma text
field (suc n) text = field n (after_comma text)

-- the number in a field
unfoldable pub number_at : ℕ → List ℕ → Option ℕ
number_at n text = number_of (field n text)

-- what is in form if a test holds, and what is made of a part, if that is in form
abbrev pub in_form : {A : Type 0} → Bool → Option A → Option A
in_form ok made = cond ok made None

abbrev pub given : {A B : Type 0} → Option A → (A → Option B) → Option B
given part make = option_and_then make part

-- the numbers of a text of two fields
unfoldable pub two_numbers : List ℕ → Option (ℕ × ℕ)
two_numbers text =
    in_form (eqb (field_count text) 2)
    (given (number_at 0 text) (λ first.
    given (number_at 1 text) (λ second.
    Some (first, second))))

-- "additional or -": with a minus alone there is no additional unit
abbrev pub is_minus : List ℕ → Bool
is_minus text = eqb (length text) 1 && eqb (get_or text 0 0) minus_byte

unfoldable pub additional_of : List ℕ → Option (Option ℕ)
additional_of text = cond (is_minus text) (Some None) (option_map Some (number_of text))

unfoldable pub additional_at : ℕ → List ℕ → Option (Option ℕ)
additional_at n text = additional_of (field n text)
