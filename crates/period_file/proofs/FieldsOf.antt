-- A text cut at its commas: its parts are its fields.
use Prim.Native.Nat.{ℕ, zero, suc, ◌<◌}
use mathlib.Core.Path.{◌≡◌, refl, sym, ap}
use mathlib.Core.Bool.{Bool, true, false, cond}
use mathlib.Core.List.{List, [], ◌∷◌}
use native.Mathlib.Omega.{arith}
use lib.Dec.{eqb}
use lib.ListN.{length}
use denote.Ref.{Bor}
use Rattle.std.proofs.Common.{Option, None, Some}
use Rattle.std.specs.Option.{option_map, unwrap_or}
use Rattle.std.specs.List.{slice_get, slice_split, onto_first}
use Rattle.period_file.specs.Fields.{comma_byte, field_count, before_comma, after_comma, field}

abbrev pub is_comma : ℕ → Bool
is_comma byte = eqb byte comma_byte

-- a text has a field
a_field : (text : List ℕ) → 0 < field_count text
unfolding field_count
a_field [] = omega arith
a_field (byte ∷ text) = step (is_comma byte) (field_count text) (a_field text)
  where
    step : (t : Bool) (n : ℕ) → 0 < n → 0 < cond t (suc n) n
    step true n h = omega arith
    step false n h = h

pub parts-counted : (text : List ℕ) → length (slice_split is_comma text) ≡ field_count text
unfolding field_count
parts-counted [] = refl
parts-counted (byte ∷ text) = step (is_comma byte) (slice_split is_comma text) (parts-counted text)
  where
    step : (t : Bool) (parts : List (List ℕ)) → length parts ≡ field_count text
        → length (cond t ([] ∷ parts) (onto_first byte parts)) ≡ cond t (suc (field_count text)) (field_count text)
    step true parts h = ap suc h
    step false [] h = absurd (omega (arith, a_field text))
    step false (part ∷ parts) h = h

-- the part at n, which is empty past the last
abbrev pub part_at : List (List ℕ) → ℕ → List ℕ
part_at parts n = unwrap_or (slice_get parts n) []

no-field : (n : ℕ) → field n [] ≡ []
unfolding field before_comma after_comma
no-field zero = refl
no-field (suc n) = no-field n

pub part-is-field : (text : List ℕ) (n : ℕ) → part_at (slice_split is_comma text) n ≡ field n text
unfolding field before_comma after_comma
part-is-field [] zero = refl
part-is-field [] (suc n) = sym (no-field n)
part-is-field (byte ∷ text) zero = first (is_comma byte) (slice_split is_comma text) (part-is-field text zero)
  where
    first : (t : Bool) (parts : List (List ℕ)) → part_at parts 0 ≡ before_comma text
        → part_at (cond t ([] ∷ parts) (onto_first byte parts)) 0 ≡ cond t [] (byte ∷ before_comma text)
    first true parts h = refl
    first false [] h = ap (λ (l : List ℕ). byte ∷ l) h
    first false (part ∷ parts) h = ap (λ (l : List ℕ). byte ∷ l) h
part-is-field (byte ∷ text) (suc n) = later (is_comma byte) (slice_split is_comma text) (part-is-field text n) (part-is-field text (suc n))
  where
    later : (t : Bool) (parts : List (List ℕ)) → part_at parts n ≡ field n text → part_at parts (suc n) ≡ field n (after_comma text)
        → part_at (cond t ([] ∷ parts) (onto_first byte parts)) (suc n) ≡ field n (cond t text (after_comma text))
    later true parts h k = h
    later false [] h k = k
    later false (part ∷ parts) h k = k

-- the part that was found, or else an empty one
pub part-or-empty : (r : Option (Bor (List ℕ))) (none : Bor (List ℕ)) → none.now ≡ []
    → (unwrap_or r none).now ≡ unwrap_or (option_map (λ (x : Bor (List ℕ)). x.now) r) []
part-or-empty None none h = h
part-or-empty (Some x) none h = refl
