-- What `strip_prefix` tests: whether a line starts with a key, and whether a number starts with a minus.
use Prim.Native.Nat.{ℕ}
use mathlib.Core.Path.{◌≡◌, refl, ap}
use mathlib.Core.Bool.{Bool, true, false, ◌&&◌, cond}
use mathlib.Core.List.{List, [], ◌∷◌}
use lib.Dec.{eqb}
use lib.IntN.{ℤ, pos}
use lib.ListN.{length, take, drop}
use Rattle.std.proofs.Common.{Option}
use Rattle.std.specs.Cmp.Lexicographic.{pointwise}
use Rattle.std.specs.Option.{option_map, option_and_then}
use Rattle.period_file.specs.Fields.{starts_with}
use Rattle.period_file.specs.Numbers.{minus_byte, number_of, less_than_zero, signed_of}

pub prefix_test : (key line : List ℕ) → starts_with key line ≡ pointwise eqb (take (length key) line) key
unfolding starts_with
prefix_test [] line = refl
prefix_test (k ∷ key) [] = refl
prefix_test (k ∷ key) (byte ∷ line) = ap (λ t. eqb byte k && t) (prefix_test key line)

pub signed_by_test : (text : List ℕ) → signed_of text
    ≡ cond (pointwise eqb (take 1 text) (minus_byte ∷ [])) (option_and_then less_than_zero (number_of (drop 1 text))) (option_map pos (number_of text))
unfolding signed_of number_of
signed_by_test [] = refl
signed_by_test (byte ∷ text) = step (eqb byte minus_byte) _ _
  where
    step : (t : Bool) (a b : Option ℤ) → cond t a b ≡ cond (t && true) a b
    step true a b = refl
    step false a b = refl
