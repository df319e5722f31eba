-- A list of settings tested entry by entry: each entry of one that passes does.
use Prim.Native.Nat.{ℕ, zero, suc}
use mathlib.Core.Path.{◌≡◌, refl}
use mathlib.Core.Bool.{Bool, true, and-eq-true_iff, or-false}
use mathlib.Core.List.{List, [], ◌∷◌}
use lib.Dec.{eqb-suc-zero}
use lib.ListN.{get_or, set}
use mir.ValLaws.{to_z-of_z}
use lib.Seq.{take_all}
use Rattle.book.specs.Limits.{weight_most}
use Rattle.std.specs.List.{list_all}
use Rattle.std.proofs.lemmas.List.Folds.{list_all_more}
use Rattle.book.specs.Settings.{is_weight}
use Rattle.book.specs.Helpers.{within}

-- any entry of numbers that all pass, and what stands for one past the end
pub entry-passes : (test : ℕ → Bool) (xs : List ℕ) (i d : ℕ) → list_all test xs ≡ true → test d ≡ true → test (get_or xs i d) ≡ true
entry-passes test [] i d h t = t
entry-passes test (x ∷ xs) zero d h t = ((and-eq-true_iff (test x) (list_all test xs)).0 h).0
entry-passes test (x ∷ xs) (suc i) d h t = entry-passes test xs i d ((and-eq-true_iff (test x) (list_all test xs)).0 h).1 t

-- numbers that all pass, with one of them replaced by one that passes
pub all_set : (test : ℕ → Bool) (xs : List ℕ) (i v : ℕ) → list_all test xs ≡ true → test v ≡ true → list_all test (set xs i v) ≡ true
all_set test [] i v h t = refl
all_set test (x ∷ xs) zero v h t = rw (t, ((and-eq-true_iff (test x) (list_all test xs)).0 h).1)
all_set test (x ∷ xs) (suc i) v h t =
    let k = (and-eq-true_iff (test x) (list_all test xs)).0 h in
    rw k.0 (all_set test xs i v k.1 t)

-- for the search for a proof: the numbers before an index, one more, and all of them
pub ruleset entries = (list_all_more, take_all)

-- 0 is a weight already, so it lets nothing more in
weight-within : (x : ℕ) → within weight_most 0 x ≡ is_weight x
weight-within zero = refl
weight-within (suc x) = rw (eqb-suc-zero, or-false)

pub weights-within : (xs : List ℕ) → list_all (within weight_most 0) xs ≡ list_all is_weight xs
weights-within [] = refl
weights-within (x ∷ xs) = rw (weight-within x, weights-within xs)

pub ruleset weights = (weights-within, to_z-of_z)
