-- Units counted by a test of their number and their fraction.
use Prim.Native.Nat.{ℕ, suc, ◌+◌, ◌≤◌}
use mathlib.Core.Path.{◌≡◌, refl}
use mathlib.Core.Bool.{Bool, true, false, cond}
use mathlib.Core.List.{List, [], ◌∷◌}
use native.Mathlib.Omega.{arith}

-- unit i, of fraction f, stands in a list of fractions that begins at unit j
pub data At (i f : ℕ) : ℕ → List ℕ → Type 0 where
  here : {fs : List ℕ} → At i f i (f ∷ fs)
  later : {j g : ℕ} {fs : List ℕ} → At i f (suc j) fs → At i f j (g ∷ fs)

pub from_first : {i f j : ℕ} {fs : List ℕ} → At i f j fs → j ≤ i
from_first here = omega arith
from_first (later a) = omega (arith, from_first a)

-- a test that passes counts 1
abbrev pub bit : Bool → ℕ
bit t = cond t 1 0

pub bit-true : (t : Bool) → t ≡ true → bit t ≡ 1
bit-true t e = rw e

pub bit-false : (t : Bool) → (t ≡ true → ⊥) → bit t ≡ 0
bit-false true h = absurd (h refl)
bit-false false h = refl

pub bit-one : (t : Bool) → bit t ≤ 1
bit-one true = omega arith
bit-one false = omega arith

pub bit_le : (s t : Bool) → (s ≡ true → t ≡ true) → bit s ≤ bit t
bit_le true t h = rw (h refl) (omega arith)
bit_le false t h = omega arith

-- how many units of a list that begins at unit i pass a test of the unit and its fraction
unfoldable pub count_where : (ℕ → ℕ → Bool) → ℕ → List ℕ → ℕ
count_where test i [] = 0
count_where test i (f ∷ fs) = bit (test i f) + count_where test (suc i) fs

module _ (p q : ℕ → ℕ → Bool) where
  pub where-le : (j : ℕ) (fs : List ℕ) → ((i f : ℕ) → At i f j fs → p i f ≡ true → q i f ≡ true) → count_where p j fs ≤ count_where q j fs
  unfolding count_where
  where-le j [] h = omega arith
  where-le j (f ∷ fs) h = omega (arith, bit_le (p j f) (q j f) (h j f here), where-le (suc j) fs (λ i g a. h i g (later a)))

  pub where-same : (j : ℕ) (fs : List ℕ) → ((i f : ℕ) → At i f j fs → p i f ≡ q i f) → count_where p j fs ≡ count_where q j fs
  unfolding count_where
  where-same j [] h = refl
  where-same j (f ∷ fs) h = rw (h j f here, where-same (suc j) fs (λ i g a. h i g (later a)))
