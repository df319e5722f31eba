-- The ranks of fractions: how many come before a unit's. That order is strict and total, so exactly k units have a rank below k.
use Prim.Native.Nat.{ℕ, zero, suc, ◌≤◌, ◌<◌}
use mathlib.Core.Path.{◌≡◌, refl}
use mathlib.Core.Bool.{Bool, true, false, ◌&&◌, and-eq-true_iff}
use mathlib.Core.Logic.{⊎_elim}
use mathlib.Core.List.{List, [], ◌∷◌}
use native.Mathlib.Omega.{arith}
use lib.Dec.{ltb, eqb}
use lib.ListN.{length, get_or}
use borrow.Author.Tests.{ltb-true, ltb-false, eqb-true, lt-ltb, le-ltb, eq-eqb}
use Rattle.words.proofs.Tests.{either, same_test}
use Rattle.correction.specs.Volumes.{comes_before, count_before}
use Rattle.correction.proofs.CountWhere.{At, here, later, from_first, bit, bit-true, bit-false, bit-one, bit_le, count_where, where-same}

-- unit j, of fraction g, comes before unit i, of fraction f
pub data Before (i f j g : ℕ) : Type 0 where
  larger : f < g → Before i f j g
  lower : f ≡ g → j < i → Before i f j g

-- the test says so
pub order-of-test : {i f j g : ℕ} → comes_before i f j g ≡ true → Before i f j g
order-of-test {i} {f} {j} {g} e =
    ⊎_elim
    (λ (h : ltb f g ≡ true). larger (ltb-true f g h))
    (λ (h : eqb f g && ltb j i ≡ true). let k = simp and-eq-true_iff at h in lower (eqb-true f g k.0) (ltb-true j i k.1))
    (either (ltb f g) (eqb f g && ltb j i) e)

pub test-of-order : {i f j g : ℕ} → Before i f j g → comes_before i f j g ≡ true
test-of-order {i} {f} {j} {g} (larger h) = rw (lt-ltb f g h)
test-of-order {i} {f} {j} {g} (lower e h) = rw (le-ltb f g (omega arith), eq-eqb f g e, lt-ltb j i h)

-- it is a strict order, and a total one
pub order-chain : {i f j g m h : ℕ} → Before i f j g → Before j g m h → Before i f m h
order-chain (larger p) (larger q) = larger (omega arith)
order-chain (larger p) (lower q r) = larger (omega arith)
order-chain (lower e p) (larger q) = larger (omega arith)
order-chain (lower e p) (lower q r) = lower (omega arith) (omega arith)

pub order-strict : {i f : ℕ} → Before i f i f → ⊥
order-strict (larger p) = omega arith
order-strict (lower e p) = omega arith

-- one of two, or the other, or they are one and the same
pub data Compared (i f j g : ℕ) : Type 0 where
  first : Before j g i f → Compared i f j g
  same : i ≡ j → f ≡ g → Compared i f j g
  second : Before i f j g → Compared i f j g

pub order-total : (i f j g : ℕ) → Compared i f j g
order-total i f j g = by (ltb f g) (ltb g f) (ltb i j) (ltb j i) refl refl refl refl
  where
    by : (a b c d : Bool) → ltb f g ≡ a → ltb g f ≡ b → ltb i j ≡ c → ltb j i ≡ d → Compared i f j g
    by true b c d e h p q = second (larger (ltb-true f g e))
    by false true c d e h p q = first (larger (ltb-true g f h))
    by false false true d e h p q = first (lower (omega (arith, ltb-false)) (ltb-true i j p))
    by false false false true e h p q = second (lower (omega (arith, ltb-false)) (ltb-true j i q))
    by false false false false e h p q = same (omega (arith, ltb-false)) (omega (arith, ltb-false))

-- no unit comes before itself
itself : (i f : ℕ) → bit (comes_before i f i f) ≡ 0
itself i f = bit-false (comes_before i f i f) (λ t. order-strict (order-of-test {i = i} {f = f} {j = i} {g = f} t))

-- the rank as a count by a test
pub count-is-where : (i f j : ℕ) (fs : List ℕ) → count_before i f j fs ≡ count_where (comes_before i f) j fs
unfolding count_where count_before
count-is-where i f j [] = refl
count-is-where i f j (g ∷ fs) = rw (count-is-where i f (suc j) fs)

-- what comes before a unit comes before each that is after it
pub count-mono : {i f j g : ℕ} → Before i f j g → (m : ℕ) (fs : List ℕ) → count_before j g m fs ≤ count_before i f m fs
unfolding count_before
count-mono b m [] = omega arith
count-mono {i} {f} {j} {g} b m (h ∷ fs) =
    omega (arith, bit_le (comes_before j g m h) (comes_before i f m h) (λ t. test-of-order (order-chain b (order-of-test t))), count-mono b (suc m) fs)

-- and the unit itself
pub count-below : {i f j g m : ℕ} {fs : List ℕ} → Before i f j g → At j g m fs → count_before j g m fs < count_before i f m fs
unfolding count_before
count-below {i} {f} {j} {g} b (here {fs = fs}) =
    omega (arith, itself j g, bit-true (comes_before i f j g) (test-of-order b), count-mono b (suc j) fs)
count-below {i} {f} {j} {g} b (later {j = m} {g = h} a) =
    omega (arith, bit_le (comes_before j g m h) (comes_before i f m h) (λ t. test-of-order (order-chain b (order-of-test t))), count-below b a)

-- at most all come before a unit
count_most : (i f j : ℕ) (fs : List ℕ) → count_before i f j fs ≤ length fs
unfolding count_before
count_most i f j [] = omega arith
count_most i f j (g ∷ fs) = omega (arith, bit-one (comes_before i f j g), count_most i f (suc j) fs)

-- how many come before unit i
abbrev pub rank_of : List ℕ → ℕ → ℕ
rank_of fs i = count_before i (get_or fs i 0) 0 fs

-- fewer than k come before a unit
abbrev pub rank_below : ℕ → ℕ → List ℕ → ℕ → ℕ → Bool
rank_below k j fs i f = ltb (count_before i f j fs) k

-- two tests that tell the same
same-order : (a b c d : ℕ) → (a < b → c < d) → (c < d → a < b) → ltb a b ≡ ltb c d
same-order a b c d to fro =
    same_test (ltb a b) (ltb c d) (λ t. lt-ltb c d (to (ltb-true a b t))) (λ t. lt-ltb a b (fro (ltb-true c d t)))

-- a unit put at the front: its rank, and the ranks of the others, one more if it comes before them
module _ (j g : ℕ) (fs : List ℕ) where
  front-rank : count_before j g j (g ∷ fs) ≡ count_before j g (suc j) fs
  unfolding count_before
  front-rank = omega (arith, itself j g)

  data Moved (i f : ℕ) : Type 0 where
    after-it : count_before i f j (g ∷ fs) ≡ suc (count_before i f (suc j) fs) → count_before j g (suc j) fs ≤ count_before i f (suc j) fs → Moved i f
    before-it : count_before i f j (g ∷ fs) ≡ count_before i f (suc j) fs → count_before i f (suc j) fs < count_before j g (suc j) fs → Moved i f

  moved : {i f : ℕ} → At i f (suc j) fs → Moved i f
  unfolding count_before
  moved {i} {f} a = by (order-total i f j g)
    where
      by : Compared i f j g → Moved i f
      by (first b) = before-it (omega (arith, bit-false (comes_before i f j g) (λ t. order-strict (order-chain b (order-of-test t))))) (count-below b a)
      by (same p q) = absurd (omega (arith, from_first a))
      by (second b) = after-it (omega (arith, bit-true (comes_before i f j g) (test-of-order b))) (count-mono b (suc j) fs)

  -- whether a unit's rank is below k does not change if k is not above the new unit's rank, and if it is, goes by one less than k
  same-below : (k : ℕ) → k ≤ count_before j g (suc j) fs → (i f : ℕ) → At i f (suc j) fs → rank_below k j (g ∷ fs) i f ≡ rank_below k (suc j) fs i f
  same-below k h i f a = by (moved a)
    where
      by : Moved i f → rank_below k j (g ∷ fs) i f ≡ rank_below k (suc j) fs i f
      by (after-it e p) = same-order _ k _ k (λ q. omega arith) (λ q. omega arith)
      by (before-it e p) = same-order _ k _ k (λ q. omega arith) (λ q. omega arith)

  one_less : (k : ℕ) → count_before j g (suc j) fs ≤ k → (i f : ℕ) → At i f (suc j) fs → rank_below (suc k) j (g ∷ fs) i f ≡ rank_below k (suc j) fs i f
  one_less k h i f a = by (moved a)
    where
      by : Moved i f → rank_below (suc k) j (g ∷ fs) i f ≡ rank_below k (suc j) fs i f
      by (after-it e p) = same-order _ (suc k) _ k (λ q. omega arith) (λ q. omega arith)
      by (before-it e p) = same-order _ (suc k) _ k (λ q. omega arith) (λ q. omega arith)

  -- so that the count of ranks below k is k with the new unit, if it is for each number without
  step : ((n : ℕ) → n ≤ length fs → count_where (rank_below n (suc j) fs) (suc j) fs ≡ n)
      → (t : Bool) (k : ℕ) → ltb (count_before j g (suc j) fs) k ≡ t → k ≤ suc (length fs) → count_where (rank_below k j (g ∷ fs)) j (g ∷ fs) ≡ k
  unfolding count_where
  step rest true zero e h = absurd (omega (arith, ltb-true))
  step rest true (suc k) e h =
      omega (
        arith,
        bit-true (rank_below (suc k) j (g ∷ fs) j g) (lt-ltb _ (suc k) (omega (arith, ltb-true, front-rank))),
        where-same (rank_below (suc k) j (g ∷ fs)) (rank_below k (suc j) fs) (suc j) fs (one_less k (omega (arith, ltb-true))),
        rest k (omega arith),
      )
  step rest false k e h =
      omega (
        arith,
        bit-false (rank_below k j (g ∷ fs) j g) (λ t. omega (arith, ltb-true, ltb-false, front-rank)),
        where-same (rank_below k j (g ∷ fs)) (rank_below k (suc j) fs) (suc j) fs (same-below k (omega (arith, ltb-false))),
        rest k (omega (arith, ltb-false, count_most j g (suc j) fs)),
      )

-- exactly k units have fewer than k before them
pub ranks-exactly : (k j : ℕ) (fs : List ℕ) → k ≤ length fs → count_where (rank_below k j fs) j fs ≡ k
unfolding count_where
ranks-exactly k j [] h = omega arith
ranks-exactly k j (g ∷ fs) h = step j g fs (λ n. ranks-exactly n (suc j) fs) (ltb (count_before j g (suc j) fs) k) k refl h
