-- The volumes of the units: rounded-down shares with one Wh more for the units of the lowest ranks.
use Prim.Native.Nat.{ℕ, zero, suc, ◌+◌, ◌≤◌, ◌<◌}
use mathlib.Core.Path.{◌≡◌, refl, ap, ◌∙◌}
use mathlib.Core.Bool.{Bool, true, false, cond}
use mathlib.Core.List.{List, [], ◌∷◌}
use native.Mathlib.Omega.{arith}
use lib.ListN.{length, get_or}
use lib.IntN.{ℤ, pos, ◌+ℤ◌, +ℤ_idr}
use borrow.Author.Tests.{lt-ltb, le-ltb}
use Rattle.integers.specs.Sum.{sum}
use Rattle.integers.proofs.Linear.{linear, plus}
use Rattle.correction.specs.Volumes.{extra_wh, rounded_volumes}
use Rattle.correction.proofs.CountWhere.{bit, count_where}
use Rattle.correction.proofs.Ranked.{rank_of, rank_below}

-- the extra Wh of a unit is what its rank test counts
extra-bit : (t : Bool) → cond t (pos 1) (pos 0) ≡ pos (bit t)
extra-bit true = refl
extra-bit false = refl

module _ (k : ℕ) (all : List ℕ) where
  pub rounded-length : (i : ℕ) (floors : List ℤ) (fs : List ℕ) → length floors ≡ length fs → length (rounded_volumes k all i floors fs) ≡ length floors
  unfolding rounded_volumes
  rounded-length i [] fs e = refl
  rounded-length i (v ∷ floors) [] e = absurd (omega arith)
  rounded-length i (v ∷ floors) (f ∷ fs) e = ap suc (rounded-length (suc i) floors fs (omega arith))

  -- the volume of each unit
  rounded-at : (i : ℕ) (floors : List ℤ) (fs : List ℕ) (m : ℕ) → length floors ≡ length fs → m < length fs
      → get_or (rounded_volumes k all i floors fs) m (pos 0) ≡ get_or floors m (pos 0) +ℤ extra_wh k all (i + m) (get_or fs m 0)
  unfolding rounded_volumes
  rounded-at i [] fs m e h = absurd (omega arith)
  rounded-at i (v ∷ floors) [] m e h = absurd (omega arith)
  rounded-at i (v ∷ floors) (f ∷ fs) zero e h = let q : i + 0 ≡ i = omega arith in rw q
  rounded-at i (v ∷ floors) (f ∷ fs) (suc m) e h =
      let q : i + suc m ≡ suc i + m = omega arith in
      rw q (rounded-at (suc i) floors fs m (omega arith) (omega arith))

  -- added up: one Wh for each unit of a rank below k
  pub rounded-sum : (i : ℕ) (floors : List ℤ) (fs : List ℕ) → length floors ≡ length fs
      → sum (rounded_volumes k all i floors fs) ≡ sum floors +ℤ pos (count_where (rank_below k 0 all) i fs)
  unfolding sum rounded_volumes count_where extra_wh
  rounded-sum i [] [] e = refl
  rounded-sum i [] (f ∷ fs) e = absurd (omega arith)
  rounded-sum i (v ∷ floors) [] e = absurd (omega arith)
  rounded-sum i (v ∷ floors) (f ∷ fs) e =
      let x = cond (rank_below k 0 all i f) (pos 1) (pos 0) in
      let c = count_where (rank_below k 0 all) (suc i) fs in
      let r = rounded_volumes k all (suc i) floors fs in
      omega (
        linear,
        rounded-sum (suc i) floors fs (omega arith),
        extra-bit (rank_below k 0 all i f),
        plus v x,
        plus (v +ℤ x) (sum r),
        plus v (sum floors),
        plus (sum floors) (pos c),
        plus (v +ℤ sum floors) (pos (bit (rank_below k 0 all i f) + c)),
      )

-- the volumes of the units of fractions fs
module _ (floors : List ℤ) (fs : List ℕ) (e : length floors ≡ length fs) where
  volume-at : (k i : ℕ) → i < length fs → get_or (rounded_volumes k fs 0 floors fs) i (pos 0) ≡ get_or floors i (pos 0) +ℤ extra_wh k fs i (get_or fs i 0)
  volume-at k i h = let q : 0 + i ≡ i = omega arith in rw q at (rounded-at k fs 0 floors fs i e h)

  -- a unit that fewer than k come before has one Wh more, and every other its share rounded down
  pub volume-served : (k i : ℕ) → i < length fs → rank_of fs i < k → get_or (rounded_volumes k fs 0 floors fs) i (pos 0) ≡ get_or floors i (pos 0) +ℤ pos 1
  unfolding extra_wh
  volume-served k i h r = rw (lt-ltb (rank_of fs i) k r) at (volume-at k i h)

  pub volume-unserved : (k i : ℕ) → i < length fs → k ≤ rank_of fs i → get_or (rounded_volumes k fs 0 floors fs) i (pos 0) ≡ get_or floors i (pos 0)
  unfolding extra_wh
  volume-unserved k i h r = rw (le-ltb (rank_of fs i) k r) at (volume-at k i h) ∙ +ℤ_idr (get_or floors i (pos 0))
