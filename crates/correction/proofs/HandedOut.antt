-- Handing out the Wh lacking, one unit after the other: those left are as many as the units still to be served, so that with none left nobody is owed one.
use Prim.Native.Nat.{ℕ, suc, ◌+◌, ◌-◌, ◌≤◌, ◌<◌}
use mathlib.Core.Path.{◌≡◌, refl, sym, ap, ◌∙◌}
use mathlib.Core.Bool.{Bool, true, false, cond}
use mathlib.Core.List.{List, [], ◌∷◌, ◌++◌, append-nil}
use native.Mathlib.Omega.{arith}
use native.Mathlib.Numerals.{add-one}
use lib.IntN.{ℤ, pos, ◌+ℤ◌, +ℤ_idr}
use lib.ListN.{length, take, drop, get_or, set, length-set, length-drop, take-append-drop, drop_of_length-le}
use lib.Seq.{drop-cons, take-suc-set, drop-set-lt, append_snoc, set-get_or, get_or-drop, drop-drop, take_all}
use borrow.Author.Tests.{lt-ltb, le-ltb}
use Rattle.correction.specs.Volumes.{comes_before, count_before, extra_wh, rounded_volumes}
use Rattle.correction.proofs.CountWhere.{bit, count_where}
use Rattle.correction.proofs.Ranked.{rank_below, ranks-exactly}

-- the first i of the volumes are final, the others are still floors, and `left` Wh are left
pub record HandedOut (lack : ℕ) (fractions : List ℕ) (floors volumes : List ℤ) (left i : ℕ) : Type 0 where
  pub long : length volumes ≡ length fractions
  pub rest : drop i volumes ≡ drop i floors
  pub left_is : left ≡ count_where (rank_below lack 0 fractions) i (drop i fractions)
  pub volumes-are : rounded_volumes lack fractions 0 floors fractions ≡ take i volumes ++ rounded_volumes lack fractions i (drop i volumes) (drop i fractions)

-- no unit that is still to be served gets one
none-served : (lack : ℕ) (fractions : List ℕ) (i : ℕ) (floors : List ℤ) (fs : List ℕ) → length floors ≡ length fs
    → count_where (rank_below lack 0 fractions) i fs ≡ 0 → rounded_volumes lack fractions i floors fs ≡ floors
unfolding rounded_volumes count_where extra_wh
none-served lack fractions i [] fs e z = refl
none-served lack fractions i (v ∷ floors) [] e z = absurd (omega arith)
none-served lack fractions i (v ∷ floors) (f ∷ fs) e z = by (rank_below lack 0 fractions i f) (none-served lack fractions (suc i) floors fs (omega arith)) z
  where
    by : (t : Bool) → (count_where (rank_below lack 0 fractions) (suc i) fs ≡ 0 → rounded_volumes lack fractions (suc i) floors fs ≡ floors)
        → bit t + count_where (rank_below lack 0 fractions) (suc i) fs ≡ 0
        → (v +ℤ cond t (pos 1) (pos 0)) ∷ rounded_volumes lack fractions (suc i) floors fs ≡ v ∷ floors
    by true others s = absurd (omega arith)
    by false others s = rw (+ℤ_idr v, others (omega arith))

module _ (lack : ℕ) (fractions : List ℕ) (floors : List ℤ) where
  pub hand-none : {n : ℕ} → length floors ≡ n → length fractions ≡ n → lack ≤ n → HandedOut lack fractions floors floors lack 0
  hand-none e f h = record { long = e ∙ sym f; rest = refl; left_is = sym (ranks-exactly lack 0 fractions (omega arith)); volumes-are = refl }

module _ {lack : ℕ} {fractions : List ℕ} {floors volumes : List ℤ} {left i : ℕ} (p : HandedOut lack fractions floors volumes left i) where
  -- all units are passed, or no Wh is left
  pub hand-all : {n : ℕ} → length fractions ≡ n → n ≤ i → volumes ≡ rounded_volumes lack fractions 0 floors fractions
  unfolding rounded_volumes
  hand-all f h =
      let k : length volumes ≤ i = omega (arith, p.long) in
      rw (p.volumes-are, drop_of_length-le volumes k, take_all i volumes k, append-nil)

  pub hand-last : left ≡ 0 → volumes ≡ rounded_volumes lack fractions 0 floors fractions
  hand-last z =
      let k : length (drop i volumes) ≡ length (drop i fractions) = simp length-drop (ap (λ n. n - i) p.long) in
      rw (p.volumes-are, none-served lack fractions i (drop i volumes) (drop i fractions) k (sym p.left_is ∙ z), take-append-drop)

  -- the next unit
  module _ (h : i < length fractions) where
    abbrev test : Bool
    test = rank_below lack 0 fractions i (get_or fractions i 0)

    pub entry-is : get_or volumes i (pos 0) ≡ get_or floors i (pos 0)
    entry-is =
        let e : i + 0 ≡ i = omega arith in
        rw (get_or-drop, get_or-drop, e) at (ap (λ vs. get_or vs 0 (pos 0)) p.rest)

    count_next : left ≡ bit test + count_where (rank_below lack 0 fractions) (suc i) (drop (suc i) fractions)
    unfolding count_where
    count_next = p.left_is ∙ rw (drop-cons fractions i 0)

    next : (t : Bool) → test ≡ t → HandedOut lack fractions floors (set volumes i (get_or volumes i (pos 0) +ℤ cond t (pos 1) (pos 0))) (left - bit t) (i + 1)
    unfolding rounded_volumes extra_wh
    next t e =
        let k : i < length volumes = omega (arith, p.long) in
        let v = get_or volumes i (pos 0) +ℤ cond t (pos 1) (pos 0) in
        record {
          long = length-set volumes i v ∙ p.long;
          rest = drop-set-lt (i + 1) volumes i v (omega arith) ∙ rw (drop-drop, drop-drop) at (ap (drop 1) p.rest);
          left_is = rw add-one (omega (arith, count_next, ap bit e));
          volumes-are =
              p.volumes-are
              ∙ rw (add-one, take-suc-set volumes i v k, drop-set-lt (suc i) volumes i v (omega arith), append_snoc, drop-cons volumes i (pos 0) k, drop-cons fractions i 0 h, e);
        }

    module _ (r : count_before i (get_or fractions i 0) 0 fractions < lack) where
      served : test ≡ true
      served = lt-ltb _ lack r

      pub some_left : 0 < left
      some_left = omega (arith, count_next, ap bit served)

      pub hand-one : HandedOut lack fractions floors (set volumes i (get_or volumes i (pos 0) +ℤ pos 1)) (left - 1) (i + 1)
      hand-one = next true served

    pub hand-no : lack ≤ count_before i (get_or fractions i 0) 0 fractions → HandedOut lack fractions floors volumes left (i + 1)
    hand-no r =
        let e : left - 0 ≡ left = omega arith in
        rw (+ℤ_idr, set-get_or, e) at (next false (le-ltb _ lack r))

-- how many come before unit i: n of the units before unit j, and those of the others that do
pub record CountedTo (fractions : List ℕ) (i n j : ℕ) : Type 0 where
  pub counted : count_before i (get_or fractions i 0) 0 fractions ≡ n + count_before i (get_or fractions i 0) j (drop j fractions)

module _ {fractions : List ℕ} {i n j : ℕ} (k : CountedTo fractions i n j) where
  module _ (h : j < length fractions) where
    next-count : count_before i (get_or fractions i 0) j (drop j fractions)
        ≡ bit (comes_before i (get_or fractions i 0) j (get_or fractions j 0)) + count_before i (get_or fractions i 0) (suc j) (drop (suc j) fractions)
    unfolding count_before
    next-count = rw (drop-cons fractions j 0 h)

    pub count-one : comes_before i (get_or fractions i 0) j (get_or fractions j 0) ≡ true → CountedTo fractions i (n + 1) (j + 1)
    count-one e = record { counted = rw (add-one j) (omega (arith, k.counted, next-count, ap bit e)) }

    pub count_no : comes_before i (get_or fractions i 0) j (get_or fractions j 0) ≡ false → CountedTo fractions i n (j + 1)
    count_no e = record { counted = rw (add-one j) (omega (arith, k.counted, next-count, ap bit e)) }

  pub count-all : length fractions ≤ j → count_before i (get_or fractions i 0) 0 fractions ≡ n
  unfolding count_before
  count-all h = k.counted ∙ rw (drop_of_length-le fractions h) (omega arith)

-- a unit that fewer than `lack` come before finds a Wh left
pub one_left : {lack : ℕ} {fractions : List ℕ} {floors volumes : List ℤ} {left i n j m : ℕ} → HandedOut lack fractions floors volumes left i → CountedTo fractions i n j
    → length fractions ≡ m → i < m → m ≤ j → n < lack → 1 ≤ left
one_left p k f h past r = some_left p (omega arith) (rw (count-all k (omega arith)) r)

pub ruleset handing = (hand-none, hand-all, hand-last, one_left)
