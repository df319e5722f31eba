-- A list that a loop fills from the front, with what a function gives for each entry of another list, or for each place.
use Prim.Native.Nat.{ℕ, ◌+◌, ◌≤◌, ◌<◌}
use mathlib.Core.Path.{◌≡◌, refl, ◌∙◌}
use mathlib.Core.List.{List, map, map-append}
use native.Mathlib.Omega.{arith}
use native.Mathlib.Numerals.{add-one}
use borrow.Author.Count.{below_more}
use lib.ListN.{length, get_or, set, take, length-set}
use lib.Seq.{take-suc, take-suc-set, take_all, get_or-set_same, get_or-set_other}
use Rattle.cells.specs.Cells.{count_from}
use Rattle.cells.proofs.Counting.{counted-list}

-- the first i of ys are filled
pub record Filled {A B : Type 0} (f : A → B) (xs : List A) (ys : List B) (i : ℕ) : Type 0 where
  pub long : length ys ≡ length xs
  pub done : take i ys ≡ map f (take i xs)

-- none is filled at first, and one more after each turn
module _ {A B : Type 0} (f : A → B) (xs : List A) (ys : List B) where
  pub filled_none : length ys ≡ length xs → Filled f xs ys 0
  filled_none e = record { long = e; done = refl }

  pub filled_next : (i : ℕ) (x : A) → Filled f xs ys i → i < length xs → Filled f xs (set ys i (f (get_or xs i x))) (i + 1)
  filled_next i x p h =
      record {
        long = length-set ys i _ ∙ p.long;
        done = rw (add-one, take-suc-set ys i _ (omega (arith, p.long)), take-suc xs i x h, map-append, p.done);
      }

-- all of them are
pub filled-all : {A B : Type 0} {f : A → B} {xs : List A} {ys : List B} {i : ℕ} → Filled f xs ys i → length xs ≤ i → ys ≡ map f xs
filled-all {xs = xs} {ys = ys} {i = i} p h = rw (take_all i ys (omega (arith, p.long)), take_all i xs h) at p.done

-- the first i of n entries are filled with what a function gives for their places
pub record FilledBelow {B : Type 0} (f : ℕ → B) (d : B) (n : ℕ) (ys : List B) (i : ℕ) : Type 0 where
  pub as-many : length ys ≡ n
  pub each-done : (k : ℕ) → k < i → get_or ys k d ≡ f k

module _ {B : Type 0} {f : ℕ → B} {d : B} {n : ℕ} {ys : List B} {i : ℕ} (p : FilledBelow f d n ys i) where
  pub filled-below-next : {y : B} → y ≡ f i → i < n → FilledBelow f d n (set ys i y) (i + 1)
  filled-below-next {y} e h =
      record {
        as-many = length-set ys i y ∙ p.as-many;
        each-done =
            below_more (λ (k : ℕ). get_or (set ys i y) k d ≡ f k) i
            (λ k l. get_or-set_other ys i k y d (λ same. omega arith) ∙ p.each-done k l)
            (get_or-set_same ys i y d (omega (arith, p.as-many)) ∙ e);
      }

  pub filled-below-all : n ≤ i → ys ≡ map f (count_from 0 n)
  filled-below-all h = counted-list f n ys d p.as-many (λ k l. p.each-done k (omega arith))
