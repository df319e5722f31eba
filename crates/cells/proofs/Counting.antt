-- A list worked out at each of the numbers 0, 1, .. below n: its length, its entries, and that no other list has them.
use Prim.Native.Nat.{ℕ, zero, suc, ◌+◌, ◌<◌}
use mathlib.Core.Path.{◌≡◌, refl, sym, ap, ◌∙◌}
use mathlib.Core.List.{List, map}
use native.Mathlib.Omega.{arith}
use lib.ListN.{length, get_or, length-map}
use lib.Seq.{ext_get_or}
use Rattle.cells.specs.Cells.{count_from}

count-length : (k n : ℕ) → length (count_from k n) ≡ n
unfolding count_from
count-length k zero = refl
count-length k (suc n) = ap suc (count-length (suc k) n)

module _ {A : Type 0} (f : ℕ → A) where
  pub counted-length : (n : ℕ) → length (map f (count_from 0 n)) ≡ n
  counted-length n = length-map (count_from 0 n) f ∙ count-length 0 n

  counted-from : (k n i : ℕ) (d : A) → i < n → get_or (map f (count_from k n)) i d ≡ f (k + i)
  unfolding count_from
  counted-from k zero i d h = absurd (omega arith)
  counted-from k (suc n) zero d h = let e : k ≡ k + 0 = omega arith in ap f e
  counted-from k (suc n) (suc i) d h = let e : suc k + i ≡ k + suc i = omega arith in counted-from (suc k) n i d (omega arith) ∙ ap f e

  pub counted-at : (n i : ℕ) (d : A) → i < n → get_or (map f (count_from 0 n)) i d ≡ f i
  counted-at n i d h = let e : 0 + i ≡ i = omega arith in counted-from 0 n i d h ∙ ap f e

  pub counted-list : (n : ℕ) (xs : List A) (d : A) → length xs ≡ n → ((i : ℕ) → i < n → get_or xs i d ≡ f i) → xs ≡ map f (count_from 0 n)
  counted-list n xs d long same =
      ext_get_or d xs (map f (count_from 0 n)) (long ∙ sym (counted-length n))
      (λ i h. let l : i < n = omega arith in same i l ∙ sym (counted-at n i d l))

-- worked out alike at each of the numbers
pub counted_same : {A : Type 0} (f g : ℕ → A) (n : ℕ) (d : A) → ((i : ℕ) → i < n → f i ≡ g i) → map f (count_from 0 n) ≡ map g (count_from 0 n)
counted_same f g n d same = counted-list g n (map f (count_from 0 n)) d (counted-length f n) (λ i h. counted-at f n i d h ∙ same i h)
