-- Lists that hold the same entries in another order.
use Prim.Native.Nat.{suc}
use mathlib.Core.Path.{◌≡◌, refl, ◌∙◌, ap}
use mathlib.Core.List.{List, [], ◌∷◌, ◌++◌, map}
use lib.ListN.{length}
use Rattle.cells.proofs.Each.{Each, entry}

-- the second list is the first in another order
pub data Permuted (A : Type 0) : List A → List A → Type 0 where
  none : Permuted A [] []
  keep : {x : A} {xs ys : List A} → Permuted A xs ys → Permuted A (x ∷ xs) (x ∷ ys)
  exchange : {x y : A} {xs : List A} → Permuted A (x ∷ y ∷ xs) (y ∷ x ∷ xs)
  chain : {xs ys zs : List A} → Permuted A xs ys → Permuted A ys zs → Permuted A xs zs

module _ {A : Type 0} where
  pub as-it-is : (xs : List A) → Permuted A xs xs
  as-it-is [] = none
  as-it-is (x ∷ xs) = keep (as-it-is xs)

  pub back : {xs ys : List A} → Permuted A xs ys → Permuted A ys xs
  back none = none
  back (keep p) = keep (back p)
  back exchange = exchange
  back (chain p q) = chain (back q) (back p)

  -- an entry at the end instead of at the front
  pub to_the_end : (x : A) (xs : List A) → Permuted A (x ∷ xs) (xs ++ (x ∷ []))
  to_the_end x [] = as-it-is (x ∷ [])
  to_the_end x (y ∷ xs) = chain exchange (keep (to_the_end x xs))

  pub mapped : {B : Type 0} (f : A → B) {xs ys : List A} → Permuted A xs ys → Permuted B (map f xs) (map f ys)
  mapped f none = none
  mapped f (keep p) = keep (mapped f p)
  mapped f exchange = exchange
  mapped f (chain p q) = chain (mapped f p) (mapped f q)

  -- what is the same of both
  pub length-permuted : {xs ys : List A} → Permuted A xs ys → length xs ≡ length ys
  length-permuted none = refl
  length-permuted (keep p) = ap suc (length-permuted p)
  length-permuted exchange = refl
  length-permuted (chain p q) = length-permuted p ∙ length-permuted q

  pub each-permuted : {P : A → Type 0} {xs ys : List A} → Permuted A xs ys → Each P xs → Each P ys
  each-permuted none e = e
  each-permuted (keep p) (entry h e) = entry h (each-permuted p e)
  each-permuted exchange (entry h (entry k e)) = entry k (entry h e)
  each-permuted (chain p q) e = each-permuted q (each-permuted p e)
