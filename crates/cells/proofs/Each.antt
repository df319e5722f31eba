-- What holds of each entry of a list.
use Prim.Native.Nat.{ℕ, zero, suc, ◌<◌}
use mathlib.Core.List.{List, [], ◌∷◌, ◌++◌, map}
use native.Mathlib.Omega.{arith}
use lib.ListN.{length, get_or, take}

pub data Each {A : Type 0} (P : A → Type 0) : List A → Type 0 where
  no-entry : Each P []
  entry : {x : A} {xs : List A} → P x → Each P xs → Each P (x ∷ xs)

module _ {A : Type 0} {P : A → Type 0} where
  pub each_at : {xs : List A} → Each P xs → (i : ℕ) (d : A) → i < length xs → P (get_or xs i d)
  each_at no-entry i d h = absurd (omega arith)
  each_at (entry p e) zero d h = p
  each_at (entry p e) (suc i) d h = each_at e i d (omega arith)

  pub each_take : {xs : List A} → Each P xs → (n : ℕ) → Each P (take n xs)
  each_take no-entry zero = no-entry
  each_take no-entry (suc n) = no-entry
  each_take (entry p e) zero = no-entry
  each_take (entry p e) (suc n) = entry p (each_take e n)

  pub each_append : {xs ys : List A} → Each P xs → Each P ys → Each P (xs ++ ys)
  each_append no-entry q = q
  each_append (entry p e) q = entry p (each_append e q)

  pub each-mapped : {B : Type 0} (f : B → A) → ((x : B) → P (f x)) → (xs : List B) → Each P (map f xs)
  each-mapped f h [] = no-entry
  each-mapped f h (x ∷ xs) = entry (h x) (each-mapped f h xs)
