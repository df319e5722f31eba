-- Lists: what is gathered from them, their last entry, whether a number stands in them, and lists mapped.
use Prim.Native.Nat.{ℕ}
use mathlib.Core.Path.{◌≡◌, refl, sym, ◌∙◌, ap, fun_ext}
use mathlib.Core.Bool.{Bool, true, ◌||◌, or_assoc, or_comm, or-true}
use mathlib.Core.List.{List, [], ◌∷◌, ◌++◌, map, map-map, append-nil, append_assoc}
use borrow.Author.Tests.{eqb-true, eq-eqb}
use lib.Dec.{eqb}
use Rattle.words.proofs.Tests.{same_test}
use Rattle.cells.proofs.Each.{Each, no-entry, each_append}
use Rattle.cells.proofs.Permuted.{Permuted, none, keep, exchange, chain}
use Rattle.meaning.specs.Meaning.{gather, last_or, is_any}
use Rattle.meaning.specs.Moves.{is_in}

module _ {A B : Type 0} (f : B → List A) where
  pub gather_append : (xs ys : List B) → gather f (xs ++ ys) ≡ gather f xs ++ gather f ys
  unfolding gather
  gather_append [] ys = refl
  gather_append (x ∷ xs) ys = ap (λ (l : List A). f x ++ l) (gather_append xs ys) ∙ sym (append_assoc (f x) (gather f xs) (gather f ys))

  pub gather-end : (xs : List B) (x : B) → gather f (xs ++ x ∷ []) ≡ gather f xs ++ f x
  unfolding gather
  gather-end xs x = gather_append xs (x ∷ []) ∙ ap (λ (l : List A). gather f xs ++ l) (append-nil (f x))

  -- an entry from which nothing is taken
  pub gather-nothing : (xs : List B) (x : B) → f x ≡ [] → gather f (xs ++ x ∷ []) ≡ gather f xs
  gather-nothing xs x h = gather-end xs x ∙ rw h (append-nil (gather f xs))

  -- what is gathered from what was gathered
  pub gather-gathered : {C : Type 0} (g : C → List B) (h : C → List A) → ((x : C) → gather f (g x) ≡ h x) → (xs : List C) → gather f (gather g xs) ≡ gather h xs
  unfolding gather
  gather-gathered g h e [] = refl
  gather-gathered g h e (x ∷ xs) = gather_append (g x) (gather g xs) ∙ rw (e x, gather-gathered g h e xs)

  -- a property of each entry
  pub each-gathered : {P : A → Type 0} → ((x : B) → Each P (f x)) → (xs : List B) → Each P (gather f xs)
  unfolding gather
  each-gathered h [] = no-entry
  each-gathered h (x ∷ xs) = each_append (h x) (each-gathered h xs)

module _ {A : Type 0} where
  pub last_end : (d : A) (xs : List A) (x : A) → last_or d (xs ++ x ∷ []) ≡ x
  unfolding last_or
  last_end d [] x = refl
  last_end d (y ∷ xs) x = last_end y xs x

  pub any_append : (xs ys : List A) → is_any (xs ++ ys) ≡ (is_any xs || is_any ys)
  unfolding is_any
  any_append [] ys = refl
  any_append (x ∷ xs) ys = refl

-- the last entry gathered, where the entry at the end gives nothing, and where it gives one
module _ {A B : Type 0} (d : A) (f : B → List A) (xs : List B) (x : B) where
  pub last-kept : f x ≡ [] → last_or d (gather f (xs ++ x ∷ [])) ≡ last_or d (gather f xs)
  last-kept h = rw (gather-nothing f xs x h)

  pub last-gathered : (v : A) → f x ≡ v ∷ [] → last_or d (gather f (xs ++ x ∷ [])) ≡ v
  last-gathered v h = rw (gather-end f xs x, h) (last_end d (gather f xs) v)

pub eqb-either-way : (a b : ℕ) → eqb a b ≡ eqb b a
eqb-either-way a b = same_test (eqb a b) (eqb b a) (λ e. eq-eqb b a (sym (eqb-true a b e))) (λ e. eq-eqb a b (sym (eqb-true b a e)))

pub in-append : (m : ℕ) (xs ys : List ℕ) → is_in m (xs ++ ys) ≡ (is_in m xs || is_in m ys)
unfolding is_in
in-append m [] ys = refl
in-append m (x ∷ xs) ys = ap (λ (b : Bool). eqb m x || b) (in-append m xs ys) ∙ sym (or_assoc (eqb m x) (is_in m xs) (is_in m ys))

pub in-permuted : (m : ℕ) {xs ys : List ℕ} → Permuted ℕ xs ys → is_in m xs ≡ is_in m ys
unfolding is_in
in-permuted m none = refl
in-permuted m (keep {x = x} p) = ap (λ (b : Bool). eqb m x || b) (in-permuted m p)
in-permuted m (exchange {x = x} {y = y} {xs = xs}) =
    sym (or_assoc (eqb m x) (eqb m y) (is_in m xs))
    ∙ ap (λ (b : Bool). b || is_in m xs) (or_comm (eqb m x) (eqb m y))
    ∙ or_assoc (eqb m y) (eqb m x) (is_in m xs)
in-permuted m (chain p q) = in-permuted m p ∙ in-permuted m q

-- two functions that agree on each number of a list
pub map_same : {B : Type 0} (f g : ℕ → B) (ks : List ℕ) → ((k : ℕ) → is_in k ks ≡ true → f k ≡ g k) → map f ks ≡ map g ks
unfolding is_in
map_same f g [] h = refl
map_same f g (k ∷ ks) h =
    let first = h k (rw (eq-eqb k k refl)) in
    let rest = map_same f g ks (λ j i. h j (rw i (or-true (eqb j k)))) in
    λ i. first i ∷ rest i

-- a function that is one after another
pub map-after : {A B C : Type 0} (f : B → C) (g : A → B) (h : A → C) → ((x : A) → h x ≡ f (g x)) → (xs : List A) → map h xs ≡ map f (map g xs)
map-after {A} {B} {C} f g h e xs = ap (λ (k : A → C). map k xs) (fun_ext e) ∙ sym (map-map f g xs)
