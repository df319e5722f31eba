-- Different numbers: each number of a list where it stands first, with one more at the end, and up to a capacity.
use Prim.Native.Nat.{ℕ, zero, suc, ◌≤◌, ◌<◌}
use mathlib.Core.Path.{◌≡◌, refl, sym, ◌∙◌, ap}
use mathlib.Core.Bool.{true, false, or-false, true≢false}
use mathlib.Core.List.{List, [], ◌∷◌, ◌++◌, append-nil}
use native.Mathlib.Omega.{arith}
use borrow.Author.Tests.{eqb-true}
use lib.Dec.{eqb}
use lib.ListN.{length, take, length-take, length-append}
use lib.Seq.{take_all, take-append-le}
use Rattle.words.proofs.Tests.{by-test, neither}
use Rattle.meaning.specs.Meaning.{without, different}
use Rattle.meaning.specs.Moves.{is_in}
use Rattle.meaning.proofs.Lists.{eqb-either-way}

module _ (x y : ℕ) (ys : List ℕ) where
  without-next : eqb x y ≡ false → without x (y ∷ ys) ≡ y ∷ without x ys
  unfolding without
  without-next h = rw h

  without-here : eqb x y ≡ true → without x (y ∷ ys) ≡ without x ys
  unfolding without
  without-here h = rw h

pub without-append : (x : ℕ) (ys zs : List ℕ) → without x (ys ++ zs) ≡ without x ys ++ without x zs
unfolding without
without-append x [] zs = refl
without-append x (y ∷ ys) zs =
    by-test (eqb x y)
    (λ e. rw (without-here x y (ys ++ zs) e, without-here x y ys e) (without-append x ys zs))
    (λ e. rw (without-next x y (ys ++ zs) e, without-next x y ys e) (ap (λ (l : List ℕ). y ∷ l) (without-append x ys zs)))

-- a number that is not there changes nothing
pub without-none : (x : ℕ) (ys : List ℕ) → is_in x ys ≡ false → without x ys ≡ ys
unfolding without is_in
without-none x [] h = refl
without-none x (y ∷ ys) h =
    let k = neither (eqb x y) (is_in x ys) h in
    without-next x y ys k.0 ∙ ap (λ (l : List ℕ). y ∷ l) (without-none x ys k.1)

-- whether a number stands in a list without another, and in the different numbers of a list

module _ (x z : ℕ) (zs : List ℕ) where
  in-next : eqb x z ≡ false → is_in x (z ∷ zs) ≡ is_in x zs
  unfolding is_in
  in-next h = rw h

  in-here : eqb x z ≡ true → is_in x (z ∷ zs) ≡ true
  unfolding is_in
  in-here h = rw h

pub in_without : (x y : ℕ) (zs : List ℕ) → eqb x y ≡ false → is_in x (without y zs) ≡ is_in x zs
unfolding without
in_without x y [] h = refl
in_without x y (z ∷ zs) h =
    by-test (eqb y z)
    (λ e.
    let n : eqb x z ≡ false = rw (eqb-true y z e) at h in
    rw (without-here y z zs e, in-next x z zs n) (in_without x y zs h))
    (λ e.
    rw (without-next y z zs e)
    (by-test (eqb x z)
    (λ q. in-here x z (without y zs) q ∙ sym (in-here x z zs q))
    (λ q. in-next x z (without y zs) q ∙ in_without x y zs h ∙ sym (in-next x z zs q))))

pub not-in-without : (x : ℕ) (zs : List ℕ) → is_in x (without x zs) ≡ false
unfolding without is_in
not-in-without x [] = refl
not-in-without x (z ∷ zs) =
    by-test (eqb x z)
    (λ e. rw (without-here x z zs e) (not-in-without x zs))
    (λ e. rw (without-next x z zs e, in-next x z (without x zs) e) (not-in-without x zs))

pub in-different : (x : ℕ) (xs : List ℕ) → is_in x (different xs) ≡ is_in x xs
unfolding different
in-different x [] = refl
in-different x (y ∷ xs) =
    by-test (eqb x y)
    (λ e. in-here x y (without y (different xs)) e ∙ sym (in-here x y xs e))
    (λ e. in-next x y (without y (different xs)) e ∙ in_without x y (different xs) e ∙ in-different x xs ∙ sym (in-next x y xs e))

-- one more number at the end

pub different-new : (x : ℕ) (xs : List ℕ) → is_in x xs ≡ false → different (xs ++ x ∷ []) ≡ different xs ++ x ∷ []
unfolding different is_in without
different-new x [] h = refl
different-new x (y ∷ xs) h =
    let k = neither (eqb x y) (is_in x xs) h in
    let e : eqb y x ≡ false = eqb-either-way y x ∙ k.0 in
    rw (different-new x xs k.1, without-append y (different xs) (x ∷ []), without-next y x [] e)

pub different-again : (x : ℕ) (xs : List ℕ) → is_in x xs ≡ true → different (xs ++ x ∷ []) ≡ different xs
unfolding different is_in without
different-again x [] h = absurd (true≢false (sym h))
different-again x (y ∷ xs) h =
    by-test (is_in x xs)
    (λ k. rw (different-again x xs k))
    (λ k.
    let e : eqb y x ≡ true = eqb-either-way y x ∙ sym (or-false (eqb x y)) ∙ rw k at h in
    rw (different-new x xs k, without-append y (different xs) (x ∷ []), without-here y x [] e) (ap (λ (l : List ℕ). y ∷ l) (append-nil (without y (different xs)))))

-- the first n of a list

pub not-in-take : (n x : ℕ) (xs : List ℕ) → is_in x xs ≡ false → is_in x (take n xs) ≡ false
unfolding is_in
not-in-take zero x xs h = refl
not-in-take (suc n) x [] h = refl
not-in-take (suc n) x (y ∷ xs) h =
    let k = neither (eqb x y) (is_in x xs) h in
    rw k.0 (not-in-take n x xs k.1)

pub in_take : (n x : ℕ) (xs : List ℕ) → is_in x (take n xs) ≡ true → is_in x xs ≡ true
in_take n x xs h =
    by-test (is_in x xs)
    (λ e. e)
    (λ e. absurd (true≢false (sym h ∙ not-in-take n x xs e)))

-- the first n different numbers, with one more number at the end of the list
module _ (n x : ℕ) (xs : List ℕ) where
  pub first-again : is_in x (take n (different xs)) ≡ true → take n (different (xs ++ x ∷ [])) ≡ take n (different xs)
  first-again h = rw (different-again x xs (sym (in-different x xs) ∙ in_take n x (different xs) h))

  -- fewer than n are all of them
  pub first-all : length (take n (different xs)) < n → take n (different xs) ≡ different xs
  first-all l =
      let e = length-take n (different xs) in
      take_all n (different xs) (omega arith)

  pub first-none : is_in x (take n (different xs)) ≡ false → length (take n (different xs)) < n → is_in x xs ≡ false
  first-none h l = sym (in-different x xs) ∙ rw (first-all l) at h

  pub first-new : is_in x (take n (different xs)) ≡ false → length (take n (different xs)) < n → take n (different (xs ++ x ∷ [])) ≡ take n (different xs) ++ x ∷ []
  first-new h l =
      let e = length-take n (different xs) in
      let k = length-append (different xs) (x ∷ []) in
      rw (different-new x xs (first-none h l), first-all l) (take_all n (different xs ++ x ∷ []) (omega arith))

  pub first-full : n ≤ length (take n (different xs)) → take n (different (xs ++ x ∷ [])) ≡ take n (different xs)
  first-full l =
      let e = length-take n (different xs) in
      by-test (is_in x xs)
      (λ h. rw (different-again x xs h))
      (λ h. rw (different-new x xs h) (take-append-le n (different xs) (x ∷ []) (omega arith)))

-- every number is apart from those after it
pub data Apart : List ℕ → Type 0 where
  none : Apart []
  next : {x : ℕ} {xs : List ℕ} → is_in x xs ≡ false → Apart xs → Apart (x ∷ xs)

not-in-less : (x y : ℕ) (zs : List ℕ) → is_in x zs ≡ false → is_in x (without y zs) ≡ false
not-in-less x y zs h =
    by-test (eqb x y)
    (λ e. rw (eqb-true x y e) (not-in-without y zs))
    (λ e. in_without x y zs e ∙ h)

apart-without : (y : ℕ) (xs : List ℕ) → Apart xs → Apart (without y xs)
unfolding without
apart-without y [] none = none
apart-without y (x ∷ xs) (next h a) =
    by-test (eqb y x)
    (λ e. rw (without-here y x xs e) (apart-without y xs a))
    (λ e. rw (without-next y x xs e) (next (not-in-less x y xs h) (apart-without y xs a)))

pub different-apart : (xs : List ℕ) → Apart (different xs)
unfolding different
different-apart [] = none
different-apart (x ∷ xs) = next (not-in-without x (different xs)) (apart-without x (different xs) (different-apart xs))

pub take-apart : (n : ℕ) (xs : List ℕ) → Apart xs → Apart (take n xs)
take-apart zero xs a = none
take-apart (suc n) [] a = none
take-apart (suc n) (x ∷ xs) (next h a) = next (not-in-take n x xs h) (take-apart n xs a)

-- numbers that are apart are different
pub apart-different : (xs : List ℕ) → Apart xs → different xs ≡ xs
unfolding different
apart-different [] none = refl
apart-different (x ∷ xs) (next h a) = ap (λ (l : List ℕ). x ∷ l) (rw (apart-different xs a) (without-none x xs h))
