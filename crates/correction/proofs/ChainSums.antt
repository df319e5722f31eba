-- A chain that ends in `sum`: its running totals fit if the sizes of all its numbers together do, and it gives their sum.
use Prim.Native.Nat.{ℕ, ◌+◌, ◌^◌, ◌<◌}
use mathlib.Core.Path.{◌≡◌, refl, sym, ap, subst, ◌∙◌}
use mathlib.Core.Bool.{true}
use mathlib.Core.List.{List, [], ◌∷◌, map, map-map}
use native.Mathlib.Omega.{arith}
use lib.IntN.{ℤ, pos, nat_abs, ◌+ℤ◌, +ℤ_idl, +ℤ_idr, +ℤ_assoc}
use denote.Ref.{Bor}
use denote.Param.Members.{Mut}
use mir.Syntax.{w64}
use mir.Val.{SFits}
use Rattle.std.specs.List.{fold}
use Rattle.std.specs.Iterator.{ActsAs}
use Rattle.std.specs.Iterator.Adapters.{map_steps}
use Rattle.std.specs.Slice.Iter.{iter_steps, iter_rest}
use Rattle.std.proofs.iter.runs.Sources.{iter_runs}
use Rattle.std.specs.Iterator.Runs.{Run, ItemsMapTo, IsMapRun}
use Rattle.integers.specs.Sum.{sum, sizes}
use Rattle.integers.proofs.Fit.{fit}
use Rattle.integers.proofs.Sizes.{size-sum}

module _ {A : Type 0} (f : A → ℤ) where
  fold-sum : (z : ℤ) (xs : List A) → fold (λ a x. a +ℤ f x) z xs ≡ z +ℤ sum (map f xs)
  unfolding sum
  fold-sum z [] = sym (+ℤ_idr z)
  fold-sum z (x ∷ xs) = fold-sum (z +ℤ f x) xs ∙ +ℤ_assoc z (f x) (sum (map f xs))

  fold-sizes : (n : ℕ) (xs : List A) → fold (λ a x. a + nat_abs (f x)) n xs ≡ n + sizes (map f xs)
  unfolding sizes
  fold-sizes n [] = omega arith
  fold-sizes n (x ∷ xs) = omega (arith, fold-sizes (n + nat_abs (f x)) xs)

  fold-map : (z : ℤ) (xs : List A) → fold ◌+ℤ◌ z (map f xs) ≡ fold (λ a x. a +ℤ f x) z xs
  fold-map z [] = refl
  fold-map z (x ∷ xs) = fold-map (z +ℤ f x) xs

-- references to the entries of a list, each with its figure
module _ {A : Type 0} (figure : A → ℤ) (xs : List A) (q : Run (iter_steps {A = A})) (from : iter_rest q.from ≡ xs) where
  over : ItemsMapTo q (λ (x : Bor A). x.now) xs
  over = subst (λ (ys : List A). ItemsMapTo q (λ (x : Bor A). x.now) ys) from (iter_runs q q.seen)

  pub over-fits : sizes (map figure xs) < 2 ^ 63 → SFits w64 (fold (λ a x. a +ℤ figure x.now) (pos 0) q.items)
  over-fits h =
      let f : Bor A → ℤ = λ x. figure x.now in
      let most = over.7 (λ a x. a + nat_abs (figure x)) 0 (λ a x. omega arith) in
      rw (fold-sum f (pos 0) q.items, +ℤ_idl)
      (fit _ (sizes (map figure xs)) (omega (arith, size-sum (map f q.items), fold-sizes f 0 q.items, fold-sizes figure 0 xs, most)) h)

  pub over-sum : q.whole ≡ true → fold (λ a x. a +ℤ figure x.now) (pos 0) q.items ≡ sum (map figure xs)
  over-sum whole =
      let now : Bor A → A = λ x. x.now in
      fold-sum (λ x. figure x.now) (pos 0) q.items
      ∙ +ℤ_idl _
      ∙ ap sum (sym (map-map figure now q.items) ∙ ap (map figure) (over.4 whole))

  -- the figures themselves, as `map` gives them
  module _ {F : Type 0} {g : Mut F (Bor A × Unit {0}) ℤ} {f : F} (p : Run (map_steps (iter_steps {A = A}) g)) (mapped : IsMapRun p q g f) (acts : ActsAs g f (λ x. figure x.now)) where
    mapped-is : fold ◌+ℤ◌ (pos 0) p.items ≡ fold (λ a x. a +ℤ figure x.now) (pos 0) q.items
    mapped-is = ap (fold ◌+ℤ◌ (pos 0)) (mapped.3 (λ x. figure x.now) acts) ∙ fold-map (λ x. figure x.now) (pos 0) q.items

    pub mapped-fits : sizes (map figure xs) < 2 ^ 63 → SFits w64 (fold ◌+ℤ◌ (pos 0) p.items)
    mapped-fits h = rw (mapped-is) (over-fits h)

    pub mapped-sum : p.whole ≡ true → fold ◌+ℤ◌ (pos 0) p.items ≡ sum (map figure xs)
    mapped-sum whole = mapped-is ∙ over-sum (mapped.0 ∙ whole)
