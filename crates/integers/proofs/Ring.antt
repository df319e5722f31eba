-- Sums, differences and products of ℤ that `lib.IntN` does not have. What is linear, `omega (linear, ..)` proves where it is wanted.
use Prim.Native.Nat.{◌*◌}
use mathlib.Core.Path.{◌≡◌, sym, ap, ◌∙◌}
use lib.IntN.{ℤ, neg_ℤ, ◌+ℤ◌, ◌-ℤ◌, ◌*ℤ◌, *ℤ_comm}
use borrow.Author.Differences.{up, down, neg_is, product_is}
use Rattle.integers.proofs.Linear.{linear, plus}

module _ (a b : ℤ) where
  pub plus-rest : a +ℤ (b -ℤ a) ≡ b
  plus-rest = omega linear

  pub neg-times : neg_ℤ a *ℤ b ≡ neg_ℤ (a *ℤ b)
  neg-times = omega (linear, rw ((neg_is a).0, (neg_is a).1) at (product_is (neg_ℤ a) b))

  pub times-neg : a *ℤ neg_ℤ b ≡ neg_ℤ (a *ℤ b)
  times-neg = omega (linear, rw ((neg_is b).0, (neg_is b).1) at (product_is a (neg_ℤ b)))

module _ (a b c : ℤ) where
  pub times-plus : a *ℤ (b +ℤ c) ≡ a *ℤ b +ℤ a *ℤ c
  times-plus =
      omega (linear, ap (λ n. up a * n) (plus b c), ap (λ n. down a * n) (plus b c))

  pub plus_times : (a +ℤ b) *ℤ c ≡ a *ℤ c +ℤ b *ℤ c
  plus_times =
      omega (linear, ap (λ n. n * up c) (plus a b), ap (λ n. n * down c) (plus a b))

  pub times-assoc : a *ℤ b *ℤ c ≡ a *ℤ (b *ℤ c)
  times-assoc =
      let left = rw ((product_is a b).0, (product_is a b).1) at (product_is (a *ℤ b) c) in
      let right = rw ((product_is b c).0, (product_is b c).1) at (product_is a (b *ℤ c)) in
      omega linear

pub times-exchange : (a b c : ℤ) → a *ℤ b *ℤ c ≡ a *ℤ c *ℤ b
times-exchange a b c = times-assoc a b c ∙ ap (λ z. a *ℤ z) (*ℤ_comm b c) ∙ sym (times-assoc a c b)

pub minus-times : (a b c : ℤ) → (a -ℤ b) *ℤ c ≡ a *ℤ c -ℤ b *ℤ c
minus-times a b c = plus_times a (neg_ℤ b) c ∙ ap (λ z. a *ℤ c +ℤ z) (neg-times b c)

-- two sums, or two differences, side by side
module _ (a b c d : ℤ) where
  pub plus-exchange : (a +ℤ b) +ℤ (c +ℤ d) ≡ (a +ℤ c) +ℤ (b +ℤ d)
  plus-exchange = omega linear
