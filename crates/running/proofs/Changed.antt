-- A slice with a change added to its first words: its length, its words, the words past them, and changes made one after the other.
use Prim.Native.Nat.{ℕ, zero, suc, ◌+◌, ◌≤◌, ◌<◌}
use mathlib.Core.Path.{◌≡◌, refl, ap, ap₂, ◌∙◌}
use mathlib.Core.List.{List, [], ◌∷◌}
use native.Mathlib.Omega.{arith}
use borrow.Author.Tests.{eq-eqb, ne_eqb}
use lib.IntN.{ℤ, pos, ◌+ℤ◌, +ℤ_idr, +ℤ_assoc}
use lib.ListN.{length, get_or, set, drop}
use Rattle.running.specs.Words.{slice_words}
use Rattle.running.specs.Running.{added_from, with_change}
use Rattle.running.specs.Helpers.{amount_at}

pub length-changed : (f : ℕ → ℤ) (k n : ℕ) (cells : List ℤ) → length (added_from f k n cells) ≡ length cells
unfolding added_from
length-changed f k zero cells = refl
length-changed f k (suc n) [] = refl
length-changed f k (suc n) (x ∷ cells) = ap suc (length-changed f (suc k) n cells)

pub changed-from : (f : ℕ → ℤ) (k n i : ℕ) (cells : List ℤ) → i < n → i < length cells → get_or (added_from f k n cells) i (pos 0) ≡ get_or cells i (pos 0) +ℤ f (k + i)
unfolding added_from
changed-from f k zero i cells h l = absurd (omega arith)
changed-from f k (suc n) i [] h l = absurd (omega arith)
changed-from f k (suc n) zero (x ∷ cells) h l = let e : k ≡ k + 0 = omega arith in ap (λ (j : ℕ). x +ℤ f j) e
changed-from f k (suc n) (suc i) (x ∷ cells) h l =
    let e : suc k + i ≡ k + suc i = omega arith in
    changed-from f (suc k) n i cells (omega arith) (omega arith) ∙ ap (λ (j : ℕ). get_or cells i (pos 0) +ℤ f j) e

pub changed-after : (f : ℕ → ℤ) (k n : ℕ) (cells : List ℤ) → drop n (added_from f k n cells) ≡ drop n cells
unfolding added_from
changed-after f k zero cells = refl
changed-after f k (suc n) [] = refl
changed-after f k (suc n) (x ∷ cells) = changed-after f (suc k) n cells

-- the same change, word by word
pub same_from : (f g : ℕ → ℤ) (k n : ℕ) (cells : List ℤ) → ((i : ℕ) → i < k + n → f i ≡ g i) → added_from f k n cells ≡ added_from g k n cells
unfolding added_from
same_from f g k zero cells h = refl
same_from f g k (suc n) [] h = refl
same_from f g k (suc n) (x ∷ cells) h =
    ap₂ (λ (y : ℤ) (ys : List ℤ). (x +ℤ y) ∷ ys) (h k (omega arith)) (same_from f g (suc k) n cells (λ i l. h i (omega arith)))

pub twice-from : (f g : ℕ → ℤ) (k n : ℕ) (cells : List ℤ) → added_from g k n (added_from f k n cells) ≡ added_from (λ i. f i +ℤ g i) k n cells
unfolding added_from
twice-from f g k zero cells = refl
twice-from f g k (suc n) [] = refl
twice-from f g k (suc n) (x ∷ cells) = ap₂ (λ (y : ℤ) (ys : List ℤ). y ∷ ys) (+ℤ_assoc x (f k) (g k)) (twice-from f g (suc k) n cells)

pub none_from : (k n : ℕ) (cells : List ℤ) → added_from (λ i. pos 0) k n cells ≡ cells
unfolding added_from
none_from k zero cells = refl
none_from k (suc n) [] = refl
none_from k (suc n) (x ∷ cells) = ap₂ (λ (y : ℤ) (ys : List ℤ). y ∷ ys) (+ℤ_idr x) (none_from (suc k) n cells)

module _ (f : ℕ → ℤ) (cells : List ℤ) where
  pub changed-length : length (with_change f cells) ≡ length cells
  changed-length = length-changed f 0 slice_words cells

  pub changed-at : (i : ℕ) → i < slice_words → i < length cells → get_or (with_change f cells) i (pos 0) ≡ get_or cells i (pos 0) +ℤ f i
  changed-at i h l = let e : 0 + i ≡ i = omega arith in changed-from f 0 slice_words i cells h l ∙ ap (λ (j : ℕ). get_or cells i (pos 0) +ℤ f j) e

  pub changed-same : (g : ℕ → ℤ) → ((i : ℕ) → i < slice_words → f i ≡ g i) → with_change f cells ≡ with_change g cells
  changed-same g h = same_from f g 0 slice_words cells (λ i l. h i (omega arith))

  pub changed-twice : (g : ℕ → ℤ) → with_change g (with_change f cells) ≡ with_change (λ i. f i +ℤ g i) cells
  changed-twice g = twice-from f g 0 slice_words cells

  pub changed-nothing : ((i : ℕ) → i < slice_words → f i ≡ pos 0) → with_change f cells ≡ cells
  changed-nothing h = changed-same (λ i. pos 0) h ∙ none_from 0 slice_words cells

-- an amount added to one word
module _ (amount : ℤ) where
  pub at-word : (word k : ℕ) → word ≡ k → amount_at word amount k ≡ amount
  unfolding amount_at
  at-word word k e = rw (eq-eqb word k e)

  pub at_other : (word k : ℕ) → (word ≡ k → ⊥) → amount_at word amount k ≡ pos 0
  unfolding amount_at
  at_other word k n = rw (ne_eqb word k n)

  before-from : (word k n : ℕ) (cells : List ℤ) → word < k → added_from (amount_at word amount) k n cells ≡ cells
  unfolding added_from
  before-from word k zero cells h = refl
  before-from word k (suc n) [] h = refl
  before-from word k (suc n) (x ∷ cells) h =
      ap₂ (λ (y : ℤ) (ys : List ℤ). y ∷ ys)
      (ap (λ (y : ℤ). x +ℤ y) (at_other word k (λ e. omega arith)) ∙ +ℤ_idr x)
      (before-from word (suc k) n cells (omega arith))

  pub one_from : (word k n i : ℕ) (cells : List ℤ) → word ≡ k + i → i < n → i < length cells → added_from (amount_at word amount) k n cells ≡ set cells i (get_or cells i (pos 0) +ℤ amount)
  unfolding added_from
  one_from word k zero i cells w h l = absurd (omega arith)
  one_from word k (suc n) i [] w h l = absurd (omega arith)
  one_from word k (suc n) zero (x ∷ cells) w h l =
      ap₂ (λ (y : ℤ) (ys : List ℤ). (x +ℤ y) ∷ ys) (at-word word k (omega arith)) (before-from word (suc k) n cells (omega arith))
  one_from word k (suc n) (suc i) (x ∷ cells) w h l =
      ap₂ (λ (y : ℤ) (ys : List ℤ). y ∷ ys)
      (ap (λ (y : ℤ). x +ℤ y) (at_other word k (λ e. omega arith)) ∙ +ℤ_idr x)
      (one_from word (suc k) n i cells (omega arith) (omega arith) (omega arith))

  pub changed-one : (cells : List ℤ) (word : ℕ) → word < slice_words → slice_words ≤ length cells
      → with_change (amount_at word amount) cells ≡ set cells word (get_or cells word (pos 0) +ℤ amount)
  changed-one cells word h long = one_from word 0 slice_words word cells (omega arith) h (omega arith)
