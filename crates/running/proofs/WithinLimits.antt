-- The limits of the slice: the sizes of its cells, and each of its numbers.
use Prim.Native.Nat.{ℕ, zero, suc, ◌+◌, ◌*◌, ◌-◌, ◌%◌, ◌^◌, ◌≤◌, ◌<◌}
use mathlib.Core.Path.{◌≡◌, refl, sym, ◌∙◌, ap}
use mathlib.Core.Bool.{true, false, true≢false, ◌&&◌, and_assoc, and-true, and-eq-true_iff}
use mathlib.Core.List.{List, [], ◌∷◌}
use mir.Syntax.{w64}
use mir.Val.{SFits, of_z}
use Rattle.std.specs.Prelude.{Some, None}
use Rattle.std.proofs.lemmas.Nat.{le_or_l, le_or_r}
use native.Mathlib.Omega.{arith}
use native.Mathlib.Numerals.{add-one}
use borrow.Author.Tests.{leb-true, le-leb, lt-leb, ltb-true, lt-ltb}
use lib.Bits.{bit_or, or_add_and, or_lt}
use lib.Dec.{leb, ltb}
use lib.IntN.{ℤ, pos, negsuc, nat_abs}
use lib.ListN.{length, get_or, take, drop}
use lib.Seq.{get_or-drop}
use Rattle.integers.specs.Sum.{sizes}
use Rattle.integers.proofs.Sizes.{sizes-take}
use Rattle.words.proofs.Tests.{by-test, same_test}
use Rattle.running.specs.Words.{cell_words, slice_words}
use Rattle.running.specs.Running.{sizes_most, is_number, number_words, all_numbers, within_limits}
use Rattle.running.specs.Helpers.{cells_measured}

-- a size of so much is above the limit
abbrev pub large : ℕ
large = 2251799813685248

-- the bits of the sizes of the first i cells, and these sizes added up, as a sum that may wrap: it has not while each size is below `large`
pub record Added (cells : List ℤ) (i bits total : ℕ) : Type 0 where
  pub within : i ≤ cell_words
  pub among : bits ≤ sizes (take i cells)
  pub whole : bits < large → total ≡ sizes (take i cells)
  pub most : bits < large → total ≤ i * large

module _ (cells : List ℤ) where
  pub none-added : Added cells 0 0 0
  unfolding sizes
  none-added = record { within = omega arith; among = omega arith; whole = λ h. refl; most = λ h. omega arith }

  pub one-more-added : (i bits total size : ℕ) → slice_words ≤ length cells → i < cell_words → Added cells i bits total
      → size ≡ nat_abs (get_or cells i (pos 0)) → Added cells (i + 1) (bit_or bits size) ((total + size) % 2 ^ 64)
  one-more-added i bits total size long h p e =
      let next = sizes-take cells i (omega arith) in
      record {
        within = omega arith;
        among = rw add-one (omega (arith, p.among, next, or_add_and bits size));
        whole = λ below. rw add-one (omega (arith, p.whole, p.most, next, le_or_l bits size, le_or_r bits size));
        most = λ below. omega (arith, p.most, le_or_l bits size, le_or_r bits size);
      }

  pub added-within : (bits total : ℕ) → Added cells cell_words bits total → ltb bits large && leb total sizes_most ≡ true → Some total ≡ cells_measured cells
  added-within bits total p e =
      let k = (and-eq-true_iff (ltb bits large) (leb total sizes_most)).0 e in
      rw (← p.whole (ltb-true bits large k.0), k.1) refl

  pub added-beyond : (bits total : ℕ) → Added cells cell_words bits total → ltb bits large && leb total sizes_most ≡ false → None ≡ cells_measured cells
  added-beyond bits total p e =
      by-test (leb (sizes (take cell_words cells)) sizes_most)
      (λ w.
      let most = leb-true (sizes (take cell_words cells)) sizes_most w in
      let below : bits < large = omega (arith, p.among) in
      let fits : leb total sizes_most ≡ true = rw (p.whole below) w in
      absurd (true≢false (sym (rw (lt-ltb bits large below, fits) refl) ∙ e)))
      (λ w. rw w refl)

-- the numbers before one, and that one
pub number_next : (n : ℕ) (words : List ℤ) → n < length words → all_numbers (n + 1) words ≡ (all_numbers n words && is_number (get_or words n (pos 0)))
unfolding all_numbers
number_next n [] h = absurd (omega arith)
number_next zero (x ∷ words) h = and-true (is_number x)
number_next (suc n) (x ∷ words) h =
    let m : suc n + 1 ≡ suc (n + 1) = omega arith in
    rw m (ap (λ b. is_number x && b) (number_next n words (omega arith)) ∙ sym (and_assoc (is_number x) (all_numbers n words) (is_number (get_or words n (pos 0)))))

-- no bit above the lower 32 is set in two words together where none is in either
pub or_in-range : (a b : ℕ) → leb (bit_or a b) 4294967295 ≡ (leb a 4294967295 && leb b 4294967295)
or_in-range a b =
    same_test (leb (bit_or a b) 4294967295) (leb a 4294967295 && leb b 4294967295)
    (λ e.
    let h = leb-true (bit_or a b) 4294967295 e in
    rw (le-leb a 4294967295 (omega (arith, le_or_l a b)), le-leb b 4294967295 (omega (arith, le_or_r a b))) refl)
    (λ e.
    let k = (and-eq-true_iff (leb a 4294967295) (leb b 4294967295)).0 e in
    le-leb (bit_or a b) 4294967295 (omega (arith, or_lt 32 a b (omega (arith, leb-true a 4294967295 k.0)) (omega (arith, leb-true b 4294967295 k.1)))))

-- a negative number is 2^63 or more as a word
pub word_in-range : (x : ℤ) → SFits w64 x → leb (of_z w64 x) 4294967295 ≡ is_number x
word_in-range (pos n) f = rw (le-leb 0 n (omega arith)) refl
word_in-range (negsuc n) f = lt-leb (of_z w64 (negsuc n)) 4294967295 (omega (arith, f.sfits))

-- the limits one by one

-- what a count or a waiting number may be
pub number_size : (x : ℤ) → is_number x ≡ true → nat_abs x ≤ 4294967295
number_size (pos n) e = leb-true n 4294967295 ((and-eq-true_iff (leb 0 n) (leb n 4294967295)).0 e).1
number_size (negsuc n) e = absurd (true≢false (sym e))

number_in : (n k : ℕ) (words : List ℤ) → all_numbers n words ≡ true → k < n → is_number (get_or words k (pos 0)) ≡ true
unfolding all_numbers
number_in zero k words all h = absurd (omega arith)
number_in (suc n) k [] all h = refl
number_in (suc n) zero (x ∷ words) all h = ((and-eq-true_iff (is_number x) (all_numbers n words)).0 all).0
number_in (suc n) (suc k) (x ∷ words) all h = number_in n k words ((and-eq-true_iff (is_number x) (all_numbers n words)).0 all).1 (omega arith)

all_in : (n : ℕ) (words : List ℤ) → ((k : ℕ) → k < n → is_number (get_or words k (pos 0)) ≡ true) → all_numbers n words ≡ true
unfolding all_numbers
all_in zero words each = refl
all_in (suc n) [] each = refl
all_in (suc n) (x ∷ words) each = rw (each 0 (omega arith)) (all_in n words (λ k h. each (suc k) (omega arith)))

-- a slice that passes no limit: the sizes of its cells, and each of its numbers
pub record Within (cells : List ℤ) : Type 0 where
  pub sizes-most : sizes (take cell_words cells) ≤ sizes_most
  pub number : (k : ℕ) → cell_words ≤ k → k < slice_words → is_number (get_or cells k (pos 0)) ≡ true

module _ (cells : List ℤ) where
  pub within-each : within_limits cells ≡ true → Within cells
  unfolding within_limits
  within-each e =
      let both = (and-eq-true_iff (leb (sizes (take cell_words cells)) sizes_most) (all_numbers number_words (drop cell_words cells))).0 e in
      record {
        sizes-most = leb-true (sizes (take cell_words cells)) sizes_most both.0;
        number =
            λ k h l.
            let m : cell_words + (k - cell_words) ≡ k = omega arith in
            ap (λ j. is_number (get_or cells j (pos 0))) (sym m)
            ∙ ap is_number (sym (get_or-drop cell_words cells (k - cell_words) (pos 0)))
            ∙ number_in number_words (k - cell_words) (drop cell_words cells) both.1 (omega arith);
      }

  pub each_within : Within cells → within_limits cells ≡ true
  unfolding within_limits
  each_within w =
      rw (le-leb (sizes (take cell_words cells)) sizes_most w.sizes-most)
      (all_in number_words (drop cell_words cells) (λ k h. ap is_number (get_or-drop cell_words cells k (pos 0)) ∙ w.number (cell_words + k) (omega arith) (omega arith)))
