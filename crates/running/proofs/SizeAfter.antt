-- The sizes of the cells after one entry is exchanged for another: from the sizes before and the cells that the entries change, and how much larger they are at most.
use Prim.Native.Nat.{ℕ, zero, suc, ◌+◌, ◌*◌, ◌%◌, ◌≤◌, ◌<◌}
use mathlib.Core.Path.{◌≡◌, refl, sym, ◌∙◌, ap, ap₂}
use mathlib.Core.Bool.{Bool, true, false, cond}
use mathlib.Core.List.{List, [], ◌∷◌}
use native.Mathlib.Omega.{arith}
use lib.Dec.{eqb}
use lib.IntN.{ℤ, pos, neg_ℤ, nat_abs, ◌+ℤ◌, ◌-ℤ◌, +ℤ_idr}
use lib.ListN.{length, get_or, set, take}
use lib.Seq.{length-take-le, take-set-lt, get_or-take}
use Rattle.integers.specs.Sum.{sizes}
use Rattle.integers.proofs.Linear.{linear, plus, minus}
use Rattle.integers.proofs.Size.{size-plus, minus-bound}
use Rattle.integers.proofs.Sizes.{sizes-set}
use Rattle.running.specs.declared.meters.Entry.{Entry}
use Rattle.running.specs.Words.{cell_words, slice_words}
use Rattle.running.specs.Running.{added_from, with_change, sizes_most}
use Rattle.running.specs.Helpers.{amount_at, entry_gives, opposite_of, entry_change, pair_size, amount_most, EntryFormed, Near, PairArguments}
use Rattle.running.proofs.Changed.{changed-length, changed-at, changed-one, changed-twice, same_from, at_other}
use Rattle.running.proofs.Entries.{gives-cell}
use Rattle.running.proofs.Exchanges.{exchange-gives, opposite-formed, all-exchanged}

-- a change of the first m words leaves among the first n what it leaves of these alone
take-changed : (f : ℕ → ℤ) (k n m : ℕ) (cells : List ℤ) → n ≤ m → take n (added_from f k m cells) ≡ added_from f k n (take n cells)
unfolding added_from
take-changed f k zero m cells h = refl
take-changed f k (suc n) zero cells h = absurd (omega arith)
take-changed f k (suc n) (suc m) [] h = refl
take-changed f k (suc n) (suc m) (x ∷ cells) h = ap (λ (ys : List ℤ). (x +ℤ f k) ∷ ys) (take-changed f (suc k) n m cells (omega arith))

abbrev cell_sizes : List ℤ → ℕ
cell_sizes cells = sizes (take cell_words cells)

-- the sizes of the first n words, where one of them is replaced
taken-set : (n : ℕ) (xs : List ℤ) (i : ℕ) (x : ℤ) → i < n → n ≤ length xs → sizes (take n (set xs i x)) + nat_abs (get_or xs i (pos 0)) ≡ sizes (take n xs) + nat_abs x
taken-set n xs i x h l =
    rw (take-set-lt n xs i x h, ← get_or-take n xs i (pos 0) h)
    (sizes-set (take n xs) i x (omega (arith, length-take-le n xs l)))

-- the sizes of the cells, where an amount is added to one
cell-changed : (cells : List ℤ) → slice_words ≤ length cells → (word : ℕ) (amount : ℤ) → word < cell_words
    → cell_sizes (with_change (amount_at word amount) cells) + nat_abs (get_or cells word (pos 0)) ≡ cell_sizes cells + nat_abs (get_or cells word (pos 0) +ℤ amount)
cell-changed cells long word amount h =
    ap (λ (xs : List ℤ). cell_sizes xs + nat_abs (get_or cells word (pos 0))) (changed-one amount cells word (omega arith) long)
    ∙ taken-set cell_words cells word (get_or cells word (pos 0) +ℤ amount) h (omega arith)

-- an amount at each of two cells that stand side by side
abbrev pair_at : ℕ → ℤ → ℤ → ℕ → ℤ
pair_at at a b k = amount_at at a k +ℤ amount_at (at + 1) b k

module _ (cells : List ℤ) (at : ℕ) (a b : ℤ) where
  pair-most : pair_size cells at a b ≤ pair_size cells at (pos 0) (pos 0) + (nat_abs a + nat_abs b)
  unfolding pair_size
  pair-most =
      let x = get_or cells at (pos 0) in
      let y = get_or cells (at + 1) (pos 0) in
      rw (+ℤ_idr x, +ℤ_idr y) (omega (arith, size-plus x a, size-plus y b))

  pub pair_small : Near 0 cells → at + 1 < cell_words → pair_size cells at a b ≤ 2 * sizes_most + (nat_abs a + nat_abs b)
  unfolding pair_size
  pair_small near h =
      omega (
        arith,
        size-plus (get_or cells at (pos 0)) a,
        size-plus (get_or cells (at + 1) (pos 0)) b,
        near.word-most at (omega arith),
        near.word-most (at + 1) (omega arith),
      )

  pair-changed : slice_words ≤ length cells → at + 1 < cell_words
      → cell_sizes (with_change (pair_at at a b) cells) + pair_size cells at (pos 0) (pos 0) ≡ cell_sizes cells + pair_size cells at a b
  unfolding pair_size
  pair-changed long h =
      let x = get_or cells at (pos 0) in
      let y = get_or cells (at + 1) (pos 0) in
      let first = with_change (amount_at at a) cells in
      let other : get_or first (at + 1) (pos 0) ≡ y = changed-at (amount_at at a) cells (at + 1) (omega arith) (omega arith) ∙ ap (λ (z : ℤ). y +ℤ z) (at_other a at (at + 1) (λ e. omega arith)) ∙ +ℤ_idr y in
      let one = cell-changed cells long at a (omega arith) in
      let two = cell-changed first (omega (arith, changed-length (amount_at at a) cells)) (at + 1) b h in
      rw (← changed-twice (amount_at at a) cells (amount_at (at + 1) b), +ℤ_idr x, +ℤ_idr y)
      (omega (arith, one, rw other at two))

  -- two other cells stay
  pair-apart : slice_words ≤ length cells → at % 2 ≡ 0 → (to : ℕ) → to % 2 ≡ 0 → to + 1 < cell_words → (at ≡ to → ⊥)
      → (c d : ℤ) → pair_size (with_change (pair_at at a b) cells) to c d ≡ pair_size cells to c d
  unfolding pair_size
  pair-apart long even to even-to h apart c d =
      rw (stays to (omega arith) apart (λ e. omega arith), stays (to + 1) h (λ e. omega arith) (λ e. apart (omega arith)))
      refl
    where
      stays : (k : ℕ) → k < cell_words → (at ≡ k → ⊥) → (at + 1 ≡ k → ⊥) → get_or (with_change (pair_at at a b) cells) k (pos 0) ≡ get_or cells k (pos 0)
      stays k l p q =
          changed-at (pair_at at a b) cells k (omega arith) (omega arith)
          ∙ rw (at_other a at k p, at_other b (at + 1) k q) (+ℤ_idr (get_or cells k (pos 0)))

amounts-less : (word : ℕ) (a b : ℤ) (k : ℕ) → amount_at word a k -ℤ amount_at word b k ≡ amount_at word (a -ℤ b) k
unfolding amount_at
amounts-less word a b k = by (eqb word k)
  where
    by : (t : Bool) → cond t a (pos 0) -ℤ cond t b (pos 0) ≡ cond t (a -ℤ b) (pos 0)
    by true = refl
    by false = refl

pairs-less : (a b c d : ℤ) → (a +ℤ b) -ℤ (c +ℤ d) ≡ (a -ℤ c) +ℤ (b -ℤ d)
pairs-less a b c d = omega (linear, plus a b, plus c d, minus (a +ℤ b) (c +ℤ d), minus a c, minus b d, plus (a -ℤ c) (b -ℤ d))

-- the cells without those of an entry
abbrev without : Entry → List ℤ → List ℤ
without e cells = with_change (pair_at e.at (neg_ℤ e.thousandths) (neg_ℤ e.loss)) cells

-- what counts of a change is what it adds to the cells
module _ (cells : List ℤ) where
  sizes-same : (f g : ℕ → ℤ) → ((k : ℕ) → k < cell_words → f k ≡ g k) → cell_sizes (with_change f cells) ≡ cell_sizes (with_change g cells)
  sizes-same f g same =
      let of : (f : ℕ → ℤ) → take cell_words (with_change f cells) ≡ added_from f 0 cell_words (take cell_words cells) = λ f. take-changed f 0 cell_words slice_words cells (omega arith) in
      ap sizes (of f ∙ same_from f g 0 cell_words (take cell_words cells) (λ i l. same i (omega arith)) ∙ sym (of g))

  module _ (old new : Entry) (f : EntryFormed old) (g : EntryFormed new) (long : slice_words ≤ length cells) where
    one-pair : old.at ≡ new.at
        → cell_sizes (with_change (entry_change old new) cells) + pair_size cells old.at (pos 0) (pos 0)
        ≡ cell_sizes cells + pair_size cells old.at (new.thousandths -ℤ old.thousandths) (new.loss -ℤ old.loss)
    one-pair same =
        let a = new.thousandths -ℤ old.thousandths in
        let b = new.loss -ℤ old.loss in
        ap (λ (n : ℕ). n + pair_size cells old.at (pos 0) (pos 0)) (sizes-same (entry_change old new) (pair_at old.at a b) change)
        ∙ pair-changed cells old.at a b long f.at_bound
      where
        change : (k : ℕ) → k < cell_words → entry_change old new k ≡ pair_at old.at (new.thousandths -ℤ old.thousandths) (new.loss -ℤ old.loss) k
        change k h =
            rw (gives-cell old f k h, gives-cell new g k h, ← same)
            (pairs-less (amount_at old.at new.thousandths k) (amount_at (old.at + 1) new.loss k) (amount_at old.at old.thousandths k) (amount_at (old.at + 1) old.loss k)
            ∙ ap₂ ◌+ℤ◌ (amounts-less old.at new.thousandths old.thousandths k) (amounts-less (old.at + 1) new.loss old.loss k))

    two-pairs : (old.at ≡ new.at → ⊥)
        → cell_sizes (with_change (entry_change old new) cells) + pair_size cells new.at (pos 0) (pos 0) ≡ cell_sizes (without old cells) + pair_size cells new.at new.thousandths new.loss
    two-pairs apart =
        let less = pair_at old.at (neg_ℤ old.thousandths) (neg_ℤ old.loss) in
        let more = pair_at new.at new.thousandths new.loss in
        let stay = pair-apart cells old.at (neg_ℤ old.thousandths) (neg_ℤ old.loss) long f.at-even new.at g.at-even g.at_bound apart in
        let both : cell_sizes (with_change (entry_change old new) cells) ≡ cell_sizes (with_change more (without old cells)) =
        sizes-same (entry_change old new) (λ k. less k +ℤ more k)
        (λ k h. sym (exchange-gives old new k) ∙ ap₂ ◌+ℤ◌ (gives-cell (opposite_of old) (opposite-formed f) k h) (gives-cell new g k h))
        ∙ ap cell_sizes (sym (changed-twice less cells more)) in
        rw (both, ← stay (pos 0) (pos 0), ← stay new.thousandths new.loss)
        (pair-changed (without old cells) new.at new.thousandths new.loss (omega (arith, changed-length less cells)) g.at_bound)

-- what an entry adds, and an exchange changes, at most: the amounts at the cells of each entry
module _ (cells : List ℤ) (long : slice_words ≤ length cells) where
  entry-most : (e : Entry) → EntryFormed e → cell_sizes (with_change (entry_gives e) cells) ≤ cell_sizes cells + 2 * amount_most
  entry-most e formed =
      let pair = pair_at e.at e.thousandths e.loss in
      omega (
        arith,
        sizes-same cells (entry_gives e) pair (λ k h. gives-cell e formed k h),
        pair-changed cells e.at e.thousandths e.loss long formed.at_bound,
        pair-most cells e.at e.thousandths e.loss,
        formed.thousandths-bound,
        formed.loss-bound,
      )

pub exchange-most : (cells : List ℤ) (old new : Entry) → slice_words ≤ length cells → EntryFormed old → EntryFormed new
    → sizes (take cell_words (with_change (entry_change old new) cells)) ≤ sizes (take cell_words cells) + 4 * amount_most
exchange-most cells old new long f g =
    let taken = with_change (entry_gives (opposite_of old)) cells in
    rw (← all-exchanged old new cells)
    (omega (
      arith,
      entry-most cells long (opposite_of old) (opposite-formed f),
      entry-most taken (omega (arith, changed-length (entry_gives (opposite_of old)) cells)) new g,
    ))

-- what `size_after` asks of `size_with`, and what it is given
given : (cells : List ℤ) {at : ℕ} {x y : ℤ} {before : ℕ} (after : ℕ) → Near 0 cells → at + 1 < cell_words → nat_abs x ≤ 2 * amount_most → nat_abs y ≤ 2 * amount_most
    → after + pair_size cells at (pos 0) (pos 0) ≡ before + pair_size cells at x y → before ≤ sizes_most + 4 * amount_most → PairArguments cells at x y before
given cells after near h p q law most = record { near = near; at_bound = h; first-bound = p; second-bound = q; among = omega (arith, law); size-bound = most }

module _ (cells : List ℤ) (old new : Entry) (f : EntryFormed old) (g : EntryFormed new) (near : Near 0 cells) {size : ℕ} (size-is : size ≡ sizes (take cell_words cells)) (small : size ≤ sizes_most) where
  -- both entries in the same two cells
  module _ (same : old.at ≡ new.at) {x y : ℤ} (p : x ≡ new.thousandths -ℤ old.thousandths) (q : y ≡ new.loss -ℤ old.loss) where
    same-law : cell_sizes (with_change (entry_change old new) cells) + pair_size cells old.at (pos 0) (pos 0) ≡ size + pair_size cells old.at x y
    same-law = rw (p, q, size-is) (one-pair cells old new f g near.long same)

    pub same-arguments : PairArguments cells old.at x y size
    same-arguments =
        given cells (cell_sizes (with_change (entry_change old new) cells)) near f.at_bound
        (rw p (minus-bound new.thousandths old.thousandths g.thousandths-bound f.thousandths-bound))
        (rw q (minus-bound new.loss old.loss g.loss-bound f.loss-bound))
        same-law (omega (arith, small))

    pub same-sizes : {r : ℕ} → r + pair_size cells old.at (pos 0) (pos 0) ≡ size + pair_size cells old.at x y → r ≡ sizes (take cell_words (with_change (entry_change old new) cells))
    same-sizes e = omega (arith, e, same-law)

  -- each in two of its own: the old one taken away, and then the new one added
  module _ {taken : Entry} (t : taken ≡ opposite_of old) {x y : ℤ} (p : x ≡ taken.thousandths) (q : y ≡ taken.loss) where
    x-is : x ≡ neg_ℤ old.thousandths
    x-is = p ∙ ap (λ (e : Entry). e.thousandths) t

    y-is : y ≡ neg_ℤ old.loss
    y-is = q ∙ ap (λ (e : Entry). e.loss) t

    x-bound : nat_abs x ≤ amount_most
    x-bound = rw x-is (opposite-formed f).thousandths-bound

    y-bound : nat_abs y ≤ amount_most
    y-bound = rw y-is (opposite-formed f).loss-bound

    taken-law : cell_sizes (without old cells) + pair_size cells old.at (pos 0) (pos 0) ≡ size + pair_size cells old.at x y
    taken-law = rw (x-is, y-is, size-is) (pair-changed cells old.at (neg_ℤ old.thousandths) (neg_ℤ old.loss) near.long f.at_bound)

    pub taken-arguments : PairArguments cells old.at x y size
    taken-arguments = given cells (cell_sizes (without old cells)) near f.at_bound (omega (arith, x-bound)) (omega (arith, y-bound)) taken-law (omega (arith, small))

    module _ (apart : old.at ≡ new.at → ⊥) (r : ℕ) (e : r + pair_size cells old.at (pos 0) (pos 0) ≡ size + pair_size cells old.at x y)
        {u v : ℤ} (m : u ≡ new.thousandths) (n : v ≡ new.loss) where
      apart-law : cell_sizes (with_change (entry_change old new) cells) + pair_size cells new.at (pos 0) (pos 0) ≡ r + pair_size cells new.at u v
      apart-law =
          let left : r ≡ cell_sizes (without old cells) = omega (arith, e, taken-law) in
          rw (m, n, left) (two-pairs cells old new f g near.long apart)

      pub apart-arguments : PairArguments cells new.at u v r
      apart-arguments =
          given cells (cell_sizes (with_change (entry_change old new) cells)) near g.at_bound
          (rw m (omega (arith, g.thousandths-bound))) (rw n (omega (arith, g.loss-bound)))
          apart-law (omega (arith, e, small, x-bound, y-bound, pair-most cells old.at x y))

      pub apart-sizes : {z : ℕ} → z + pair_size cells new.at (pos 0) (pos 0) ≡ r + pair_size cells new.at u v → z ≡ sizes (take cell_words (with_change (entry_change old new) cells))
      apart-sizes h = omega (arith, h, apart-law)
