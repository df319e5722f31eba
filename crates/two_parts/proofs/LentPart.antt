-- The later rows lent as a slice of their own, up to the capacity of the whole, and put back.
use Prim.Native.Nat.{ℕ, zero, suc, ◌+◌, ◌*◌, ◌-◌, ◌≤◌}
use mathlib.Core.Path.{◌≡◌, refl, sym, ◌∙◌, ap}
use mathlib.Core.List.{List, [], ◌∷◌, ◌++◌}
use native.Mathlib.Omega.{arith}
use borrow.Rule.Slice.PartMut.{mid_of, put_mid, post_of, same_len_mid}
use lib.ListN.{length, take, drop, length-take, length-drop, take-append-drop}
use lib.Seq.{length-take-le, drop-drop, drop_at, drop-append-le}
use Rattle.book.specs.Rows.{Row, capacity, rows_of}
use Rattle.book.specs.Helpers.{row}
use Rattle.book.proofs.WellFormed.{room}
use Rattle.book.proofs.Parts.{rest_part}
use Rattle.two_parts.specs.TwoParts.{later_rows, PartsReady}
use Rattle.two_parts.proofs.AsOne.{both-fit}

-- the first rows of a slice are those of a longer one
pub rows-longer : (n : ℕ) (xs ys : List ℕ) → 3 * n ≤ length xs → rows_of n (xs ++ ys) ≡ rows_of n xs
unfolding rows_of
rows-longer zero xs ys h = refl
rows-longer (suc n) [] ys h = absurd (omega arith)
rows-longer (suc n) (a ∷ []) ys h = absurd (omega arith)
rows-longer (suc n) (a ∷ b ∷ []) ys h = absurd (omega arith)
rows-longer (suc n) (a ∷ b ∷ c ∷ xs) ys h = ap (λ (l : List Row). row a b c ∷ l) (rows-longer n xs ys (omega arith))

-- and of its front
pub rows_taken : (n j : ℕ) (xs : List ℕ) → 3 * n ≤ j → j ≤ length xs → rows_of n (take j xs) ≡ rows_of n xs
rows_taken n j xs h l =
    sym (rows-longer n (take j xs) (drop j xs) (rw (length-take-le j xs l) h)) ∙ ap (rows_of n) (take-append-drop j xs)

-- the part after the first rows, and the slice with other words there
abbrev pub part_after : ℕ → List ℕ → List ℕ
part_after first words = mid_of (3 * first) (3 * capacity words - 3 * first) words

abbrev pub put_after : ℕ → List ℕ → List ℕ → List ℕ
put_after first words part = put_mid (3 * first) (3 * capacity words - 3 * first) words part

module _ (first : ℕ) (words : List ℕ) (within : first ≤ capacity words) where
  pub part_length : length (part_after first words) ≡ 3 * (capacity words - first)
  part_length = simp (length-take, length-drop) (omega (arith, room words (capacity words) (omega arith)))

  pub part-capacity : capacity (part_after first words) ≡ capacity words - first
  unfolding capacity
  part-capacity = omega (arith, part_length)

  pub part-rows : (later : ℕ) → first + later ≤ capacity words → rows_of later (part_after first words) ≡ rows_of later (drop (3 * first) words)
  part-rows later h =
      rows_taken later (3 * capacity words - 3 * first) (drop (3 * first) words) (omega arith)
      (omega (arith, length-drop (3 * first) words, room words (capacity words) (omega arith)))

  -- other words put back
  module _ (part : List ℕ) (same : length part ≡ length (part_after first words)) where
    pub put-length : length (put_after first words part) ≡ length words
    put-length = same_len_mid (3 * first) (3 * capacity words - 3 * first) words part same

    before-part : length (take (3 * first) words) ≡ 3 * first
    before-part = length-take-le (3 * first) words (room words first within)

    pub put_first : rows_of first (put_after first words part) ≡ rows_of first words
    put_first =
        rows-longer first (take (3 * first) words) (part ++ post_of (3 * first) (3 * capacity words - 3 * first) words) (rw before-part (omega arith))
        ∙ rows_taken first (3 * first) words (omega arith) (room words first within)

    from-part : drop (3 * first) (put_after first words part) ≡ part ++ post_of (3 * first) (3 * capacity words - 3 * first) words
    from-part = drop_at (take (3 * first) words) (part ++ post_of (3 * first) (3 * capacity words - 3 * first) words) (3 * first) before-part

    module _ (later : ℕ) (fits : 3 * later ≤ length part) where
      pub put-later : rows_of later (drop (3 * first) (put_after first words part)) ≡ rows_of later part
      put-later = rw from-part (rows-longer later part (post_of (3 * first) (3 * capacity words - 3 * first) words) fits)

      -- the words after the rows, where the part keeps those of its own
      pub put-tail : drop (3 * later) part ≡ drop (3 * later) (part_after first words) → drop (3 * (first + later)) (put_after first words part) ≡ drop (3 * (first + later)) words
      put-tail kept =
          let post = post_of (3 * first) (3 * capacity words - 3 * first) words in
          let e : 3 * (first + later) ≡ 3 * first + 3 * later = omega arith in
          rw e
          (sym (drop-drop (3 * later) (3 * first) (put_after first words part))
          ∙ ap (drop (3 * later)) from-part
          ∙ drop-append-le (3 * later) part post fits
          ∙ ap (λ (l : List ℕ). l ++ post) kept
          ∙ sym (drop-append-le (3 * later) (part_after first words) post (omega (arith, same)))
          ∙ ap (drop (3 * later)) (take-append-drop (3 * capacity words - 3 * first) (drop (3 * first) words))
          ∙ drop-drop (3 * later) (3 * first) words)

-- a copy of the later rows
pub rows-copied : {first later : ℕ} {words copy : List ℕ} → PartsReady first later words → copy ≡ mid_of (3 * first) (3 * (first + later) - 3 * first) words → rows_of later copy ≡ later_rows first later words
unfolding later_rows
rows-copied {first} {later} {words} ready e =
    rw e (rows_taken later (3 * (first + later) - 3 * first) (drop (3 * first) words) (omega arith) (omega (arith, length-drop (3 * first) words, both-fit ready)))

-- for the search for a proof
pub ruleset copied = (rows-copied)

pub ruleset rest = (rest_part, length-drop)
