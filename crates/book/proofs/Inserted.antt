-- The words that inserting a row leaves.
use Prim.Native.Nat.{ℕ, ◌+◌, ◌*◌, ◌-◌, ◌≤◌}
use mathlib.Core.Path.{◌≡◌, ◌∙◌, ap}
use mathlib.Core.List.{List, ◌∷◌, ◌++◌}
use borrow.Rule.Slice.PartMut.{put_mid}
use native.Mathlib.Nat.{sub-zero}
use native.Mathlib.Omega.{arith}
use lib.ListN.{length, set, take, drop}
use lib.Seq.{drop-drop}
use Rattle.std.specs.List.{copy_within}
use Rattle.book.specs.Rows.{rows_of, new_row, written}
use Rattle.book.proofs.RowsOf.{first_three, length-rows, words-of-rows}
use Rattle.book.proofs.Written.{written-cons}
use Rattle.book.proofs.Parts.{rest_part, rest_put}

-- the words that inserting a row on the part from its place on leaves
pub inserted-words : {k k' w w' : ℕ} {ys : List ℕ} (n m : ℕ) (words : List ℕ) → k ≡ k' → w ≡ w'
    → ys ≡ written (new_row m w ∷ rows_of (n - k) (take (length words - 3 * k) (drop (3 * k) words))) (take (length words - 3 * k) (drop (3 * k) words))
    → put_mid (3 * k) (length words - 3 * k) words ys
    ≡ take (3 * k') words ++ written (new_row m w' ∷ rows_of (n - k') (drop (3 * k') words)) (drop (3 * k') words)
inserted-words {k} {k'} {w} {w'} {ys} n m words p q e =
    rest_put (3 * k) words ys ∙ ap (λ (zs : List ℕ). take (3 * k) words ++ zs) e ∙ rw (rest_part (3 * k) words, p, q)

-- the rows behind a new first row, written: their words as they were, three places up
later_rows_lem : (later : ℕ) (part : List ℕ) → 3 * later ≤ length part → written (rows_of later part) (drop 3 part) ≡ take (3 * later) part ++ drop (3 + 3 * later) part
unfolding written
later_rows_lem later part h = rw (words-of-rows later part h, length-rows later part, drop-drop (3 * later) 3 part)

pub inserted-row : (later m registration : ℕ) (part moved : List ℕ) → 3 * (later + 1) ≤ length part → moved ≡ copy_within part 0 (3 * later) 3 → set (set (set moved 0 m) 1 registration) 2 0 ≡ written (new_row m registration ∷ rows_of later part) part
inserted-row later m registration part moved h e = rw (e, sub-zero, first_three part (omega arith), written-cons, later_rows_lem later part (omega arith))

-- for the search for a proof
pub ruleset inserted = (inserted-row)
