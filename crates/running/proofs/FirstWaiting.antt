-- The meters before the first that waits in a category: another shape changes nothing for them.
use Prim.Native.Nat.{ℕ, suc, ◌+◌}
use mathlib.Core.Path.{◌≡◌, refl, sym, ◌∙◌}
use mathlib.Core.Bool.{Bool, false}
use mathlib.Core.List.{List, [], ◌∷◌, map}
use native.Mathlib.Omega.{arith}
use borrow.Author.Tests.{ltb-false}
use lib.Dec.{ltb}
use lib.IntN.{ℤ, pos, +ℤ_idl}
use lib.ListN.{length, drop}
use Rattle.std.specs.Prelude.{Some, None}
use Rattle.std.specs.List.{position_or_len}
use Rattle.std.proofs.lemmas.List.{drop_all}
use Rattle.integers.specs.Sum.{sum}
use Rattle.words.proofs.Tests.{by-test}
use Rattle.book.specs.Rows.{first_row}
use Rattle.cells.specs.Cells.{sum_over}
use Rattle.running.specs.Helpers.{waits_in, first_waiting, shape_gives, shape_sum}

module _ (category : ℕ) where
  abbrev waits : List ℕ → Bool
  waits row = waits_in category (first_row row).registration (first_row row).reading

  module _ (wh : ℤ) (k : ℕ) where
    none_gives : (row : List ℕ) → waits row ≡ false → shape_gives category wh k (first_row row).registration (first_row row).reading ≡ pos 0
    unfolding shape_gives
    none_gives row other = rw other

    after-first : (rows : List (List ℕ)) → shape_sum category wh (map first_row (drop (position_or_len waits rows) rows)) k ≡ shape_sum category wh (map first_row rows) k
    unfolding shape_sum sum_over sum
    after-first [] = refl
    after-first (row ∷ rows) =
        by-test (waits row)
        (λ t. rw t)
        (λ t.
        let next : 1 + position_or_len waits rows ≡ suc (position_or_len waits rows) = omega arith in
        rw (t, next, none_gives row t) (after-first rows ∙ sym (+ℤ_idl (shape_sum category wh (map first_row rows) k))))

    sum-none : shape_sum category wh [] k ≡ pos 0
    unfolding shape_sum sum_over sum
    sum-none = refl

    -- from the first on
    pub sum-from-first : (rows : List (List ℕ)) (first : ℕ) → Some first ≡ first_waiting category rows → shape_sum category wh (map first_row (drop first rows)) k ≡ shape_sum category wh (map first_row rows) k
    sum-from-first rows first e =
        by-test (ltb (position_or_len waits rows) (length rows))
        (λ t.
        let found = rw t at e in
        let same : first ≡ position_or_len waits rows = cc in
        rw same (after-first rows))
        (λ t.
        let lost = rw t at e in
        absurd cc)

    -- if there is one
    pub sum-unwaited : (rows : List (List ℕ)) → None ≡ first_waiting category rows → shape_sum category wh (map first_row rows) k ≡ pos 0
    sum-unwaited rows e =
        by-test (ltb (position_or_len waits rows) (length rows))
        (λ t.
        let found = rw t at e in
        absurd cc)
        (λ t.
        let out : drop (position_or_len waits rows) rows ≡ [] = drop_all (position_or_len waits rows) rows (ltb-false (position_or_len waits rows) (length rows) t) in
        sym (after-first rows) ∙ rw out sum-none)
