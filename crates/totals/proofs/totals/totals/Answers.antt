-- `totals` gives the outcome of the totals call: one law for each way it ends. Assumes nothing.
use Prim.Native.Nat.{ℕ, ◌≤◌}
use mathlib.Core.Path.{◌≡◌, sym, ◌∙◌}
use mathlib.Core.List.{List, ◌++◌}
use lib.ListN.{length, take, drop, replicate}
use Rattle.std.proofs.lemmas.List.{length-take-le}
use Rattle.std.proofs.lemmas.Result.{err_from_is_err_and}
use Rattle.totals.specs.Totals.{totals_words}
use Rattle.totals.proofs.Ways.{way-ill-formed, way-refused, way-lacks, way-written, add-rows-arguments}
use Rattle.totals.proofs.totals.totals.Goals as goal

-- the slice with its first words filled
first-filled : (slice : List ℕ) {part : List ℕ} → totals_words ≤ length slice → part ≡ replicate (length (take 4096 slice)) 0 → part ++ drop 4096 slice ≡ replicate totals_words 0 ++ drop totals_words slice
first-filled slice long e = rw (e, length-take-le 4096 slice long)

pub returns-then-not-is_formed : goal.returns-then-not-is_formed
returns-then-not-is_formed c = way-ill-formed _ _ _ _ _ (sym c.is_formed.ensures ∙ c.if-not-is_formed.true)

pub returns-in_err-asked : goal.returns-in_err-asked
returns-in_err-asked c =
    let p = err_from_is_err_and c.from_residual.result c.from_residual.ensures.1 in
    rw (p.1, p.2) (way-refused _ _ _ _ _ (sym c.is_formed.ensures ∙ c.if-not-is_formed.false) _ c.in_err-asked.ensures.number)

pub returns-then-any_lacks : goal.returns-then-any_lacks
returns-then-any_lacks c =
    way-lacks _ _ _ _ _ (sym c.is_formed.ensures ∙ c.if-not-is_formed.false) c.in_ok-asked.ensures.number
    (rw c.first_rows-meters.ensures.rows at (sym c.any_lacks.ensures ∙ c.if-any_lacks.true))

pub add_rows-requires : goal.add_rows-requires
add_rows-requires c =
    rw c.first_rows-meters.ensures.rows
    (add-rows-arguments _ _ (sym c.is_formed.ensures ∙ c.if-not-is_formed.false) c.args.totals.now
    (first-filled c.args.totals.now c.in_ok-asked.ensures.room (c.fill.ensures.after (λ y e. e))))

pub returns : goal.returns
returns c =
    way-written _ _ _ _ _ (sym c.is_formed.ensures ∙ c.if-not-is_formed.false) c.in_ok-asked.ensures.number
    (rw c.first_rows-meters.ensures.rows at (sym c.any_lacks.ensures ∙ c.if-any_lacks.false))
    (first-filled c.args.totals.now c.in_ok-asked.ensures.room (c.fill.ensures.after (λ y e. e)))
    (rw (c.first_rows-meters.ensures.rows, c.in_ok-asked.ensures.direction, c.in_ok-asked.ensures.network) at c.add_rows.ensures)
