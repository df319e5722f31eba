-- `allocate_formed` leaves what an allocation of a book that is known to be well formed leaves: a refusal of its slice, or what the allocation of the slice leaves. Assumes nothing.
use mathlib.Core.Path.{sym, ◌∙◌}
use Rattle.std.proofs.lemmas.Result.{err_from_is_err_and}
use Rattle.allocation.proofs.RunningWays.{formed-refused, formed-allocated}
use Rattle.allocation.proofs.allocate.allocate_formed.Goals as goal

pub returns-in_err-test_slice : goal.returns-in_err-test_slice
returns-in_err-test_slice c =
    let p = err_from_is_err_and c.from_residual.result c.from_residual.ensures.1 in
    rw (p.1, p.2) (formed-refused _ _ _ _ (sym c.test_slice.ensures ∙ c.in_err-test_slice.was))

pub returns : goal.returns
returns c = formed-allocated _ _ _ (sym c.test_slice.ensures ∙ c.in_ok-test_slice.was) _ c.allocate_kept.ensures
