-- A list of calls: one list after another, a list on a book or a slice that is refused, and that every call leaves a well-formed book so.
use Prim.Native.Nat.{ℕ, zero, suc}
use mathlib.Core.Path.{◌≡◌, refl, ap, subst}
use mathlib.Core.Bool.{Bool, true, not}
use mathlib.Core.List.{List, [], ◌∷◌, ◌++◌}
use native.Mathlib.Omega.{arith}
use lib.ListN.{length, replicate}
use Rattle.refusals.specs.Causes.{refuse, accepted, book_ill_formed}
use Rattle.refusals.proofs.Passed.{passed}
use Rattle.book.specs.Book.{well_formed}
use Rattle.running.specs.Running.{Running, within_limits, is_short, running_formed, lent_cause, limit_cause}
use Rattle.calls.specs.declared.Call.{Call}
use Rattle.calls.specs.Calls.{Outcome, outcome, cause_after_test, call_cause, book_made, call_outcome}
use Rattle.calls.specs.Running.{running_made, running_cause, running_outcome, running_call, running_after, running_numbers}
use Rattle.calls.proofs.CallFormed.{call-formed}

-- a list after another
pub running-after-append : (r : Running) (calls more : List Call) → running_after r (calls ++ more) ≡ running_after (running_after r calls) more
unfolding running_after
running-after-append r [] more = refl
running-after-append r (c ∷ calls) more = running-after-append (running_call r c).running calls more

pub numbers-append : (r : Running) (calls more : List Call) → running_numbers r (calls ++ more) ≡ running_numbers r calls ++ running_numbers (running_after r calls) more
unfolding running_after running_numbers
numbers-append r [] more = refl
numbers-append r (c ∷ calls) more = ap (λ (l : List ℕ). (running_call r c).number ∷ l) (numbers-append (running_call r c).running calls more)

pub length-numbers : (r : Running) (calls : List Call) → length (running_numbers r calls) ≡ length calls
unfolding running_numbers
length-numbers r [] = refl
length-numbers r (c ∷ calls) = ap suc (length-numbers (running_call r c).running calls)

-- what is refused for what is lent
module _ (r : Running) {n : ℕ} (first : (rest : ℕ) → lent_cause r rest ≡ n) (refused : n ≡ accepted → ⊥) where
  pub call-refused : (c : Call) → running_call r c ≡ record { number = n; running = r }
  unfolding running_call running_cause running_outcome
  call-refused c = rw (first (limit_cause (cause_after_test r.book c) (within_limits (running_made r c).cells))) (by n refused)
    where
      by : (n : ℕ) → (n ≡ accepted → ⊥) → running_outcome n (running_made r c) r ≡ record { number = n; running = r }
      by zero h = absurd (h refl)
      by (suc k) h = refl

  pub running-left : (calls : List Call) → running_after r calls ≡ r
  unfolding running_after
  running-left [] = refl
  running-left (c ∷ calls) = rw (call-refused c) (running-left calls)

  pub numbers-refused : (calls : List Call) → running_numbers r calls ≡ replicate (length calls) n
  unfolding running_numbers
  numbers-refused [] = refl
  numbers-refused (c ∷ calls) = rw (call-refused c, numbers-refused calls)

-- where the limit is no cause, there was none before it
no-cause : (cause : ℕ) (within : Bool) → limit_cause cause within ≡ accepted → cause ≡ accepted
unfolding limit_cause
no-cause zero within e = refl
no-cause (suc k) within e = absurd (omega arith)

module _ (r : Running) (wf : well_formed r.book ≡ true) (c : Call) where
  pub made-formed : cause_after_test r.book c ≡ accepted → well_formed (book_made r.book c) ≡ true
  unfolding call_outcome call_cause outcome
  made-formed e =
      let o : call_outcome r.book c ≡ record { number = accepted; book = book_made r.book c } = rw (wf, e) in
      subst (λ (o : Outcome). well_formed o.book ≡ true) o (call-formed r.book wf c)

  pub running-formed : well_formed (running_call r c).running.book ≡ true
  unfolding running_call running_outcome running_cause
  running-formed = by (running_cause r c) refl
    where
      by : (n : ℕ) → running_cause r c ≡ n → well_formed (running_outcome n (running_made r c) r).running.book ≡ true
      by zero e =
          let cause = limit_cause (cause_after_test r.book c) (within_limits (running_made r c).cells) in
          let long = passed (is_short r.cells) 12 (refuse (not (running_formed r)) book_ill_formed cause) e in
          let lent = passed (not (running_formed r)) 0 cause long.1 in
          made-formed (no-cause (cause_after_test r.book c) (within_limits (running_made r c).cells) lent.1)
      by (suc k) e = wf

-- and so does a list
pub list-formed : (r : Running) → well_formed r.book ≡ true → (calls : List Call) → well_formed (running_after r calls).book ≡ true
unfolding running_after
list-formed r wf [] = wf
list-formed r wf (c ∷ calls) = list-formed (running_call r c).running (running-formed r wf c) calls
