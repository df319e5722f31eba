use Prim.Native.Nat.{ℕ, ◌+◌, ◌*◌, ◌-◌, ◌/◌, ◌^◌, ◌≤◌, ◌<◌, min}
use mathlib.Core.Path.{◌≡◌, refl}
use mathlib.Core.Logic.{◌⊎◌, inl, inr, ⊎_elim}
use mathlib.Core.Bool.{Bool, true, false, cond}
use mathlib.Core.List.{List}
use native.Mathlib.Omega.{arith}
use borrow.Author.Tests.{ltb-true, ltb-false}
use lib.Dec.{ltb}
use lib.ListN.{get_or}
use Rattle.book.specs.Rows.{rows_of, rows_formed}
use Rattle.book.specs.Helpers.{place_of}
use Rattle.book.proofs.Rising.{mpan-small}
use Rattle.book.proofs.PlaceOf.{place-within-in, before-place-in, place-before-in, mpan-in}
use Rattle.book.proofs.rows.lower_bound.Goals as goal

-- a step is made if row i stands before the place, and only then
abbrev Told : (words : List ℕ) (n m i step made : ℕ) → Type 0
Told words n m i step made = ((made ≡ step) × (i < place_of m (rows_of n words))) ⊎ ((made ≡ 0) × (place_of m (rows_of n words) ≤ i))

module _ (words : List ℕ) (n m : ℕ) (formed : rows_formed 0 (rows_of n words) ≡ true) where
  row_small : (i : ℕ) → i < n → get_or words (3 * i) 0 < 2 ^ 63
  row_small i h = mpan-small (get_or words (3 * i) 0) (mpan-in words n i h formed)

  stepped : (i step made key : ℕ) → i < n → key ≡ min m (2 ^ 63) → made ≡ cond (ltb (get_or words (3 * i) 0) key) step 0 → Told words n m i step made
  stepped i step made key h k e = go (ltb row key) refl e
    where
      row : ℕ
      row = get_or words (3 * i) 0

      go : (t : Bool) → ltb row key ≡ t → made ≡ cond t step 0 → Told words n m i step made
      go true q r = inl (r, before-place-in words n i h m formed (omega (arith, ltb-true row key q)))
      go false q r = inr (r, place-before-in words n i h m (omega (arith, ltb-false row key q, row_small i h)))

-- the step of a turn, and the one after the loop

turn : (c : goal.After-step_if_below-low) →
    let at-loop = c.before.before.before in
    let args = at-loop.args in
    Told args.rows.now args.n args.m (at-loop.loop-left.low + at-loop.loop-left.left / 2) (at-loop.loop-left.left / 2) c.step_if_below-low.result
turn c =
    let at-loop = c.before.before.before in
    let start = at-loop.before.before.before.before.before.before in
    stepped start.args.rows.now start.args.n start.args.m start.requires.formed (at-loop.loop-left.low + at-loop.loop-left.left / 2) (at-loop.loop-left.left / 2) c.step_if_below-low.result at-loop.search_key-key.result (omega arith) at-loop.search_key-key.ensures c.step_if_below-low.ensures

last : (c : goal.After-step_if_below) →
    let at-loop = c.before.before.before in
    let args = at-loop.args in
    Told args.rows.now args.n args.m at-loop.loop-left.low 1 c.step_if_below.result
last c =
    let at-loop = c.before.before.before in
    let start = at-loop.before.before.before.before.before.before in
    stepped start.args.rows.now start.args.n start.args.m start.requires.formed at-loop.loop-left.low 1 c.step_if_below.result at-loop.search_key-key.result (omega arith) at-loop.search_key-key.ensures c.step_if_below.ensures

pub returns-then-n-eq0 : goal.returns-then-n-eq0
returns-then-n-eq0 c =
    let args = c.args in
    omega (arith, place-within-in args.rows.now args.n args.m)

-- the last row stands before the place, so all do
pub returns-then-rows-n : goal.returns-then-rows-n
returns-then-rows-n c =
    let start = c.before.before.before.before in
    let args = start.args in
    let last = before-place-in args.rows.now args.n (args.n - 1) (omega arith) args.m start.requires.formed c.if-rows-n.true in
    omega (arith, last, place-within-in args.rows.now args.n args.m)

pub loop-left-init : goal.loop-left-init
loop-left-init c =
    let args = c.args in
    omega (arith, place-within-in args.rows.now args.n args.m)

pub step_if_below-low-requires-clause-below_top : goal.step_if_below-low-requires-clause-below_top
step_if_below-low-requires-clause-below_top c = row_small c.args.rows.now c.args.n c.args.m c.requires.formed (c.loop-left.low + c.loop-left.left / 2) (omega arith)

pub loop-left-preserved : goal.loop-left-preserved
loop-left-preserved c = ⊎_elim (λ w. omega arith) (λ w. omega arith) (turn c)

pub step_if_below-requires-clause-below_top : goal.step_if_below-requires-clause-below_top
step_if_below-requires-clause-below_top c = row_small c.args.rows.now c.args.n c.args.m c.requires.formed c.loop-left.low (omega arith)

pub returns : goal.returns
returns c = ⊎_elim (λ w. omega arith) (λ w. omega arith) (last c)
