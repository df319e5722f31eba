-- `keep_exchange` meets its contract: the tests of the numbers that would be changed and a bound of the sizes decide whether a limit is passed.
use mathlib.Core.Path.{◌≡◌, refl}
use Prim.Native.Nat.{ℕ, ◌+◌, ◌≤◌}
use Rattle.integers.specs.Sum.{sizes}
use lib.ListN.{take}
use lib.IntN.{ℤ}
use mathlib.Core.List.{List}
use Rattle.std.specs.Prelude.{Some}
use Rattle.running.specs.Words.{cell_words}
use Rattle.running.specs.Running.{sizes_most, with_change}
use native.Mathlib.Omega.{arith}
use Rattle.running.specs.Helpers.{entry_of, entry_change, Exchanges}
use Rattle.running.proofs.Near.{near-ready, ready-most}
use Rattle.running.proofs.Exchanges.{numbers-passed, still-ready, sizes-passed, sizes-within, kept, not-kept}
use Rattle.running.proofs.SizeAfter.{exchange-most}
use Rattle.running.proofs.meters.keep_exchange.Goals as goal
use Rattle.running.proofs.meters.keep_exchange.Goals.{then-most, else-most+in_ok-most}

pub numbers_fit_after-counts-requires-clause-near : goal.numbers_fit_after-counts-requires-clause-near
numbers_fit_after-counts-requires-clause-near c = near-ready c.args.cells.now c.requires.ready

pub numbers_fit_after-waiting-requires-clause-near : goal.numbers_fit_after-waiting-requires-clause-near
numbers_fit_after-waiting-requires-clause-near c = near-ready c.args.cells.now c.requires.ready

pub returns-then-not-counts-waiting : goal.returns-then-not-counts-waiting
returns-then-not-counts-waiting c =
    let old = c.entry_of-old in
    let new = c.entry_of-new in
    rw (← old.ensures.is, ← new.ensures.is)
    (not-kept (entry_change old.result new.result) c.args.cells.now refl
    (numbers-passed old.result new.result c.args.cells.now old.ensures.formed new.ensures.formed c.requires.ready c.numbers_fit_after-counts.ensures c.numbers_fit_after-waiting.ensures c.if-not-counts-waiting.true))

pub measure_after-requires-clause-ready : goal.measure_after-requires-clause-ready
measure_after-requires-clause-ready c = ready-most c.requires.ready

pub returns-in_err-most : goal.returns-in_err-most
returns-in_err-most c =
    let change = entry_change (entry_of c.args.shapes.now c.args.before) (entry_of c.args.shapes.now (Some c.args.after)) in
    not-kept change c.args.cells.now c.from_residual.ensures (sizes-passed (with_change change c.args.cells.now) c.in_err-most.ensures)

pub exchange-requires-clause-near : goal.exchange-requires-clause-near
exchange-requires-clause-near c = near-ready c.args.cells.now c.requires.ready

-- the slice after the exchange, by a bound of its sizes
module _ (c : goal.After-cells-1) where
  abbrev changed : List ℤ
  changed = with_change (entry_change c.entry_of-old.result c.entry_of-new.result) c.args.cells.now

  exchanged : (n : ℕ) → c.if-most.most ≡ n → sizes (take cell_words changed) ≤ n → sizes (take cell_words changed) ≤ sizes_most
      → Exchanges (entry_change (entry_of c.args.shapes.now c.args.before) (entry_of c.args.shapes.now (Some c.args.after))) c.args.cells.now (Some c.if-most.most) c.exchange.new.cells
  exchanged n e h k =
      let old = c.entry_of-old in
      let new = c.entry_of-new in
      rw (e, ← old.ensures.is, ← new.ensures.is)
      (kept (entry_change old.result new.result) c.args.cells.now n c.exchange.ensures
      (still-ready old.result new.result c.args.cells.now old.ensures.formed new.ensures.formed c.requires.ready c.numbers_fit_after-counts.ensures c.numbers_fit_after-waiting.ensures c.if-not-counts-waiting.false n h k))

pub returns : goal.returns
returns c =
    elim c.if-most.branch [
      | then-most w ↦
          let old = c.entry_of-old in
          let new = c.entry_of-new in
          let most = exchange-most c.args.cells.now old.result new.result c.requires.ready.long old.ensures.formed new.ensures.formed in
          exchanged c (c.args.most + 40000000000) w.most-is (omega (arith, most, c.requires.ready.size-most)) (omega (arith, most, c.requires.ready.size-most, w.if-most.true))
      | else-most+in_ok-most w ↦
          let m = sizes-within (changed c) (rw (c.entry_of-old.ensures.is, c.entry_of-new.ensures.is) w.in_ok-most.ensures) in
          exchanged c w.in_ok-most.most w.most-is m.0 m.1
    ]
