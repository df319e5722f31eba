-- A slice near its limits: one that was tested, and with words changed since.
use Prim.Native.Nat.{ℕ, suc, ◌≤◌, ◌<◌}
use mathlib.Core.Path.{ap}
use mathlib.Core.Bool.{Bool, true, false, cond}
use mathlib.Core.List.{List}
use native.Mathlib.Omega.{arith}
use borrow.Author.Tests.{ltb-true, ltb-false}
use lib.Dec.{eqb, ltb}
use lib.IntN.{ℤ, pos, nat_abs}
use lib.ListN.{get_or, take}
use lib.Seq.{get_or-take}
use Rattle.integers.proofs.Size.{size-plus}
use Rattle.integers.proofs.Sizes.{size-entry}
use Rattle.words.proofs.Tests.{by-test}
use Rattle.running.specs.Words.{cell_words, slice_words}
use Rattle.running.specs.Running.{sizes_most, with_change}
use Rattle.running.specs.Ready.{CellsReady}
use Rattle.running.specs.Helpers.{amount_at, amount_most, Near}
use Rattle.running.proofs.Changed.{changed-length, changed-at}
use Rattle.running.proofs.WithinLimits.{within-each, number_size}

pub amount-most : (word : ℕ) (amount : ℤ) (k : ℕ) → nat_abs (amount_at word amount k) ≤ nat_abs amount
unfolding amount_at
amount-most word amount k = by (eqb word k)
  where
    by : (t : Bool) → nat_abs (cond t amount (pos 0)) ≤ nat_abs amount
    by true = omega arith
    by false = omega arith

-- a slice that was tested passes no limit, whatever number is kept beside it
pub ready-most : {cells : List ℤ} {most : ℕ} → CellsReady cells most → CellsReady cells sizes_most
ready-most {cells} ready = record { long = ready.long; within = ready.within; size-most = (within-each cells ready.within).sizes-most }

module _ (cells : List ℤ) where
  pub near-ready : {size : ℕ} → CellsReady cells size → Near 0 cells
  near-ready ok =
      let w = within-each cells ok.within in
      record {
        long = ok.long;
        word-most =
            λ k h.
            by-test (ltb k cell_words)
            (λ t. omega (arith, w.sizes-most, size-entry (take cell_words cells) k, ap nat_abs (get_or-take cell_words cells k (pos 0) (ltb-true k cell_words t))))
            (λ t. omega (arith, number_size (get_or cells k (pos 0)) (w.number k (omega (arith, ltb-false k cell_words t)) h)));
      }

  pub near-more : (m n : ℕ) → m ≤ n → Near m cells → Near n cells
  near-more m n h near =
      record {
        long = near.long;
        word-most = λ k l. omega (arith, near.word-most k l);
      }

  pub near-one : (n word : ℕ) (amount : ℤ) → word < slice_words → nat_abs amount ≤ amount_most → Near n cells → Near (suc n) (with_change (amount_at word amount) cells)
  near-one n word amount h most near =
      let change = amount_at word amount in
      record {
        long = rw (changed-length change cells) near.long;
        word-most =
            λ k l.
            rw (changed-at change cells k l (omega (arith, near.long)))
            (omega (arith, near.word-most k l, size-plus (get_or cells k (pos 0)) (change k), amount-most word amount k));
      }
