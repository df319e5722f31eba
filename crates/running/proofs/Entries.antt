-- What a meter adds to each word of the slice, as an entry: two cells of its unit, one count, and the number of its category.
use Prim.Native.Nat.{ℕ, ◌+◌, ◌-◌, ◌≤◌, ◌<◌}
use mathlib.Core.Path.{◌≡◌, refl, sym, ◌∙◌, ap₂}
use mathlib.Core.Bool.{Bool, true, false, cond}
use mathlib.Core.List.{List}
use native.Mathlib.Omega.{arith}
use borrow.Author.Tests.{eqb-true, eq-eqb, ltb-true, ltb-false}
use lib.Dec.{lit<, eqb, ltb}
use lib.IntN.{ℤ, pos, nat_abs, ◌+ℤ◌, ◌-ℤ◌, +ℤ_idl, +ℤ_idr}
use Rattle.std.specs.Prelude.{Option, Some, None}
use Rattle.words.specs.Limits.{mpan_least}
use Rattle.words.specs.Mpan.{is_mpan}
use Rattle.words.specs.Registration.{category_of}
use Rattle.words.proofs.Tests.{by-test, same_test}
use Rattle.words.proofs.RegistrationWord.{unit-bound}
use Rattle.book.specs.declared.Held.{Held}
use Rattle.book.specs.Helpers.{row}
use Rattle.cells.specs.declared.Source.{Source}
use Rattle.cells.specs.declared.Source.TheVariants.{Actual, Estimated, Defaulted, Idle}
use Rattle.cells.specs.Energy.{source_number, source_of}
use Rattle.cells.specs.Helpers.{held_gives}
use Rattle.cells.proofs.RowBounds.{RowBounds, row-bounds, class-even}
use Rattle.running.specs.declared.meters.Entry.{Entry}
use Rattle.running.specs.Words.{cell_words, waiting_words, count_in, waiting_in, word_in}
use Rattle.running.specs.Helpers.{entry_of, amount_at, entry_gives, entry_change, meter_change, cells_give, HeldFormed, BeforeFormed, ShapesFormed, EntryFormed}
use Rattle.running.specs.Running.{with_change}
use Rattle.running.proofs.Changed.{changed-same, at_other}
use Rattle.running.proofs.CellWords.{cell-word}

-- a word that is so many after another
word_after : (from i k : ℕ) → from ≤ k → eqb (from + i) k ≡ eqb i (k - from)
word_after from i k h =
    same_test (eqb (from + i) k) (eqb i (k - from))
    (λ t. eq-eqb i (k - from) (omega (arith, eqb-true (from + i) k t)))
    (λ t. eq-eqb (from + i) k (omega (arith, eqb-true i (k - from) t)))

-- what an entry adds to a cell, to a count, and to a number of a category
module _ (e : Entry) (formed : EntryFormed e) (k : ℕ) where
  pub gives-cell : k < cell_words → entry_gives e k ≡ amount_at e.at e.thousandths k +ℤ amount_at (e.at + 1) e.loss k
  unfolding entry_gives
  gives-cell h =
      rw (
        at_other e.meters e.count k (λ q. omega (arith, formed.count-above)),
        at_other e.waiting e.category k (λ q. omega (arith, formed.category-above)),
      )
      (+ℤ_idr (amount_at e.at e.thousandths k +ℤ amount_at (e.at + 1) e.loss k))

  none-in-cells : cell_words ≤ k → amount_at e.at e.thousandths k +ℤ amount_at (e.at + 1) e.loss k ≡ pos 0
  none-in-cells h =
      rw (
        at_other e.thousandths e.at k (λ q. omega (arith, formed.at_bound)),
        at_other e.loss (e.at + 1) k (λ q. omega (arith, formed.at_bound)),
      )
      refl

  pub gives-count : cell_words ≤ k → k < waiting_words → entry_gives e k ≡ amount_at e.count e.meters k
  unfolding entry_gives
  gives-count h l =
      rw (none-in-cells h, at_other e.waiting e.category k (λ q. omega (arith, formed.category-above)))
      (+ℤ_idl (amount_at e.count e.meters k +ℤ pos 0) ∙ +ℤ_idr (amount_at e.count e.meters k))

  pub gives-waiting : waiting_words ≤ k → entry_gives e k ≡ amount_at e.category e.waiting k
  unfolding entry_gives
  gives-waiting h =
      rw (none-in-cells (omega arith), at_other e.meters e.count k (λ q. omega (arith, formed.count-bound)))
      (+ℤ_idl (pos 0 +ℤ amount_at e.category e.waiting k) ∙ +ℤ_idl (amount_at e.category e.waiting k))

-- what a meter without a row adds: nothing
nothing-at : (word k : ℕ) → amount_at word (pos 0) k ≡ pos 0
unfolding amount_at
nothing-at word k = by (eqb word k)
  where
    by : (t : Bool) → cond t (pos 0) (pos 0) ≡ pos 0
    by true = refl
    by false = refl

one-most : (t : Bool) → nat_abs (cond t (pos 1) (pos 0)) ≤ 1
one-most true = omega arith
one-most false = omega arith

number-bound : (x : Source) → source_number x < 4
number-bound Actual = omega arith
number-bound Estimated = omega arith
number-bound Defaulted = omega arith
number-bound Idle = omega arith

-- the entry of a meter of a well-formed book, or of one without a row: its bounds, and what it adds
module _ (shapes : List ℕ) (ok : ShapesFormed shapes) where
  -- no bound depends on the MPAN, so any stands for it
  pub held-bounds : (held : Held) → HeldFormed held → RowBounds shapes (row mpan_least held.registration held.reading)
  unfolding is_mpan
  held-bounds held h =
      row-bounds shapes ok.formed (row mpan_least held.registration held.reading)
      (record { mpan-formed = refl; registration-formed = h.registered; reading-formed = h.read })

  pub entry-formed : (held : Option Held) → BeforeFormed held → EntryFormed (entry_of shapes held)
  unfolding entry_of
  entry-formed None h =
      record {
        at-even = refl;
        at_bound = lit< tt;
        thousandths-bound = omega arith;
        loss-bound = omega arith;
        count-above = omega arith;
        count-bound = omega arith;
        meters-bound = omega arith;
        category-above = omega arith;
        category-bound = omega arith;
        waiting-bound = omega arith;
      }
  entry-formed (Some held) h =
      let bounds = held-bounds held h in
      let source = source_of held.registration held.reading in
      record {
        at-even = omega (arith, class-even held.registration held.reading);
        at_bound = omega (arith, bounds.class, unit-bound held.registration);
        thousandths-bound = omega (arith, bounds.energy);
        loss-bound = omega (arith, bounds.loss, bounds.energy);
        count-above = omega arith;
        count-bound = omega (arith, number-bound source);
        meters-bound = omega arith;
        category-above = omega arith;
        category-bound = omega arith;
        waiting-bound = omega (arith, one-most (eqb (source_number source) (source_number Defaulted)));
      }

  module _ (held : Held) (h : HeldFormed held) (k : ℕ) where
    abbrev e : Entry
    e = entry_of shapes (Some held)

    abbrev word : ℤ
    word = word_in shapes k held.registration held.reading

    in_cells : k < cell_words → word ≡ amount_at e.at e.thousandths k +ℤ amount_at (e.at + 1) e.loss k
    unfolding entry_of cells_give
    in_cells l = cell-word shapes held.registration held.reading (held-bounds held h).class k l

    in-counts : ltb k cell_words ≡ false → ltb k waiting_words ≡ true → cell_words ≤ k → word ≡ amount_at e.count e.meters k
    unfolding entry_of word_in count_in amount_at
    in-counts t u l = rw (t, u, word_after cell_words (source_number (source_of held.registration held.reading)) k l)

    in-waiting : ltb k cell_words ≡ false → ltb k waiting_words ≡ false → waiting_words ≤ k → word ≡ amount_at e.category e.waiting k
    unfolding entry_of word_in count_in waiting_in amount_at
    in-waiting t u l = rw (t, u, word_after waiting_words (category_of held.registration) k l)

    held-word : word ≡ entry_gives e k
    held-word =
        let formed = entry-formed (Some held) h in
        by-test (ltb k cell_words)
        (λ t. let l = ltb-true k cell_words t in in_cells l ∙ sym (gives-cell e formed k l))
        (λ t.
        let l = ltb-false k cell_words t in
        by-test (ltb k waiting_words)
        (λ u. in-counts t u l ∙ sym (gives-count e formed k l (ltb-true k waiting_words u)))
        (λ u. let m = ltb-false k waiting_words u in in-waiting t u m ∙ sym (gives-waiting e formed k m)))

  none-gives : (k : ℕ) → pos 0 ≡ entry_gives (entry_of shapes None) k
  unfolding entry_gives entry_of
  none-gives k = sym (ap₂ ◌+ℤ◌ (ap₂ ◌+ℤ◌ (nothing-at 0 k) (nothing-at 1 k)) (ap₂ ◌+ℤ◌ (nothing-at cell_words k) (nothing-at waiting_words k)))

  held-gives : (held : Option Held) → BeforeFormed held → (k : ℕ) → held_gives (word_in shapes k) held ≡ entry_gives (entry_of shapes held) k
  unfolding held_gives
  held-gives None h k = none-gives k
  held-gives (Some held) h k = held-word held h k

  -- one meter's entries exchanged make the change of the meter
  pub meter-changed : (before : Option Held) (after : Held) → BeforeFormed before → HeldFormed after → {old new : Entry} → old ≡ entry_of shapes before → new ≡ entry_of shapes (Some after)
      → (cells : List ℤ) → with_change (entry_change old new) cells ≡ with_change (meter_change shapes before (Some after)) cells
  meter-changed before after f g {old} {new} p q cells =
      rw (p, q)
      (changed-same (entry_change (entry_of shapes before) (entry_of shapes (Some after))) cells (meter_change shapes before (Some after))
      (λ k h. sym (ap₂ ◌-ℤ◌ (held-gives (Some after) g k) (held-gives before f k))))
