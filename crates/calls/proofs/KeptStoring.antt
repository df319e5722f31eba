-- What storing leaves of rows that are kept up by running cells: refused for a cause of its own, and made, with the cells kept up or a limit passed.
use Prim.Native.Nat.{ℕ, zero, suc}
use mathlib.Core.Path.{◌≡◌, refl, sym, ap, ◌∙◌}
use mathlib.Core.Bool.{Bool, true}
use mathlib.Core.List.{List}
use lib.IntN.{ℤ, ◌+ℤ◌, ◌-ℤ◌}
use lib.ListN.{length}
use Rattle.std.specs.Prelude.{Option, Result, Ok, Err, IfOk}
use Rattle.refusals.specs.declared.Refusal.{Refusal}
use Rattle.refusals.specs.Causes.{accepted}
use Rattle.refusals.specs.Refusal.{number_of, number_given}
use Rattle.refusals.proofs.Numbers.{not-accepted}
use Rattle.integers.proofs.Linear.{linear, plus, minus}
use Rattle.book.specs.declared.Held.{Held}
use Rattle.book.specs.Rows.{Row, rows_of, rows_formed, with_registration, with_reading, written}
use Rattle.book.specs.Helpers.{held_in, Storing, RowsReady}
use Rattle.book.proofs.WellFormed.{room}
use Rattle.book.proofs.Written.{written_same}
use Rattle.cells.specs.Cells.{sum_over}
use Rattle.cells.specs.Helpers.{held_gives}
use Rattle.cells.proofs.Stored.{sum-registered, sum-recorded}
use Rattle.running.specs.Words.{word_in, sum_in}
use Rattle.running.specs.Running.{with_change, within_limits, limit_cause}
use Rattle.running.specs.Helpers.{kept_by, KeepsUp, meter_change, rows_change}
use Rattle.running.proofs.Changed.{changed-same}
use Rattle.calls.specs.Stores.{storing_kept, kept_storing, Stores}

-- a sum less another is what is taken away and added between them
change-between : (t u x y : ℤ) → t ≡ u -ℤ x +ℤ y → t -ℤ u ≡ y -ℤ x
change-between t u x y e = omega (linear, e, minus t u, minus y x, minus u x, plus (u -ℤ x) y)

-- storing changes the sums over the rows by what the meter held and holds
module _ (shapes : List ℕ) (m w : ℕ) (rows : List Row) {before after : Option Held} (b : held_in m rows ≡ before) where
  pub registered-change : (low : ℕ) → rows_formed low rows ≡ true → held_in m (with_registration m w rows) ≡ after
      → (k : ℕ) → rows_change shapes rows (with_registration m w rows) k ≡ meter_change shapes before after k
  unfolding sum_in
  registered-change low formed a k =
      let f = word_in shapes k in
      rw (← b, ← a)
      (change-between (sum_over f (with_registration m w rows)) (sum_over f rows) (held_gives f (held_in m rows)) (held_gives f (held_in m (with_registration m w rows)))
      (sum-registered f low m w rows formed))

  pub recorded-change : held_in m (with_reading m w rows) ≡ after → (k : ℕ) → rows_change shapes rows (with_reading m w rows) k ≡ meter_change shapes before after k
  unfolding sum_in
  recorded-change a k =
      let f = word_in shapes k in
      rw (← b, ← a)
      (change-between (sum_over f (with_reading m w rows)) (sum_over f rows) (held_gives f (held_in m rows)) (held_gives f (held_in m (with_reading m w rows)))
      (sum-recorded f m w rows))

-- a refusal leaves rows and cells
refused-kept : (n : ℕ) → (n ≡ accepted → ⊥) → (made given : List Row) (change : ℕ → ℤ) (cells : List ℤ)
    → storing_kept n made given change cells ≡ record { number = n; rows = given; cells = cells }
unfolding storing_kept
refused-kept zero h made given change cells = absurd (h refl)
refused-kept (suc n) h made given change cells = refl

pub cells-refused : (n : ℕ) → (n ≡ accepted → ⊥) → (change : ℕ → ℤ) (cells : List ℤ) → kept_by n change cells ≡ cells
unfolding kept_by
cells-refused zero h change cells = absurd (h refl)
cells-refused (suc n) h change cells = refl

-- no limit comes before a cause of its own
pub own-cause : (n : ℕ) → (n ≡ accepted → ⊥) → (within : Bool) → limit_cause n within ≡ n
unfolding limit_cause
own-cause zero h within = absurd (h refl)
own-cause (suc n) h within = refl

module _ (shapes : List ℕ) (cells : List ℤ) (given : List Row) where
  storing-refused : (refusal : Refusal)
      → kept_storing shapes cells given (record { number = number_of refusal; rows = given }) ≡ record { number = number_of refusal; rows = given; cells = cells }
  unfolding kept_storing
  storing-refused refusal =
      let h = not-accepted refusal in
      rw (own-cause (number_of refusal) h (within_limits (with_change (rows_change shapes given given) cells)))
      (refused-kept (number_of refusal) h given given (rows_change shapes given given) cells)

  -- what was made changes the sums by what the cells were kept up with
  module _ (made : List Row) {change : ℕ → ℤ} (same : (k : ℕ) → rows_change shapes given made k ≡ change k) where
    changed : with_change (rows_change shapes given made) cells ≡ with_change change cells
    changed = changed-same (rows_change shapes given made) cells change (λ k h. same k)

    cause-is : {after : List ℤ} {outcome : Result Unit Refusal} → KeepsUp change cells outcome after
        → limit_cause accepted (within_limits (with_change (rows_change shapes given made) cells)) ≡ number_given outcome
    cause-is kept = ap (λ (l : List ℤ). limit_cause accepted (within_limits l)) changed ∙ sym kept.number

    storing-made : {after : List ℤ} {u : Unit} → KeepsUp change cells (Ok u) after
        → kept_storing shapes cells given (record { number = accepted; rows = made }) ≡ record { number = accepted; rows = made; cells = after }
    unfolding kept_storing storing_kept kept_by
    storing-made {after} kept =
        ap (λ (n : ℕ). storing_kept n made given (rows_change shapes given made) cells) (cause-is kept)
        ∙ ap (λ (l : List ℤ). record { number = accepted; rows = made; cells = l }) (changed ∙ sym kept.cells_are)

    storing-passes : {after : List ℤ} {refusal : Refusal} → KeepsUp change cells (Err refusal) after
        → kept_storing shapes cells given (record { number = accepted; rows = made }) ≡ record { number = number_of refusal; rows = given; cells = after }
    unfolding kept_storing
    storing-passes {after} {refusal} kept =
        let h = not-accepted refusal in
        ap (λ (n : ℕ). storing_kept n made given (rows_change shapes given made) cells) (cause-is kept)
        ∙ refused-kept (number_of refusal) h made given (rows_change shapes given made) cells
        ∙ ap (λ (l : List ℤ). record { number = number_of refusal; rows = given; cells = l }) (sym (kept.cells_are ∙ cells-refused (number_of refusal) h change cells))

-- rows that storing makes, and the words and the change of the cells that go with them
pub record Makes (store : List Row → Storing) (shapes : List ℕ) (n : ℕ) (words : List ℕ) (change : ℕ → ℤ) (meters : ℕ) (words_after : List ℕ) : Type 0 where
  pub made : List Row
  pub stored : store (rows_of n words) ≡ record { number = accepted; rows = made }
  pub count : length made ≡ meters
  pub slice : written made words ≡ words_after
  pub change-is : (k : ℕ) → rows_change shapes (rows_of n words) made k ≡ change k

-- as the code stores in the first rows of a slice
module _ {store : List Row → Storing} {shapes : List ℕ} {n : ℕ} {words : List ℕ} {cells : List ℤ} where
  stores-as : {number : ℕ} {rows : List Row} {outcome : Result ℕ Refusal} {words_after : List ℕ} {cells_after : List ℤ}
      → kept_storing shapes cells (rows_of n words) (store (rows_of n words)) ≡ record { number = number; rows = rows; cells = cells_after }
      → number_given outcome ≡ number → IfOk outcome (λ (k : ℕ). k ≡ length rows) → words_after ≡ written rows words
      → Stores store shapes n words cells outcome words_after cells_after
  stores-as e number counted slice =
      record { number = rw e number; counted = rw e counted; slice = rw e slice; cells_are = rw e refl }

  module _ (ready : RowsReady n words) where
    -- a cause of its own
    pub keeps : {refusal : Refusal} → store (rows_of n words) ≡ record { number = number_of refusal; rows = rows_of n words } → Stores store shapes n words cells (Err refusal) words cells
    keeps {refusal} o =
        stores-as (rw o (storing-refused shapes cells (rows_of n words) refusal)) refl tt
        (sym (written_same n words (room words n ready.within-capacity)))

    module _ {change : ℕ → ℤ} {meters : ℕ} {words_after : List ℕ} (makes : Makes store shapes n words change meters words_after) {cells_after : List ℤ} where
      pub made-stores : {u : Unit} → KeepsUp change cells (Ok u) cells_after → Stores store shapes n words cells (Ok meters) words_after cells_after
      made-stores kept =
          stores-as (rw makes.stored (storing-made shapes cells (rows_of n words) makes.made makes.change-is kept)) refl (sym makes.count) (sym makes.slice)

      pub made-passes : {refusal : Refusal} → KeepsUp change cells (Err refusal) cells_after → Stores store shapes n words cells (Err refusal) words cells_after
      made-passes kept =
          stores-as (rw makes.stored (storing-passes shapes cells (rows_of n words) makes.made makes.change-is kept)) refl tt
          (sym (written_same n words (room words n ready.within-capacity)))
