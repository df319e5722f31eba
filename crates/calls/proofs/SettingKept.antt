-- What replacing a setting leaves of the settings and of the cells: out of range; a setting that no cell depends on; and a shape, with which the cells are kept up.
use Prim.Native.Nat.{ℕ, zero, suc, ◌<◌}
use mathlib.Core.Path.{◌≡◌, refl, sym, ap, ◌∙◌}
use mathlib.Core.Bool.{true, false, true≢false, and-eq-true_iff}
use mathlib.Core.List.{List}
use borrow.Author.Tests.{ltb-true}
use lib.Dec.{ltb}
use lib.IntN.{ℤ, pos, ◌-ℤ◌}
use lib.ListN.{length}
use Rattle.std.specs.Prelude.{Result, Ok, Err}
use Rattle.refusals.specs.declared.Refusal.{Refusal}
use Rattle.refusals.specs.declared.Refusal.TheVariants.{ArgumentOutOfRange}
use Rattle.refusals.specs.Causes.{accepted}
use Rattle.refusals.specs.Refusal.{number_of, number_given}
use Rattle.refusals.proofs.Numbers.{not-accepted}
use Rattle.integers.proofs.Linear.{linear, minus}
use Rattle.book.specs.declared.Settings.{Settings}
use Rattle.book.specs.declared.Setting.{Setting}
use Rattle.book.specs.declared.Setting.TheVariants.{Shape, Weight, Tolerance, GroupTake}
use Rattle.book.specs.Limits.{categories}
use Rattle.book.specs.Settings.{is_shape, with_setting, setting_in_range, setting_cause, settings_formed}
use Rattle.book.specs.Rows.{Row}
use Rattle.book.proofs.WellFormed.{formed-settings}
use Rattle.running.specs.Words.{sum_in}
use Rattle.running.specs.Running.{with_change, within_limits, limit_cause}
use Rattle.running.specs.Helpers.{ShapesFormed, kept_by, KeepsUp, shape_change}
use Rattle.running.proofs.Changed.{changed-nothing}
use Rattle.calls.specs.Helpers.{keeps_cells, setting_change, set_by, SetKept}

-- shapes of well-formed settings, as cells are kept up with
pub shapes-formed : (s : Settings) → length s.shapes ≡ categories → settings_formed s ≡ true → ShapesFormed s.shapes
shapes-formed s long formed = record { long = long; formed = (formed-settings s formed).shapes-formed }

module _ (x : Setting) (s : Settings) where
  -- a setting is in range, or is refused for it
  range-cause : setting_in_range x ≡ true → setting_cause x ≡ accepted
  unfolding setting_cause
  range-cause e = rw e refl

  pub not-in-range : (meters : List Row) (cells : List ℤ) → setting_in_range x ≡ false → SetKept s meters cells x (record { number = number_of ArgumentOutOfRange; settings = s }) cells
  unfolding setting_cause limit_cause kept_by set_by
  not-in-range meters cells e = record { number = rw e refl; settings = refl; cells_are = refl }

  -- no cell depends on it
  module _ (meters : List Row) (keeps : keeps_cells x ≡ true) where
    change-none : (k : ℕ) → setting_change s meters x k ≡ pos 0
    unfolding setting_change with_setting
    change-none k = self-minus x keeps
      where
        none : (z : ℤ) → z -ℤ z ≡ pos 0
        none z = omega (linear, minus z z)

        self-minus : (y : Setting) → keeps_cells y ≡ true → sum_in (with_setting y s).shapes meters k -ℤ sum_in s.shapes meters k ≡ pos 0
        self-minus (Shape category wh) h = absurd (true≢false (sym h))
        self-minus (Weight class thousandths) h = none (sum_in s.shapes meters k)
        self-minus (Tolerance g) h = none (sum_in s.shapes meters k)
        self-minus (GroupTake wh) h = none (sum_in s.shapes meters k)

    pub other-kept : {cells : List ℤ} → within_limits cells ≡ true → setting_in_range x ≡ true → {made : Settings} → made ≡ with_setting x s
        → SetKept s meters cells x (record { number = accepted; settings = made }) cells
    unfolding limit_cause kept_by set_by
    other-kept {cells} within e is =
        let left = changed-nothing (setting_change s meters x) cells (λ k h. change-none k) in
        record { number = rw (range-cause e, left, within) refl; settings = is; cells_are = sym left }

-- a setting that is no shape is one of these
pub no-shape : (x : Setting) → ((category wh : ℕ) → x ≡ Shape category wh → ⊥) → keeps_cells x ≡ true
no-shape (Shape category wh) h = absurd (h category wh refl)
no-shape (Weight class thousandths) h = refl
no-shape (Tolerance g) h = refl
no-shape (GroupTake wh) h = refl

-- a shape
module _ (s : Settings) {x : Setting} (e : setting_in_range x ≡ true) {category wh : ℕ} (is : x ≡ Shape category wh) where
  shape-range : (category < categories) × (is_shape wh ≡ true)
  shape-range =
      let parts = (and-eq-true_iff (ltb category categories) (is_shape wh)).0 (sym (ap setting_in_range is) ∙ e) in
      (ltb-true category categories parts.0, parts.1)

  pub category-in : category < categories
  category-in = shape-range.0

  pub shape-in : is_shape wh ≡ true
  shape-in = shape-range.1

  module _ (meters : List Row) {cells cells_after : List ℤ} where
    shape-kept : {outcome : Result Unit Refusal} → KeepsUp (shape_change s.shapes category wh meters) cells outcome cells_after
        → (number_given outcome ≡ limit_cause (setting_cause x) (within_limits (with_change (setting_change s meters x) cells))) × (cells_after ≡ kept_by (number_given outcome) (setting_change s meters x) cells)
    unfolding setting_change with_setting
    shape-kept kept = rw (range-cause x s e, is) (kept.number, kept.cells_are)

    pub shape-kept-up : {u : Unit} {made : Settings} → KeepsUp (shape_change s.shapes category wh meters) cells (Ok u) cells_after → made ≡ with_setting x s
        → SetKept s meters cells x (record { number = accepted; settings = made }) cells_after
    unfolding set_by
    shape-kept-up kept made = let k = shape-kept kept in record { number = k.0; settings = made; cells_are = k.1 }

    pub shape-passes : {refusal : Refusal} → KeepsUp (shape_change s.shapes category wh meters) cells (Err refusal) cells_after
        → SetKept s meters cells x (record { number = number_of refusal; settings = s }) cells_after
    unfolding set_by
    shape-passes {refusal} kept = let k = shape-kept kept in record { number = k.0; settings = refused-set (number_of refusal) (not-accepted refusal); cells_are = k.1 }
      where
        refused-set : (n : ℕ) → (n ≡ accepted → ⊥) → s ≡ set_by n x s
        refused-set zero h = absurd (h refl)
        refused-set (suc n) h = refl
