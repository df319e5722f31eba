-- Calls on what was tested first: what the test says of the book and its cells, and what the call answers then.
use Prim.Native.Nat.{ℕ, zero, suc, ◌*◌, ◌≤◌}
use mathlib.Core.Path.{◌≡◌, refl, sym}
use mathlib.Core.Bool.{true}
use mathlib.Core.List.{List}
use lib.IntN.{ℤ}
use lib.ListN.{length}
use Rattle.std.specs.Prelude.{Ok, Err}
use Rattle.refusals.specs.declared.Refusal.{Refusal}
use Rattle.refusals.specs.Refusal.{number_of}
use Rattle.refusals.proofs.Numbers.{not-accepted}
use Rattle.words.proofs.Tests.{by-test}
use Rattle.book.specs.declared.Settings.{Settings}
use Rattle.book.specs.declared.Setting.{Setting}
use Rattle.book.specs.declared.Answer.{Answer}
use Rattle.book.specs.Settings.{setting_in_range, settings_formed}
use Rattle.book.specs.Rows.{Row, rows_of}
use Rattle.book.specs.Book.{lent, well_formed}
use Rattle.book.specs.Helpers.{setting_replaced, answer_of}
use Rattle.book.proofs.WellFormed.{formed-book, rows-ready, meters_within}
use Rattle.running.specs.Ready.{CellsReady}
use Rattle.running.specs.Running.{Running, running_of}
use Rattle.running.specs.Helpers.{lent_tested, RowsHeld}
use Rattle.running.proofs.TestedFirst.{LentWell, refused-first, passed-well}
use Rattle.calls.specs.declared.Call.{Call}
use Rattle.calls.specs.declared.Call.TheVariants.{Set}
use Rattle.calls.specs.Running.{running_made, running_outcome, running_cause, running_call, RunningGives}
use Rattle.calls.specs.Helpers.{keeps_cells, SetKept}
use Rattle.calls.proofs.InOrder.{rows-held, all-in-order}
use Rattle.calls.proofs.Answers.{gives-unlent, gives-set}
use Rattle.calls.proofs.SettingKept.{not-in-range, other-kept}

module _ (s : Settings) (words : List ℕ) (cells : List ℤ) where
  -- refused by the test
  pub tested-refused : (c : Call) (refusal : Refusal) → Err refusal ≡ lent_tested (running_of s words cells)
      → RunningGives (running_call (running_of s words cells) c) (record { number = number_of refusal; settings = s }) words cells
  tested-refused c refusal e = gives-unlent s words cells c refusal (refused-first (running_of s words cells) refusal (sym e))

  -- passed
  module _ (size : ℕ) (e : Ok size ≡ lent_tested (running_of s words cells)) where
    tested-well : LentWell (running_of s words cells) size
    tested-well = passed-well (running_of s words cells) (sym e)

    pub tested-ready : CellsReady cells size
    tested-ready = tested-well.ready

    pub tested-formed : well_formed (lent s words) ≡ true
    tested-formed = tested-well.formed

    pub tested-settings : settings_formed s ≡ true
    tested-settings = (formed-book (lent s words) tested-formed).settings-formed

    pub tested-within : 3 * s.meters ≤ length words
    tested-within = meters_within s words tested-formed

    module _ {listed : List Row} (same : listed ≡ rows_of s.meters words) where
      pub tested-rows : RowsHeld listed
      tested-rows = rw same (rows-held (rows-ready s words tested-formed))

      pub tested-set : (x : Setting) {a : Answer} {cells_after : List ℤ} → SetKept s listed cells x a cells_after
          → RunningGives (running_call (running_of s words cells) (Set x)) a words cells_after
      tested-set x kept = gives-set tested-well x (all-in-order (rows-ready s words tested-formed) same) kept

    -- a setting that no cell depends on
    pub tested-other : (x : Setting) → keeps_cells x ≡ true → RunningGives (running_call (running_of s words cells) (Set x)) (answer_of s (setting_replaced x s)) words cells
    unfolding setting_replaced
    tested-other x keeps =
        by-test (setting_in_range x)
        (λ t. rw t (tested-set refl x (other-kept x s (rows_of s.meters words) keeps tested-ready.within t refl)))
        (λ t. rw t (tested-set refl x (not-in-range x s (rows_of s.meters words) cells t)))

-- a refused call leaves the settings
refused-by-cause : (n : ℕ) (r made : Running) (refusal : Refusal) {s : Settings} {words : List ℕ} {cells : List ℤ}
    → RunningGives (running_outcome n made r) (record { number = number_of refusal; settings = s }) words cells
    → RunningGives (running_outcome n made r) (record { number = number_of refusal; settings = r.book.settings }) words cells
unfolding running_outcome
refused-by-cause zero r made refusal g = absurd (not-accepted refusal g.number)
refused-by-cause (suc n) r made refusal g = record { number = g.number; settings = refl; rows = g.rows; cells = g.cells }

pub refused-settings : (r : Running) (c : Call) (refusal : Refusal) {s : Settings} {words : List ℕ} {cells : List ℤ}
    → RunningGives (running_call r c) (record { number = number_of refusal; settings = s }) words cells
    → RunningGives (running_call r c) (record { number = number_of refusal; settings = r.book.settings }) words cells
unfolding running_call
refused-settings r c refusal g = refused-by-cause (running_cause r c) r (running_made r c) refusal g
