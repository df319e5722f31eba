-- A fresh book is well formed; a setting in range, and well-formed rows within capacity, leave a well-formed book well formed.
use Prim.Native.Nat.{ℕ, ◌≤◌, zero-le}
use mathlib.Core.Path.{◌≡◌, refl}
use mathlib.Core.Bool.{true, and-eq-true_iff}
use mathlib.Core.List.{List}
use lib.Dec.{ltb}
use lib.ListN.{length}
use Rattle.book.specs.declared.Settings.{Settings}
use Rattle.book.specs.declared.Setting.{Setting}
use Rattle.book.specs.declared.Setting.TheVariants.{Shape, Weight, Tolerance, GroupTake}
use Rattle.book.specs.Limits.{classes, categories}
use Rattle.book.specs.Settings.{is_weight, is_shape, take_formed, fresh_settings, settings_formed, setting_in_range, with_setting, with_meters}
use Rattle.book.specs.Rows.{Row, capacity, rows_of, rows_formed, written}
use Rattle.book.specs.Book.{Book, fresh_book, used_rows, well_formed, with_rows}
use Rattle.book.proofs.AllOf.{all_set}
use Rattle.book.proofs.Rising.{formed-none}
use Rattle.book.proofs.WellFormed.{room, FormedBook, formed-book, book-formed, formed-settings, settings-formed}
use Rattle.book.proofs.Written.{length-written, rows-of-written}

-- a setting in range replaced
setting-formed : (x : Setting) (s : Settings) → setting_in_range x ≡ true → settings_formed s ≡ true → settings_formed (with_setting x s) ≡ true
unfolding with_setting take_formed
setting-formed (Shape k wh) s h f =
    let p = formed-settings s f in
    let wh-formed = ((and-eq-true_iff (ltb k categories) (is_shape wh)).0 h).1 in
    settings-formed (with_setting (Shape k wh) s)
    (record {
      weights-formed = p.weights-formed;
      shapes-formed = all_set is_shape s.shapes k wh p.shapes-formed wh-formed;
      tolerance-formed = p.tolerance-formed;
      take-formed = p.take-formed;
    })
setting-formed (Weight k thousandths) s h f =
    let p = formed-settings s f in
    let thousandths-formed = ((and-eq-true_iff (ltb k classes) (is_weight thousandths)).0 h).1 in
    settings-formed (with_setting (Weight k thousandths) s)
    (record {
      weights-formed = all_set is_weight s.weights k thousandths p.weights-formed thousandths-formed;
      shapes-formed = p.shapes-formed;
      tolerance-formed = p.tolerance-formed;
      take-formed = p.take-formed;
    })
setting-formed (Tolerance g) s h f =
    let p = formed-settings s f in
    settings-formed (with_setting (Tolerance g) s)
    (record { weights-formed = p.weights-formed; shapes-formed = p.shapes-formed; tolerance-formed = h; take-formed = p.take-formed })
setting-formed (GroupTake wh) s h f =
    let p = formed-settings s f in
    settings-formed (with_setting (GroupTake wh) s)
    (record { weights-formed = p.weights-formed; shapes-formed = p.shapes-formed; tolerance-formed = p.tolerance-formed; take-formed = h })

-- another number of meters
pub meters-formed : (n : ℕ) (s : Settings) → settings_formed s ≡ true → settings_formed (with_meters n s) ≡ true
unfolding settings_formed
meters-formed n s f = f

pub fresh-formed : settings_formed fresh_settings ≡ true
unfolding settings_formed take_formed
fresh-formed = refl

-- "it starts from the fresh settings and that slice, whatever its length and words"
pub fresh-book-formed : (words : List ℕ) → well_formed (fresh_book words) ≡ true
unfolding used_rows rows_of
fresh-book-formed words = book-formed (fresh_book words) (record { within = zero-le; settings-formed = fresh-formed; rows-formed = formed-none 0 })

pub capacity-same : (words more : List ℕ) → length words ≡ length more → capacity words ≡ capacity more
unfolding capacity
capacity-same words more h = rw h

pub count_kept : (x : Setting) (s : Settings) → (with_setting x s).meters ≡ s.meters
unfolding with_setting
count_kept (Shape k wh) s = refl
count_kept (Weight k thousandths) s = refl
count_kept (Tolerance g) s = refl
count_kept (GroupTake wh) s = refl

module _ (b : Book) (wf : well_formed b ≡ true) where
  -- the book with a setting in range replaced
  pub set-formed : (x : Setting) → setting_in_range x ≡ true → well_formed (record { settings = with_setting x b.settings; rows = b.rows }) ≡ true
  unfolding used_rows
  set-formed x h =
      let before = formed-book b wf in
      let count = count_kept x b.settings in
      let made : Book = record { settings = with_setting x b.settings; rows = b.rows } in
      let whole : FormedBook made =
      record {
        within = rw count before.within;
        settings-formed = setting-formed x b.settings h before.settings-formed;
        rows-formed = rw count before.rows-formed;
      }
      in
      book-formed made whole

  -- the book with other rows in use
  pub rows-stored-formed : (rows : List Row) → rows_formed 0 rows ≡ true → length rows ≤ capacity b.rows → well_formed (with_rows rows b) ≡ true
  unfolding used_rows
  rows-stored-formed rows formed fits =
      let long = length-written rows b.rows (room b.rows (length rows) fits) in
      let whole : FormedBook (with_rows rows b) =
      record {
        within = rw (capacity-same (written rows b.rows) b.rows long) fits;
        settings-formed = meters-formed (length rows) b.settings (formed-book b wf).settings-formed;
        rows-formed = rw (rows-of-written (length rows) rows b.rows refl) formed;
      }
      in
      book-formed (with_rows rows b) whole
