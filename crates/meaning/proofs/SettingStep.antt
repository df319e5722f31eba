-- A call that sets a setting, made on a book that is what a list means, leaves the book that the list with this call means.
use Prim.Native.Nat.{ℕ}
use mathlib.Core.Path.{◌≡◌, refl, sym, ◌∙◌, ap}
use mathlib.Core.Bool.{true, false}
use mathlib.Core.List.{List, [], ◌∷◌, ◌++◌}
use Rattle.words.proofs.Tests.{by-test}
use Rattle.book.specs.declared.Setting.{Setting}
use Rattle.book.specs.Rows.{capacity}
use Rattle.book.specs.Book.{Book, used_rows}
use Rattle.book.specs.Settings.{setting_in_range, with_setting, setting_cause}
use Rattle.book.proofs.BookFormed.{count_kept, set-formed}
use Rattle.calls.specs.declared.Call.{Call}
use Rattle.calls.specs.declared.Call.TheVariants.{Set}
use Rattle.calls.specs.Calls.{outcome, cause_after_test, call_cause, book_made, call_outcome}
use Rattle.meaning.specs.Meaning.{only, setting_set, mpan_registered}
use Rattle.meaning.proofs.MeantSettings.{mpans-kept, settings-set}
use Rattle.meaning.proofs.MeantMeters.{meters-kept, set-kept}
use Rattle.meaning.proofs.Means.{Means, refused-means}

module _ (words : List ℕ) (b : Book) (calls : List Call) (means : Means words b calls) (x : Setting) where
  setting-out-of-range : setting_in_range x ≡ false → Means words (call_outcome b (Set x)).book (calls ++ Set x ∷ [])
  unfolding call_outcome call_cause cause_after_test setting_cause book_made outcome setting_set mpan_registered only
  setting-out-of-range h =
      rw (means.formed, h)
      (refused-means words b calls means (Set x) (rw h)
      (mpans-kept (capacity words) calls (Set x) refl)
      (meters-kept (capacity words) calls (Set x) refl (set-kept calls x)))

  setting-made : setting_in_range x ≡ true → Means words (call_outcome b (Set x)).book (calls ++ Set x ∷ [])
  unfolding call_outcome call_cause cause_after_test setting_cause book_made outcome mpan_registered used_rows
  setting-made h =
      rw (means.formed, h)
      (record {
        formed = set-formed b means.formed x h;
        size = means.size;
        settings-meant = ap (with_setting x) means.settings-meant ∙ sym (settings-set (capacity words) calls x h);
        meters-meant = rw (count_kept x b.settings, meters-kept (capacity words) calls (Set x) refl (set-kept calls x)) means.meters-meant;
      })

  pub setting-step : Means words (call_outcome b (Set x)).book (calls ++ Set x ∷ [])
  setting-step = by-test (setting_in_range x) setting-made setting-out-of-range
