-- A book is what a list of calls means: the statement, what it tells of the meters, and how it is kept by a refused call and by new rows.
use Prim.Native.Nat.{ℕ, ◌≤◌, ◌<◌}
use mathlib.Core.Path.{◌≡◌, refl, sym, ◌∙◌, ap}
use mathlib.Core.Bool.{true}
use mathlib.Core.List.{List, [], ◌∷◌, ◌++◌, map}
use lib.ListN.{length, length-map}
use Rattle.words.specs.Reading.{issue_of}
use Rattle.book.specs.Settings.{with_meters}
use Rattle.book.specs.Rows.{Row, capacity, rows_of, rows_formed, is_known, issue_held, written}
use Rattle.book.specs.Book.{Book, used_rows, well_formed, with_rows}
use Rattle.book.proofs.WellFormed.{room}
use Rattle.book.proofs.Written.{length-written, rows-of-written}
use Rattle.book.proofs.BookFormed.{capacity-same, rows-stored-formed}
use Rattle.calls.specs.declared.Call.{Call}
use Rattle.cells.proofs.Each.{each-mapped}
use Rattle.cells.proofs.Permuted.{Permuted, back, mapped, each-permuted, length-permuted}
use Rattle.meaning.specs.Meaning.{setting_set, meant_mpans, counted_readings, newest_reading, meant_meter, meant_meters, meant_settings}
use Rattle.meaning.specs.Moves.{is_in}
use Rattle.meaning.proofs.Lists.{in-permuted}
use Rattle.meaning.proofs.MeantSettings.{settings-kept}
use Rattle.meaning.proofs.Stored.{mpan_of, known_in, GivenBy, issue-given}

-- the book b, on a slice as long as `words`, is well formed and is what the list means
pub record Means (words : List ℕ) (b : Book) (calls : List Call) : Type 0 where
  pub formed : well_formed b ≡ true
  pub size : length b.rows ≡ length words
  pub settings-meant : b.settings ≡ meant_settings (capacity words) calls
  pub meters-meant : Permuted Row (used_rows b) (meant_meters (capacity words) calls)

mpans-of : (calls : List Call) (ks : List ℕ) → map mpan_of (map (meant_meter calls) ks) ≡ ks
unfolding meant_meter
mpans-of calls [] = refl
mpans-of calls (k ∷ ks) = ap (λ (l : List ℕ). k ∷ l) (mpans-of calls ks)

pub length-meters : (n : ℕ) (calls : List Call) → length (meant_meters n calls) ≡ length (meant_mpans n calls)
unfolding meant_meters
length-meters n calls = length-map (meant_mpans n calls) (meant_meter calls)

module _ (words : List ℕ) (b : Book) (calls : List Call) (means : Means words b calls) where
  -- a meter is in the book exactly if the list means it
  pub known-meant : (m : ℕ) → is_known m (used_rows b) ≡ is_in m (meant_mpans (capacity words) calls)
  unfolding meant_meters
  known-meant m =
      known_in m (used_rows b)
      ∙ in-permuted m (mapped mpan_of means.meters-meant)
      ∙ ap (is_in m) (mpans-of calls (meant_mpans (capacity words) calls))

  count-meant : b.settings.meters ≡ length (meant_mpans (capacity words) calls)
  unfolding meant_settings
  count-meant = ap (λ s. s.meters) means.settings-meant

  capacity-kept : capacity b.rows ≡ capacity words
  capacity-kept = capacity-same b.rows words means.size

  -- what the room in the book tells of the meters that the list means
  pub room-left : b.settings.meters < capacity b.rows → length (meant_mpans (capacity words) calls) < capacity words
  room-left h = rw (count-meant, capacity-kept) at h

  pub no-room-left : capacity b.rows ≤ b.settings.meters → capacity words ≤ length (meant_mpans (capacity words) calls)
  no-room-left h = rw (count-meant, capacity-kept) at h

  -- the issue that a known meter holds is that of the reading it is meant to have
  pub issue-meant : (m : ℕ) → is_known m (used_rows b) ≡ true → issue_held m (used_rows b) ≡ issue_of (newest_reading (counted_readings calls m))
  unfolding meant_meters meant_meter
  issue-meant m h =
      let each = each-mapped {P = GivenBy (meant_meter calls)} (meant_meter calls) (λ k. record { same = refl }) (meant_mpans (capacity words) calls) in
      issue-given (meant_meter calls) m (used_rows b) (each-permuted (back means.meters-meant) each) h

  module _ (c : Call) (no-setting : setting_set c ≡ []) where
    -- a call after which the list means the same meters
    pub refused-means : meant_mpans (capacity words) (calls ++ c ∷ []) ≡ meant_mpans (capacity words) calls → meant_meters (capacity words) (calls ++ c ∷ []) ≡ meant_meters (capacity words) calls → Means words b (calls ++ c ∷ [])
    unfolding meant_settings
    refused-means mpans meters =
        let settings : meant_settings (capacity words) (calls ++ c ∷ []) ≡ meant_settings (capacity words) calls =
        settings-kept (capacity words) calls c no-setting ∙ ap (λ (l : List ℕ). with_meters (length l) (meant_settings (capacity words) calls)) mpans
        in
        record {
          formed = means.formed;
          size = means.size;
          settings-meant = means.settings-meant ∙ sym settings;
          meters-meant = rw meters means.meters-meant;
        }

    -- a call that leaves the meters that the list then means
    pub rows-means : (rows : List Row) → rows_formed 0 rows ≡ true → length rows ≤ capacity b.rows → Permuted Row rows (meant_meters (capacity words) (calls ++ c ∷ [])) → Means words (with_rows rows b) (calls ++ c ∷ [])
    unfolding used_rows
    rows-means rows formed fits meters =
        let back-again : rows_of (length rows) (written rows b.rows) ≡ rows = rows-of-written (length rows) rows b.rows refl in
        let count : length rows ≡ length (meant_mpans (capacity words) (calls ++ c ∷ [])) = length-permuted meters ∙ length-meters (capacity words) (calls ++ c ∷ []) in
        record {
          formed = rows-stored-formed b means.formed rows formed fits;
          size = length-written rows b.rows (room b.rows (length rows) fits) ∙ means.size;
          settings-meant =
              ap (with_meters (length rows)) means.settings-meant
              ∙ ap (λ (n : ℕ). with_meters n (meant_settings (capacity words) calls)) count
              ∙ sym (settings-kept (capacity words) calls c no-setting);
          meters-meant = rw back-again meters;
        }
