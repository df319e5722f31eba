-- "What a list of calls means", read off the list itself and not by making the calls.
use Rattle.std.specs.Prelude.{ℕ, Bool, true, false, ◌&&◌, cond, List, [], ◌∷◌, ◌++◌, map, ltb, eqb, ℤ, length, get_or, take}
use Rattle.words.specs.declared.Registration.{Registration}
use Rattle.words.specs.declared.Reading.{Reading}
use Rattle.words.specs.Registration.{registration_word}
use Rattle.words.specs.Reading.{no_reading, issue_of, quality_allowed, reading_word}
use Rattle.book.specs.declared.Settings.{Settings}
use Rattle.book.specs.declared.Setting.{Setting}
use Rattle.book.specs.declared.Setting.TheVariants.{Shape, Weight, Tolerance, GroupTake}
use Rattle.book.specs.Limits.{classes, categories, take_flag_unset, take_flag_set}
use Rattle.book.specs.Settings.{fresh_settings, setting_in_range}
use Rattle.book.specs.Rows.{Row}
use Rattle.book.specs.Store.{register_in_range, reading_call_in_range}
use Rattle.calls.specs.declared.Call.{Call}
use Rattle.calls.specs.declared.Call.TheVariants.{Register, Record, Set}
use Rattle.cells.specs.Cells.{count_from}

-- lists: x alone if a test holds; what f takes from each entry, in order; the last entry, or d if there is none
module _ {A : Type 0} where
  unfoldable pub only : Bool → A → List A
  only true x = x ∷ []
  only false x = []

  unfoldable pub gather : {B : Type 0} → (B → List A) → List B → List A
  gather f [] = []
  gather f (x ∷ xs) = f x ++ gather f xs

  unfoldable pub last_or : A → List A → A
  last_or d [] = d
  last_or d (x ∷ xs) = last_or x xs

-- "its last in-range call": the setting that an in-range call sets
unfoldable pub setting_set : Call → List Setting
setting_set (Register m r) = []
setting_set (Record m r) = []
setting_set (Set x) = only (setting_in_range x) x

-- the settings that the in-range calls of a list set, in order
abbrev pub settings_set : List Call → List Setting
settings_set calls = gather setting_set calls

unfoldable pub weight_set : ℕ → Setting → List ℕ
weight_set class (Shape k wh) = []
weight_set class (Weight k thousandths) = only (eqb k class) thousandths
weight_set class (Tolerance g) = []
weight_set class (GroupTake wh) = []

unfoldable pub shape_set : ℕ → Setting → List ℕ
shape_set category (Shape k wh) = only (eqb k category) wh
shape_set category (Weight k thousandths) = []
shape_set category (Tolerance g) = []
shape_set category (GroupTake wh) = []

unfoldable pub tolerance_set : Setting → List ℕ
tolerance_set (Shape k wh) = []
tolerance_set (Weight k thousandths) = []
tolerance_set (Tolerance g) = g ∷ []
tolerance_set (GroupTake wh) = []

unfoldable pub take_given : Setting → List ℤ
take_given (Shape k wh) = []
take_given (Weight k thousandths) = []
take_given (Tolerance g) = []
take_given (GroupTake wh) = wh ∷ []

-- "A setting other than the number of meters is that of its last in-range call, or the fresh one if there is none"
unfoldable pub meant_weight : List Call → ℕ → ℕ
meant_weight calls class = last_or (get_or fresh_settings.weights class 0) (gather (weight_set class) (settings_set calls))

unfoldable pub meant_shape : List Call → ℕ → ℕ
meant_shape calls category = last_or (get_or fresh_settings.shapes category 0) (gather (shape_set category) (settings_set calls))

unfoldable pub meant_tolerance : List Call → ℕ
meant_tolerance calls = last_or fresh_settings.tolerance (gather tolerance_set (settings_set calls))

unfoldable pub meant_take : List Call → ℤ
meant_take calls = last_or fresh_settings.take_wh (gather take_given (settings_set calls))

-- whether a list has an entry
unfoldable pub is_any : {A : Type 0} → List A → Bool
is_any [] = false
is_any (x ∷ xs) = true

-- "with a flag that it is set": the flag of whether any call in range sets the Take
unfoldable pub meant_take_set : List Call → ℕ
meant_take_set calls = cond (is_any (gather take_given (settings_set calls))) take_flag_set take_flag_unset

-- "an in-range register call": the MPAN of one
unfoldable pub mpan_registered : Call → List ℕ
mpan_registered (Register m r) = only (register_in_range m r) m
mpan_registered (Record m r) = []
mpan_registered (Set x) = []

-- a list without the number x
unfoldable pub without : ℕ → List ℕ → List ℕ
without x [] = []
without x (y ∷ ys) = cond (eqb x y) (without x ys) (y ∷ without x ys)

-- "different": each number where it stands first
unfoldable pub different : List ℕ → List ℕ
different [] = []
different (x ∷ xs) = x ∷ without x (different xs)

-- "The meters [..] are the first different MPANs with an in-range register call, up to capacity"
unfoldable pub meant_mpans : ℕ → List Call → List ℕ
meant_mpans capacity calls = take capacity (different (gather mpan_registered calls))

-- "an in-range register call" of the meter m: its registration
unfoldable pub registration_set : ℕ → Call → List Registration
registration_set m (Register k r) = only (eqb k m && register_in_range k r) r
registration_set m (Record k r) = []
registration_set m (Set x) = []

-- "each has the word 1 of its last such call"
unfoldable pub meant_registration : List Call → ℕ → ℕ
meant_registration calls m = last_or 0 (map registration_word (gather (registration_set m) calls))

-- "those after its first such call": the calls after the first in-range register call of the meter m
unfoldable pub since_registered : ℕ → List Call → List Call
since_registered m [] = []
since_registered m (c ∷ calls) = cond (is_any (registration_set m c)) calls (since_registered m calls)

-- "free of causes 2 and 3": a reading of the meter m that is
unfoldable pub reading_free : ℕ → Call → List Reading
reading_free m (Register k r) = []
reading_free m (Record k r) = only (eqb k m && reading_call_in_range k r && quality_allowed r) r
reading_free m (Set x) = []

-- "Its reading, among those after its first such call and free of causes 2 and 3": those, in order
unfoldable pub counted_readings : List Call → ℕ → List Reading
counted_readings calls m = gather (reading_free m) (since_registered m calls)

-- "the one of highest issue, the earlier of equals", of a word and the best of the later ones
unfoldable pub higher_issue : ℕ → ℕ → ℕ
higher_issue word later = cond (ltb (issue_of word) (issue_of later)) later word

-- "if there are none, it has no reading"
unfoldable pub newest_reading : List Reading → ℕ
newest_reading [] = no_reading
newest_reading (r ∷ readings) = higher_issue (reading_word r) (newest_reading readings)

-- a meter as the list means it
unfoldable pub meant_meter : List Call → ℕ → Row
meant_meter calls m =
    record {
      mpan = m;
      registration = meant_registration calls m;
      reading = newest_reading (counted_readings calls m);
    }

-- the meters as the list means them, in order of first registration
unfoldable pub meant_meters : ℕ → List Call → List Row
meant_meters capacity calls = map (meant_meter calls) (meant_mpans capacity calls)

-- the settings as the list means them
unfoldable pub meant_settings : ℕ → List Call → Settings
meant_settings capacity calls =
    record {
      meters = length (meant_mpans capacity calls);
      weights = map (meant_weight calls) (count_from 0 classes);
      shapes = map (meant_shape calls) (count_from 0 categories);
      tolerance = meant_tolerance calls;
      take_set = meant_take_set calls;
      take_wh = meant_take calls;
    }
