-- What a list means for a meter, with one more call at its end: a register call gives the meter its word 1, a reading that counts may become its reading, and no call bears on another meter.
use Prim.Native.Nat.{ℕ}
use mathlib.Core.Path.{◌≡◌, refl, sym, ◌∙◌, ap, fun_ext}
use mathlib.Core.Bool.{true, false, ◌&&◌, and-false, and_assoc, and-eq-true_iff, true≢false}
use mathlib.Core.List.{List, [], ◌∷◌, ◌++◌, map, map-append}
use borrow.Author.Tests.{eqb-true, eq-eqb}
use lib.Dec.{eqb}
use Rattle.words.specs.declared.Registration.{Registration}
use Rattle.words.specs.declared.Reading.{Reading}
use Rattle.words.specs.Mpan.{is_mpan}
use Rattle.words.specs.Registration.{registration_word}
use Rattle.words.specs.Reading.{reading_word, reading_in_range, quality_allowed}
use Rattle.words.proofs.Tests.{by-test}
use Rattle.book.specs.declared.Setting.{Setting}
use Rattle.book.specs.Rows.{Row}
use Rattle.book.specs.Helpers.{row}
use Rattle.book.specs.Store.{register_in_range, reading_call_in_range}
use Rattle.calls.specs.declared.Call.{Call}
use Rattle.calls.specs.declared.Call.TheVariants.{Register, Record, Set}
use Rattle.meaning.specs.Meaning.{only, gather, registration_set, meant_registration, reading_free, counted_readings, higher_issue, newest_reading, mpan_registered, meant_mpans, meant_meter, meant_meters}
use Rattle.meaning.specs.Moves.{is_in}
use Rattle.meaning.proofs.Lists.{gather-end, gather-nothing, last_end, map_same}
use Rattle.meaning.proofs.Counted.{is_registered, counted-end, counted-kept}
use Rattle.meaning.proofs.Newest.{newest-end}
use Rattle.meaning.proofs.MeantSettings.{mpans-kept}

module _ (calls : List Call) (c : Call) (k : ℕ) where
  registration-kept : registration_set k c ≡ [] → meant_registration (calls ++ c ∷ []) k ≡ meant_registration calls k
  unfolding meant_registration
  registration-kept h = rw (gather-nothing (registration_set k) calls c h)

  registration-last : (r : Registration) → registration_set k c ≡ r ∷ [] → meant_registration (calls ++ c ∷ []) k ≡ registration_word r
  unfolding meant_registration
  registration-last r h =
      rw (gather-end (registration_set k) calls c, h, map-append registration_word (gather (registration_set k) calls) (r ∷ []))
      (last_end 0 (map registration_word (gather (registration_set k) calls)) (registration_word r))

  reading-kept : reading_free k c ≡ [] → newest_reading (counted_readings (calls ++ c ∷ []) k) ≡ newest_reading (counted_readings calls k)
  reading-kept h = rw (counted-kept k calls c h)

  -- a call that does not bear on the meter
  pub meter-kept : registration_set k c ≡ [] → reading_free k c ≡ [] → meant_meter (calls ++ c ∷ []) k ≡ meant_meter calls k
  unfolding meant_meter
  meter-kept h f = rw (registration-kept h, reading-kept f)

-- a call of another meter
pub registered-other : (calls : List Call) (m : ℕ) (r : Registration) (k : ℕ) → eqb m k ≡ false → meant_meter (calls ++ Register m r ∷ []) k ≡ meant_meter calls k
unfolding registration_set reading_free only
registered-other calls m r k h = meter-kept calls (Register m r) k (rw h) refl

pub read-other : (calls : List Call) (m : ℕ) (r : Reading) (k : ℕ) → eqb m k ≡ false → meant_meter (calls ++ Record m r ∷ []) k ≡ meant_meter calls k
unfolding registration_set reading_free only
read-other calls m r k h = meter-kept calls (Record m r) k refl (rw h)

-- a call that sets a setting, and calls refused for their arguments
pub set-kept : (calls : List Call) (x : Setting) (k : ℕ) → meant_meter (calls ++ Set x ∷ []) k ≡ meant_meter calls k
unfolding registration_set reading_free
set-kept calls x k = meter-kept calls (Set x) k refl refl

pub registration-refused : (calls : List Call) (m : ℕ) (r : Registration) (k : ℕ) → register_in_range m r ≡ false → meant_meter (calls ++ Register m r ∷ []) k ≡ meant_meter calls k
unfolding registration_set reading_free only
registration-refused calls m r k h = meter-kept calls (Register m r) k (rw (h, and-false (eqb m k))) refl

pub reading-refused : (calls : List Call) (m : ℕ) (r : Reading) (k : ℕ) → (reading_call_in_range m r && quality_allowed r) ≡ false → meant_meter (calls ++ Record m r ∷ []) k ≡ meant_meter calls k
unfolding registration_set reading_free only
reading-refused calls m r k h = meter-kept calls (Record m r) k refl (rw (and_assoc (eqb m k) (reading_call_in_range m r) (quality_allowed r), h, and-false (eqb m k)))

-- a register call in range gives the meter its word 1, and it keeps its reading
pub registered-itself : (calls : List Call) (m : ℕ) (r : Registration) → register_in_range m r ≡ true → meant_meter (calls ++ Register m r ∷ []) m ≡ row m (registration_word r) (newest_reading (counted_readings calls m))
unfolding meant_meter registration_set reading_free only
registered-itself calls m r h =
    let c = Register m r in
    let same = eq-eqb m m refl in
    rw (registration-last calls c m r (rw (same, h)), reading-kept calls c m refl)

-- a reading that counts becomes the meter's reading if its issue is above that of the one it has
pub read-itself : (calls : List Call) (m : ℕ) (r : Reading) → reading_call_in_range m r ≡ true → quality_allowed r ≡ true → is_registered m calls ≡ true → meant_meter (calls ++ Record m r ∷ []) m ≡ row m (meant_registration calls m) (higher_issue (newest_reading (counted_readings calls m)) (reading_word r))
unfolding meant_meter registration_set reading_free only
read-itself calls m r range quality known =
    let c = Record m r in
    let same = eq-eqb m m refl in
    let free : reading_free m c ≡ r ∷ [] = rw (same, range, quality) in
    let in-range = ((and-eq-true_iff (is_mpan m) (reading_in_range r)).0 range).1 in
    rw (registration-kept calls c m refl, counted-end m calls c known, free, newest-end r in-range (counted_readings calls m))

-- a call of a meter that is not among some others leaves them as they are
module _ (calls : List Call) (m : ℕ) (ks : List ℕ) (absent : is_in m ks ≡ false) where
  apart_from : (k : ℕ) → is_in k ks ≡ true → eqb m k ≡ false
  apart_from k i =
      by-test (eqb m k)
      (λ e. absurd (true≢false (sym i ∙ rw (eqb-true m k e) at absent)))
      (λ e. e)

  pub others-registered : (r : Registration) → map (meant_meter (calls ++ Register m r ∷ [])) ks ≡ map (meant_meter calls) ks
  others-registered r = map_same (meant_meter (calls ++ Register m r ∷ [])) (meant_meter calls) ks (λ k i. registered-other calls m r k (apart_from k i))

  pub others-read : (r : Reading) → map (meant_meter (calls ++ Record m r ∷ [])) ks ≡ map (meant_meter calls) ks
  others-read r = map_same (meant_meter (calls ++ Record m r ∷ [])) (meant_meter calls) ks (λ k i. read-other calls m r k (apart_from k i))

-- the meters that a list means, after a call that registers no MPAN and does not bear on any meter
pub meters-kept : (n : ℕ) (calls : List Call) (c : Call) → mpan_registered c ≡ [] → ((k : ℕ) → meant_meter (calls ++ c ∷ []) k ≡ meant_meter calls k) → meant_meters n (calls ++ c ∷ []) ≡ meant_meters n calls
unfolding meant_meters
meters-kept n calls c h k = rw (mpans-kept n calls c h) (ap (λ (f : ℕ → Row). map f (meant_mpans n calls)) (fun_ext k))
