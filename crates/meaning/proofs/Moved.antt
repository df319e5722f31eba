-- Lists that differ only in where their reading calls stand, and keep the earliest reading of each issue, mean the same settings and the same meters. The calls other than readings give the settings, the MPANs and the registrations; the earliest reading of each issue gives the newest reading.
use Prim.Native.Nat.{ℕ}
use mathlib.Core.Path.{◌≡◌, refl, sym, ◌∙◌, ap}
use mathlib.Core.Bool.{true}
use mathlib.Core.List.{List, [], map, append-nil}
use Rattle.words.specs.declared.Reading.{Reading}
use Rattle.calls.specs.declared.Call.{Call}
use Rattle.calls.specs.declared.Call.TheVariants.{Register, Record, Set}
use Rattle.meaning.specs.Meaning.{gather, setting_set, mpan_registered, meant_mpans, registration_set, meant_registration, counted_readings, meant_meter, meant_meters, meant_settings}
use Rattle.meaning.specs.Moves.{other_call, is_accepted, OnlyReadingsMoved, EarliestKept}
use Rattle.meaning.proofs.Lists.{gather-gathered, map_same}
use Rattle.meaning.proofs.Newest.{same-newest}
use Rattle.meaning.proofs.Counted.{counted-in-range}
use Rattle.meaning.proofs.MeantSettings.{settings-same}

-- what is gathered from a list, where nothing is taken from a reading, is gathered from its other calls
module _ {A : Type 0} (f : Call → List A) (none : (m : ℕ) (r : Reading) → f (Record m r) ≡ []) where
  other-call : (c : Call) → gather f (other_call c) ≡ f c
  unfolding gather other_call
  other-call (Register m r) = append-nil (f (Register m r))
  other-call (Record m r) = sym (none m r)
  other-call (Set x) = append-nil (f (Set x))

  gather-others : (calls : List Call) → gather f (gather other_call calls) ≡ gather f calls
  gather-others calls = gather-gathered f other_call f other-call calls

  gather-moved : (calls moved : List Call) → gather other_call calls ≡ gather other_call moved → gather f calls ≡ gather f moved
  gather-moved calls moved h = sym (gather-others calls) ∙ ap (gather f) h ∙ gather-others moved

module _ (capacity : ℕ) {calls moved : List Call} (same : OnlyReadingsMoved calls moved) where
  pub moved-mpans : meant_mpans capacity calls ≡ meant_mpans capacity moved
  unfolding meant_mpans mpan_registered
  moved-mpans = rw (gather-moved mpan_registered (λ m r. refl) calls moved same.others)

  pub moved-settings : meant_settings capacity calls ≡ meant_settings capacity moved
  unfolding setting_set
  moved-settings = settings-same capacity calls moved (gather-moved setting_set (λ m r. refl) calls moved same.others) moved-mpans

module _ {capacity : ℕ} {calls moved : List Call} (same : EarliestKept capacity calls moved) where
  moved-meter : (m : ℕ) → is_accepted capacity calls m ≡ true → meant_meter calls m ≡ meant_meter moved m
  unfolding meant_meter meant_registration registration_set
  moved-meter m accepted =
      let newest = same-newest (counted_readings calls m) (counted_readings moved m) (counted-in-range calls m) (counted-in-range moved m) (same.earliest m accepted) in
      rw (gather-moved (registration_set m) (λ k r. refl) calls moved same.only-readings.others, newest)

  pub moved-meters : meant_meters capacity calls ≡ meant_meters capacity moved
  unfolding meant_meters
  moved-meters = map_same (meant_meter calls) (meant_meter moved) (meant_mpans capacity calls) moved-meter ∙ ap (map (meant_meter moved)) (moved-mpans capacity same.only-readings)
