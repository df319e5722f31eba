-- The readings of a meter that count, with one more call at the end of a list: those after its first in-range register call.
use Prim.Native.Nat.{ℕ}
use mathlib.Core.Path.{◌≡◌, refl, sym, ◌∙◌, ap}
use mathlib.Core.Bool.{Bool, true, false, ◌&&◌, ◌||◌, and-true, and-false, or-false, and-eq-true_iff, true≢false}
use mathlib.Core.List.{List, [], ◌∷◌, ◌++◌, append-nil}
use borrow.Author.Tests.{eqb-true}
use lib.Dec.{eqb}
use Rattle.words.specs.declared.Reading.{Reading}
use Rattle.words.specs.Reading.{quality_allowed}
use Rattle.words.proofs.Tests.{by-test}
use Rattle.book.specs.Store.{register_in_range, reading_call_in_range}
use Rattle.calls.specs.declared.Call.{Call}
use Rattle.calls.specs.declared.Call.TheVariants.{Register, Record, Set}
use Rattle.cells.proofs.Each.{Each, no-entry, entry}
use Rattle.meaning.specs.Meaning.{only, gather, is_any, mpan_registered, registration_set, since_registered, reading_free, counted_readings}
use Rattle.meaning.specs.Moves.{is_in}
use Rattle.meaning.proofs.Lists.{eqb-either-way, gather-end, any_append, in-append, each-gathered}
use Rattle.meaning.proofs.Newest.{InRange}

any-only : {A : Type 0} (t : Bool) (x : A) → is_any (only t x) ≡ t
unfolding is_any only
any-only true x = refl
any-only false x = refl

in-only : (t : Bool) (m k : ℕ) → is_in m (only t k) ≡ (eqb k m && t)
unfolding is_in only
in-only true m k = or-false (eqb m k) ∙ eqb-either-way m k ∙ sym (and-true (eqb k m))
in-only false m k = sym (and-false (eqb k m))

-- a meter has an in-range register call exactly if its MPAN is among those of the in-range register calls
call-registers : (m : ℕ) (c : Call) → is_any (registration_set m c) ≡ is_in m (mpan_registered c)
unfolding registration_set mpan_registered is_any is_in
call-registers m (Register k r) = any-only (eqb k m && register_in_range k r) r ∙ sym (in-only (register_in_range k r) m k)
call-registers m (Record k r) = refl
call-registers m (Set x) = refl

abbrev pub is_registered : ℕ → List Call → Bool
is_registered m calls = is_any (gather (registration_set m) calls)

pub registered-in : (m : ℕ) (calls : List Call) → is_registered m calls ≡ is_in m (gather mpan_registered calls)
unfolding gather is_any is_in
registered-in m [] = refl
registered-in m (c ∷ calls) =
    any_append (registration_set m c) (gather (registration_set m) calls)
    ∙ ap (λ (b : Bool). b || is_registered m calls) (call-registers m c)
    ∙ ap (λ (b : Bool). is_in m (mpan_registered c) || b) (registered-in m calls)
    ∙ sym (in-append m (mpan_registered c) (gather mpan_registered calls))

-- the calls after the first in-range register call of a meter
module _ (m : ℕ) (c : Call) (calls : List Call) where
  since-here : is_any (registration_set m c) ≡ true → since_registered m (c ∷ calls) ≡ calls
  unfolding since_registered
  since-here h = rw h

  since-next : is_any (registration_set m c) ≡ false → since_registered m (c ∷ calls) ≡ since_registered m calls
  unfolding since_registered
  since-next h = rw h

  registered-here : is_any (registration_set m c) ≡ true → is_registered m (c ∷ calls) ≡ true
  unfolding gather
  registered-here h = any_append (registration_set m c) (gather (registration_set m) calls) ∙ rw h

  registered-next : is_any (registration_set m c) ≡ false → is_registered m (c ∷ calls) ≡ is_registered m calls
  unfolding gather
  registered-next h = any_append (registration_set m c) (gather (registration_set m) calls) ∙ rw h

since-end : (m : ℕ) (calls : List Call) (c : Call) → is_registered m calls ≡ true → since_registered m (calls ++ c ∷ []) ≡ since_registered m calls ++ c ∷ []
unfolding gather is_any
since-end m [] c h = absurd (true≢false (sym h))
since-end m (d ∷ calls) c h =
    by-test (is_any (registration_set m d))
    (λ e. since-here m d (calls ++ c ∷ []) e ∙ ap (λ (l : List Call). l ++ c ∷ []) (sym (since-here m d calls e)))
    (λ e. rw (since-next m d (calls ++ c ∷ []) e, since-next m d calls e) (since-end m calls c (sym (registered-next m d calls e) ∙ h)))

since_none : (m : ℕ) (calls : List Call) → is_registered m calls ≡ false → since_registered m calls ≡ []
unfolding since_registered
since_none m [] h = refl
since_none m (d ∷ calls) h =
    by-test (is_any (registration_set m d))
    (λ e. absurd (true≢false (sym (registered-here m d calls e) ∙ h)))
    (λ e. since-next m d calls e ∙ since_none m calls (sym (registered-next m d calls e) ∙ h))

since-end-none : (m : ℕ) (calls : List Call) (c : Call) → is_registered m calls ≡ false → since_registered m (calls ++ c ∷ []) ≡ []
unfolding since_registered
since-end-none m [] c h =
    by-test (is_any (registration_set m c))
    (λ e. since-here m c [] e)
    (λ e. since-next m c [] e)
since-end-none m (d ∷ calls) c h =
    by-test (is_any (registration_set m d))
    (λ e. absurd (true≢false (sym (registered-here m d calls e) ∙ h)))
    (λ e. since-next m d (calls ++ c ∷ []) e ∙ since-end-none m calls c (sym (registered-next m d calls e) ∙ h))

pub counted_none : (m : ℕ) (calls : List Call) → is_registered m calls ≡ false → counted_readings calls m ≡ []
unfolding counted_readings gather
counted_none m calls h = rw (since_none m calls h)

-- the readings that count, with one more call at the end
module _ (m : ℕ) (calls : List Call) (c : Call) where
  pub counted-end : is_registered m calls ≡ true → counted_readings (calls ++ c ∷ []) m ≡ counted_readings calls m ++ reading_free m c
  unfolding counted_readings
  counted-end h = rw (since-end m calls c h) (gather-end (reading_free m) (since_registered m calls) c)

  counted-end-none : is_registered m calls ≡ false → counted_readings (calls ++ c ∷ []) m ≡ []
  unfolding counted_readings gather
  counted-end-none h = rw (since-end-none m calls c h)

  -- a call that is no reading of the meter, or one that does not count
  pub counted-kept : reading_free m c ≡ [] → counted_readings (calls ++ c ∷ []) m ≡ counted_readings calls m
  counted-kept h =
      by-test (is_registered m calls)
      (λ k. counted-end k ∙ rw h (append-nil (counted_readings calls m)))
      (λ k. counted-end-none k ∙ sym (counted_none m calls k))

-- every reading that counts is in range
free-in-range : (m : ℕ) (c : Call) → Each InRange (reading_free m c)
unfolding reading_free only
free-in-range m (Register k r) = no-entry
free-in-range m (Record k r) =
    by-test (eqb k m && reading_call_in_range k r && quality_allowed r)
    (λ e.
    let free = simp and-eq-true_iff at e in
    rw e (entry (record { in-range = free.0.1.1 }) no-entry))
    (λ e. rw e no-entry)
free-in-range m (Set x) = no-entry

pub counted-in-range : (calls : List Call) (m : ℕ) → Each InRange (counted_readings calls m)
unfolding counted_readings
counted-in-range calls m = each-gathered (reading_free m) (free-in-range m) (since_registered m calls)

-- where each reading of a meter stands after its first registration, each that is free of causes 2 and 3 counts
module _ (m : ℕ) where
  register-no-reading : (c : Call) → is_any (registration_set m c) ≡ true → reading_free m c ≡ []
  unfolding registration_set reading_free is_any
  register-no-reading (Register k r) h = refl
  register-no-reading (Record k r) h = absurd (true≢false (sym h))
  register-no-reading (Set x) h = absurd (true≢false (sym h))

  not-of-meter : (c : Call) → ((r : Reading) → c ≡ Record m r → ⊥) → reading_free m c ≡ []
  unfolding reading_free only
  not-of-meter (Register k r) h = refl
  not-of-meter (Record k r) h =
      by-test (eqb k m)
      (λ e. absurd (h r (ap (λ (j : ℕ). Record j r) (eqb-true k m e))))
      (λ e. rw e)
  not-of-meter (Set x) h = refl

  pub counted-all : (calls : List Call) → ((before later : List Call) (r : Reading) → calls ≡ before ++ Record m r ∷ later → is_registered m before ≡ true)
      → counted_readings calls m ≡ gather (reading_free m) calls
  unfolding counted_readings since_registered gather is_any
  counted-all [] after = refl
  counted-all (c ∷ calls) after =
      by-test (is_any (registration_set m c))
      (λ here. rw (here, register-no-reading c here))
      (λ elsewhere.
      let free = not-of-meter c (λ r e. true≢false (sym (after [] calls r (ap (λ (d : Call). d ∷ calls) e)))) in
      let later = counted-all calls (λ before rest r e. sym (registered-next m c before elsewhere) ∙ after (c ∷ before) rest r (ap (λ (l : List Call). c ∷ l) e)) in
      rw (elsewhere, free) later)
