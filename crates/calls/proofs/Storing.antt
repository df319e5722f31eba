-- What storing leaves, one law for each way it ends: as an equation of rows, and of the words and the cells that the code leaves.
use Prim.Native.Nat.{ℕ, ◌+◌, ◌*◌, ◌-◌, ◌≤◌, ◌<◌}
use mathlib.Core.Path.{◌≡◌, sym, ◌∙◌, ap}
use mathlib.Core.Bool.{true, false, and-eq-true_iff}
use mathlib.Core.List.{List, ◌∷◌, ◌++◌}
use borrow.Author.Tests.{le-leb, lt-leb}
use lib.IntN.{ℤ}
use lib.ListN.{length, get_or, set, take, drop, length-drop}
use Rattle.std.specs.Prelude.{Option, Some, None, Result, Ok, Err}
use Rattle.refusals.specs.declared.Refusal.{Refusal}
use Rattle.refusals.specs.declared.Refusal.TheVariants.{ArgumentOutOfRange, QualityRefused, MeterUnknown, IssueNotAbove, CapacityReached}
use Rattle.refusals.specs.Causes.{accepted, argument_out_of_range, quality_refused, meter_unknown, issue_not_above, capacity_reached}
use Rattle.refusals.specs.Refusal.{number_of}
use Rattle.words.specs.declared.Registration.{Registration}
use Rattle.words.specs.declared.Reading.{Reading}
use Rattle.words.specs.Mpan.{is_mpan}
use Rattle.words.specs.Registration.{registration_in_range, is_registration}
use Rattle.words.specs.Reading.{no_reading, issue_of, reading_in_range, quality_allowed, reading_word}
use Rattle.words.proofs.RegistrationWord.{registration-word-well-formed}
use Rattle.words.proofs.ReadingWord.{reading-word-well-formed}
use Rattle.words.proofs.Tests.{by-test}
use Rattle.book.specs.declared.Held.{Held}
use Rattle.book.specs.Rows.{Row, capacity, rows_of, rows_formed, is_known, issue_held, new_row, with_registration, with_reading, written}
use Rattle.book.specs.Store.{register_in_range, reading_call_in_range, has_no_room, registration_cause, reading_cause}
use Rattle.book.specs.Helpers.{place_of, row_held, held_in, storing, asked_of, word_storing, registration_storing, reading_storing, RowsReady}
use Rattle.book.proofs.RowsOf.{length-rows}
use Rattle.book.proofs.WellFormed.{room}
use Rattle.book.proofs.WithRegistration.{length_inserted, length-replaced, registration-inserts, registration-stores}
use Rattle.book.proofs.WithReading.{length-reading, reading-stores}
use Rattle.book.proofs.Placed.{known-is, unknown-is, index-is, new-index-is, there}
use Rattle.book.proofs.Parts.{rest_part}
use Rattle.book.proofs.StoredFormed.{rows-registered}
use Rattle.book.proofs.HeldIn.{held_none, reading_of, issue-held, held_in_lem, held-read, held-registered, held_new}
use Rattle.running.specs.Helpers.{HeldFormed, meter_change}
use Rattle.running.proofs.HeldFormed.{held-formed}
use Rattle.calls.specs.Stores.{Stores}
use Rattle.calls.proofs.KeptStoring.{registered-change, recorded-change, keeps, Makes}

-- an `Ok` and an `Err` differ, and what equal ones give is equal
module _ {T E : Type 0} where
  ok-err : {x : T} {y : E} → Ok x ≡ Err y → ⊥
  ok-err e = cc

  err-ok : {x : T} {y : E} → Err y ≡ Ok x → ⊥
  err-ok e = cc

  same_Ok : {x y : T} → ◌≡◌ {A = Result T E} (Ok x) (Ok y) → x ≡ y
  same_Ok e = cc

  same_Err : {x y : E} → ◌≡◌ {A = Result T E} (Err x) (Err y) → x ≡ y
  same_Err e = cc

-- the word of a registration in range
module _ (capacity m word : ℕ) (rows : List Row) where
  pub registration-no-room : is_known m rows ≡ false → capacity ≤ length rows → word_storing capacity m word rows ≡ record { number = capacity_reached; rows = rows }
  unfolding word_storing storing has_no_room
  registration-no-room k full = rw (k, le-leb capacity (length rows) full)

  pub registration-known : is_known m rows ≡ true → word_storing capacity m word rows ≡ record { number = accepted; rows = with_registration m word rows }
  unfolding word_storing storing has_no_room
  registration-known k = rw k

  pub registration-new : is_known m rows ≡ false → length rows < capacity → word_storing capacity m word rows ≡ record { number = accepted; rows = with_registration m word rows }
  unfolding word_storing storing has_no_room
  registration-new k free = rw (k, lt-leb capacity (length rows) free)

-- what a register call asks for: out of range, nothing is stored, and a word is stored as the call's registration is
module _ (capacity m : ℕ) (r : Registration) (rows : List Row) where
  asked-out-of-range : {refusal : Refusal} → asked_of m r ≡ Err refusal → registration_storing capacity m r rows ≡ record { number = number_of refusal; rows = rows }
  unfolding registration_storing registration_cause storing
  asked-out-of-range e =
      by-test (register_in_range m r)
      (λ t. absurd (ok-err (rw t at e)))
      (λ t. rw (t, sym (same_Err (rw t at e))))

  asked-storing : {word : ℕ} → asked_of m r ≡ Ok word → registration_storing capacity m r rows ≡ word_storing capacity m word rows
  unfolding word_storing registration_storing registration_cause storing
  asked-storing e =
      by-test (register_in_range m r)
      (λ t. rw (t, same_Ok (rw t at e)))
      (λ t. absurd (err-ok (rw t at e)))

  -- rows that take that word stay well formed
  pub asked-formed : {word : ℕ} → asked_of m r ≡ Ok word → rows_formed 0 rows ≡ true → rows_formed 0 (with_registration m word rows) ≡ true
  asked-formed e formed =
      by-test (register_in_range m r)
      (λ t. rw (← same_Ok (rw t at e)) (rows-registered m r rows t formed))
      (λ t. absurd (err-ok (rw t at e)))

-- a reading
module _ (m : ℕ) (r : Reading) (rows : List Row) where
  pub reading-out-of-range : reading_call_in_range m r ≡ false → reading_storing m r rows ≡ record { number = argument_out_of_range; rows = rows }
  unfolding reading_storing reading_cause storing
  reading-out-of-range h = rw h

  module _ (range : reading_call_in_range m r ≡ true) where
    pub reading-of-refused-quality : quality_allowed r ≡ false → reading_storing m r rows ≡ record { number = quality_refused; rows = rows }
    unfolding reading_storing reading_cause storing
    reading-of-refused-quality h = rw (range, h)

    module _ (allowed : quality_allowed r ≡ true) where
      pub reading-of-unknown-meter : is_known m rows ≡ false → reading_storing m r rows ≡ record { number = meter_unknown; rows = rows }
      unfolding reading_storing reading_cause storing
      reading-of-unknown-meter h = rw (range, allowed, h)

      module _ (known : is_known m rows ≡ true) where
        pub reading-not-above : r.issue ≤ issue_held m rows → reading_storing m r rows ≡ record { number = issue_not_above; rows = rows }
        unfolding reading_storing reading_cause storing
        reading-not-above h = rw (range, allowed, known, le-leb r.issue (issue_held m rows) h)

        pub reading-above : issue_held m rows < r.issue → reading_storing m r rows ≡ record { number = accepted; rows = with_reading m (reading_word r) rows }
        unfolding reading_storing reading_cause storing
        reading-above h = rw (range, allowed, known, lt-leb r.issue (issue_held m rows) h)

-- what is stored of a register call's word is stored of the call
module _ (capacity m : ℕ) (r : Registration) {n : ℕ} {words shapes : List ℕ} {cells : List ℤ} where
  pub asked-refused : {refusal : Refusal} → RowsReady n words → asked_of m r ≡ Err refusal → Stores (registration_storing capacity m r) shapes n words cells (Err refusal) words cells
  asked-refused ready e = keeps ready (asked-out-of-range capacity m r (rows_of n words) e)

  pub asked-stores : {word : ℕ} {outcome : Result ℕ Refusal} {words_after : List ℕ} {cells_after : List ℤ} → asked_of m r ≡ Ok word
      → Stores (word_storing capacity m word) shapes n words cells outcome words_after cells_after → Stores (registration_storing capacity m r) shapes n words cells outcome words_after cells_after
  asked-stores e h =
      let o = asked-storing capacity m r (rows_of n words) e in
      record { number = rw o h.number; counted = rw o h.counted; slice = rw o h.slice; cells_are = rw o h.cells_are }

-- a word that is asked for is one of a registration
pub asked-word : (m : ℕ) (r : Registration) {word : ℕ} → Ok word ≡ asked_of m r → is_registration word ≡ true
asked-word m r e =
    by-test (register_in_range m r)
    (λ t. rw (same_Ok (rw t at e)) (registration-word-well-formed r ((and-eq-true_iff (is_mpan m) (registration_in_range r)).0 t).1))
    (λ t. absurd (ok-err (rw t at e)))

-- a reading refused before a row is looked at
module _ (m : ℕ) {n : ℕ} {words shapes : List ℕ} {cells : List ℤ} (ready : RowsReady n words) (r : Reading) where
  pub out-of-range : reading_call_in_range m r ≡ false → Stores (reading_storing m r) shapes n words cells (Err ArgumentOutOfRange) words cells
  out-of-range h = keeps ready (reading-out-of-range m r (rows_of n words) h)

  module _ (range : reading_call_in_range m r ≡ true) where
    pub of-refused-quality : quality_allowed r ≡ false → Stores (reading_storing m r) shapes n words cells (Err QualityRefused) words cells
    of-refused-quality h = keeps ready (reading-of-refused-quality m r (rows_of n words) range h)

    pub of-unknown-meter : quality_allowed r ≡ true → is_known m (rows_of n words) ≡ false → Stores (reading_storing m r) shapes n words cells (Err MeterUnknown) words cells
    of-unknown-meter allowed h = keeps ready (reading-of-unknown-meter m r (rows_of n words) range allowed h)

module _ (m : ℕ) {n : ℕ} {words : List ℕ} (ready : RowsReady n words) {k : ℕ} (place : k ≡ place_of m (rows_of n words)) where
  -- a new meter's row is inserted
  module _ (word : ℕ) (unknown : is_known m (rows_of n words) ≡ false) where
    pub no-room : {shapes : List ℕ} {cells : List ℤ} → capacity words ≤ n → Stores (word_storing (capacity words) m word) shapes n words cells (Err CapacityReached) words cells
    no-room full = keeps ready (registration-no-room (capacity words) m word (rows_of n words) unknown (rw (length-rows n words) full))

    pub row-inserted : {shapes : List ℕ} → n < capacity words → {words_after : List ℕ}
        → words_after ≡ take (3 * place_of m (rows_of n words)) words ++ written (new_row m word ∷ rows_of (n - place_of m (rows_of n words)) (drop (3 * place_of m (rows_of n words)) words)) (drop (3 * place_of m (rows_of n words)) words)
        → Makes (word_storing (capacity words) m word) shapes n words (meter_change shapes None (Some (row_held word no_reading))) (n + 1) words_after
    row-inserted {shapes} free e =
        let rows = rows_of n words in
        record {
          made = with_registration m word rows;
          stored = registration-new (capacity words) m word rows unknown (rw (length-rows n words) free);
          count = length_inserted m word rows unknown ∙ ap (λ (l : ℕ). l + 1) (length-rows n words);
          slice = registration-inserts words n m word (room words n ready.within-capacity) unknown ∙ sym e;
          change-is = registered-change shapes m word rows (held_none m rows unknown) 0 ready.formed (held_new m word rows unknown);
        }

  -- what a known meter holds is what its row holds
  module _ (known : is_known m (rows_of n words) ≡ true) {held : Held} (reads : held ≡ row_held (get_or words (3 * k + 1) 0) (get_or words (3 * k + 2) 0)) where
    held-there : held_in m (rows_of n words) ≡ Some held
    held-there = rw (reads, place) (held_in_lem words n m 0 ready.formed known)

    pub formed-there : HeldFormed held
    formed-there = rw held-there at (held-formed m 0 (rows_of n words) ready.formed)

    -- a known meter's word 1 is stored
    pub registration-stored : {shapes : List ℕ} (word : ℕ)
        → Makes (word_storing (capacity words) m word) shapes n words (meter_change shapes (Some held) (Some (row_held word held.reading))) n (set words (3 * k + 1) word)
    registration-stored {shapes} word =
        let rows = rows_of n words in
        record {
          made = with_registration m word rows;
          stored = registration-known (capacity words) m word rows known;
          count = length-replaced 0 m word rows ready.formed known ∙ length-rows n words;
          slice = registration-stores words n m word (room words n ready.within-capacity) 0 ready.formed known ∙ rw place;
          change-is = registered-change shapes m word rows held-there 0 ready.formed (held-registered 0 m word rows ready.formed held-there);
        }

    module _ (r : Reading) (range : reading_call_in_range m r ≡ true) (allowed : quality_allowed r ≡ true) where
      issue-there : issue_held m (rows_of n words) ≡ issue_of held.reading
      issue-there = issue-held m (rows_of n words) ∙ ap (λ (h : Option Held). issue_of (reading_of h)) held-there

      pub not-above : {shapes : List ℕ} {cells : List ℤ} → r.issue ≤ issue_of held.reading → Stores (reading_storing m r) shapes n words cells (Err IssueNotAbove) words cells
      not-above h = keeps ready (reading-not-above m r (rows_of n words) range allowed known (rw issue-there h))

      pub formed-read : {w : ℕ} → w ≡ reading_word r → HeldFormed (row_held held.registration w)
      formed-read e =
          let in-range = ((and-eq-true_iff (is_mpan m) (reading_in_range r)).0 range).1 in
          record { registered = formed-there.registered; read = rw e (reading-word-well-formed r in-range allowed) }

      -- a known meter's word 2 is stored
      pub reading-stored : {shapes : List ℕ} {w : ℕ} → w ≡ reading_word r → issue_of held.reading < r.issue
          → Makes (reading_storing m r) shapes n words (meter_change shapes (Some held) (Some (row_held held.registration w))) n (set words (3 * k + 2) w)
      reading-stored {shapes} {w} word h =
          let rows = rows_of n words in
          record {
            made = with_reading m (reading_word r) rows;
            stored = reading-above m r rows range allowed known (rw issue-there h);
            count = length-reading m (reading_word r) rows ∙ length-rows n words;
            slice = reading-stores words n m 0 ready.formed known (reading_word r) (room words n ready.within-capacity) ∙ rw (place, word);
            change-is = recorded-change shapes m (reading_word r) rows held-there (held-read m (reading_word r) rows held-there ∙ rw word);
          }

-- for the search for a proof
pub ruleset registered = (there, unknown-is, new-index-is, room, rest_part, length-drop, no-room)

pub ruleset read = (there, known-is, unknown-is, index-is, out-of-range, of-refused-quality, of-unknown-meter, not-above)
