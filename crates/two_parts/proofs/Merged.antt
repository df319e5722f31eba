-- Two parts merged: what a call finds in the merged rows stands in one of the parts, and what it leaves there is what it leaves in that part.
use Prim.Native.Nat.{ℕ, ◌+◌, ◌≤◌}
use mathlib.Core.Path.{◌≡◌, refl, sym, ◌∙◌, ap}
use mathlib.Core.Bool.{true, false, true≢false}
use mathlib.Core.List.{List, [], ◌∷◌}
use native.Mathlib.Nat.{add-zero}
use native.Mathlib.Omega.{arith}
use lib.ListN.{length}
use Rattle.book.specs.Rows.{Row, rows_formed, is_known, with_registration, with_reading}
use Rattle.book.specs.Helpers.{held_in}
use Rattle.book.proofs.Rising.{formed-none, formed-first, first-formed}
use Rattle.book.proofs.PlaceOf.{by-mpan, known_next, known-here, none_above, first_above}
use Rattle.book.proofs.HeldIn.{held_next, held-here, held_none}
use Rattle.book.proofs.WithRegistration as registration
use Rattle.book.proofs.WithReading as reading
use Rattle.two_parts.specs.TwoParts.{with_row, merged}
use Rattle.two_parts.proofs.WithRow.{by-meter, length-row, known-row, held-other, held-own, registered-other, registered-own, registered-new, read-other, read-own, read-unknown, row-formed}

pub length_merged : (A B : List Row) → length (merged A B) ≡ length A + length B
unfolding merged
length_merged A [] = sym (add-zero (length A))
length_merged A (r ∷ B) = rw (length-row r (merged A B), length_merged A B) (omega arith)

pub known-merged-first : (m : ℕ) (A B : List Row) → is_known m A ≡ true → is_known m (merged A B) ≡ true
unfolding merged
known-merged-first m A [] h = h
known-merged-first m A (r ∷ B) h =
    known-row m r (merged A B)
    ∙ by-meter r m
    (λ b. known-here r (merged A B) m b)
    (λ b. known_next r (merged A B) m b ∙ known-merged-first m A B h)

pub known-merged-later : (m : ℕ) (A B : List Row) → is_known m A ≡ false → is_known m (merged A B) ≡ is_known m B
unfolding merged is_known
known-merged-later m A [] h = h
known-merged-later m A (r ∷ B) h = known-row m r (merged A B) ∙ rw (known-merged-later m A B h)

-- where a meter is not among rows, the first is not its own, and it is not among the rest
pub record Elsewhere (m : ℕ) (r : Row) (rows : List Row) : Type 0 where
  pub first-other : r.mpan ≡ m → ⊥
  pub rest-unknown : is_known m rows ≡ false

pub elsewhere : (m : ℕ) (r : Row) (rows : List Row) → is_known m (r ∷ rows) ≡ false → Elsewhere m r rows
elsewhere m r rows h =
    let other : r.mpan ≡ m → ⊥ = λ e. true≢false (sym (known-here r rows m e) ∙ h) in
    record { first-other = other; rest-unknown = rw (known_next r rows m other) at h }

-- what a meter holds
pub held-merged-first : (m : ℕ) (A B : List Row) → is_known m B ≡ false → held_in m (merged A B) ≡ held_in m A
unfolding merged
held-merged-first m A [] h = refl
held-merged-first m A (r ∷ B) h =
    let e = elsewhere m r B h in
    held-other m r (merged A B) e.first-other ∙ held-merged-first m A B e.rest-unknown

pub held-merged-later : (m : ℕ) (A B : List Row) → is_known m A ≡ false → held_in m (merged A B) ≡ held_in m B
unfolding merged is_known
held-merged-later m A [] h = held_none m A h ∙ sym (held_none m [] refl)
held-merged-later m A (r ∷ B) h =
    by-meter r m
    (λ b. held-own m r (merged A B) b ∙ sym (held-here r B m b))
    (λ b. held-other m r (merged A B) b ∙ held-merged-later m A B h ∙ sym (held_next r B m b))

-- a registration stored in the first part, or in the later one

pub registered-first : (m w : ℕ) (A B : List Row) → is_known m B ≡ false → with_registration m w (merged A B) ≡ merged (with_registration m w A) B
unfolding merged
registered-first m w A [] h = refl
registered-first m w A (r ∷ B) h =
    let e = elsewhere m r B h in
    registered-other m w r (merged A B) e.first-other ∙ ap (with_row r) (registered-first m w A B e.rest-unknown)

pub registered-later : (before m w : ℕ) (A B : List Row) → is_known m A ≡ false → rows_formed before B ≡ true → with_registration m w (merged A B) ≡ merged A (with_registration m w B)
unfolding merged with_registration
registered-later before m w A [] h f = registered-new m w A h
registered-later before m w A (r ∷ B) h f =
    by-mpan r m
    (λ b.
    rw (registration.stored_next r B m w b)
    (registered-other m w r (merged A B) (λ e. omega arith) ∙ ap (with_row r) (registered-later r.mpan m w A B h (formed-first before r B f).after)))
    (λ b. rw (registration.stored_here r B m w b) (registered-own m w r (merged A B) b))
    (λ b.
    rw (registration.stored-before r B m w b)
    (registered-new m w (with_row r (merged A B)) (known-merged-later m A (r ∷ B) h ∙ first_above before r B m f b)))

-- a reading

pub read_first : (m w : ℕ) (A B : List Row) → is_known m B ≡ false → with_reading m w (merged A B) ≡ merged (with_reading m w A) B
unfolding merged
read_first m w A [] h = refl
read_first m w A (r ∷ B) h =
    let e = elsewhere m r B h in
    read-other m w r (merged A B) e.first-other ∙ ap (with_row r) (read_first m w A B e.rest-unknown)

pub read-later : (m w : ℕ) (A B : List Row) → is_known m A ≡ false → with_reading m w (merged A B) ≡ merged A (with_reading m w B)
unfolding merged with_reading
read-later m w A [] h = read-unknown m w A h
read-later m w A (r ∷ B) h =
    by-meter r m
    (λ b. rw (reading.stored_here r B m w b) (read-own m w r (merged A B) b))
    (λ b. rw (reading.stored_next r B m w b) (read-other m w r (merged A B) b ∙ ap (with_row r) (read-later m w A B h)))

-- well-formed rows stay so after a lower MPAN
pub formed-after : (before least : ℕ) (rows : List Row) → rows_formed before rows ≡ true → least ≤ before → rows_formed least rows ≡ true
formed-after before least [] f h = formed-none least
formed-after before least (r ∷ rows) f h =
    let first = formed-first before r rows f in
    let l = first.above in
    first-formed least r rows (record { words = first.words; above = omega arith; after = first.after })

-- parts that rise and have no meter in common rise merged
pub merged-formed : (A B : List Row) → rows_formed 0 A ≡ true → rows_formed 0 B ≡ true → ((m : ℕ) → is_known m B ≡ true → is_known m A ≡ false) → rows_formed 0 (merged A B) ≡ true
unfolding merged
merged-formed A [] f g apart = f
merged-formed A (r ∷ B) f g apart =
    let first = formed-first 0 r B g in
    let rest-apart : (m : ℕ) → is_known m B ≡ true → is_known m A ≡ false = λ m k. apart m (by-meter r m (λ b. known-here r B m b) (λ b. known_next r B m b ∙ k)) in
    row-formed 0 r (merged A B)
    (merged-formed A B f (formed-after r.mpan 0 B first.after (omega arith)) rest-apart)
    first.words
    first.above
    (known-merged-later r.mpan A B (apart r.mpan (known-here r B r.mpan refl)) ∙ none_above r.mpan B r.mpan first.after (omega arith))
