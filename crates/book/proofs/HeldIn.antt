-- What a meter holds in rows: at its place, and after a registration or a reading was stored.
use Prim.Native.Nat.{ℕ, ◌+◌, ◌*◌}
use mathlib.Core.Path.{◌≡◌, refl, sym, ◌∙◌, ap}
use mathlib.Core.Bool.{true, false, true≢false}
use mathlib.Core.List.{List, [], ◌∷◌}
use Rattle.std.specs.Prelude.{Option, Some, None}
use native.Mathlib.Omega.{arith}
use borrow.Author.Tests.{eqb-true, eqb-false, eq-eqb, ne_eqb}
use lib.Dec.{eqb}
use lib.ListN.{get_or}
use Rattle.std.proofs.lemmas.Option.{none-some, same_Some}
use Rattle.words.specs.Reading.{no_reading, issue_of}
use Rattle.words.proofs.Tests.{by-test}
use Rattle.book.specs.declared.Held.{Held}
use Rattle.book.specs.Rows.{Row, first_row, rows_of, rows_formed, is_known, issue_held, new_row, with_registration, with_reading}
use Rattle.book.specs.Helpers.{place_of, row_held, held_in}
use Rattle.book.proofs.RowsOf.{row-of}
use Rattle.book.proofs.Rising.{formed-first}
use Rattle.book.proofs.WithRegistration.{stored_next, stored_here, stored-before}
use Rattle.book.proofs.PlaceOf.{by-mpan, place-next, place_here, known_next, known-here, first_above, known-within-in}

module _ (r : Row) (rows : List Row) (m : ℕ) where
  pub held_next : (r.mpan ≡ m → ⊥) → held_in m (r ∷ rows) ≡ held_in m rows
  unfolding held_in
  held_next h = rw (ne_eqb r.mpan m h)

  pub held-here : r.mpan ≡ m → held_in m (r ∷ rows) ≡ Some (row_held r.registration r.reading)
  unfolding held_in
  held-here h = rw (eq-eqb r.mpan m h)

-- a meter that is not there holds nothing
pub held_none : (m : ℕ) (rows : List Row) → is_known m rows ≡ false → held_in m rows ≡ None
unfolding held_in
held_none m [] h = refl
held_none m (r ∷ rows) h =
    by-test (eqb r.mpan m)
    (λ e. absurd (true≢false (sym (known-here r rows m (eqb-true r.mpan m e)) ∙ h)))
    (λ e.
    let n = eqb-false r.mpan m e in
    held_next r rows m n ∙ held_none m rows (sym (known_next r rows m n) ∙ h))

-- the reading in what is held; none where nothing is
abbrev pub reading_of : Option Held → ℕ
reading_of None = no_reading
reading_of (Some h) = h.reading

-- the issue that a meter holds is that of its reading
pub issue-held : (m : ℕ) (rows : List Row) → issue_held m rows ≡ issue_of (reading_of (held_in m rows))
unfolding issue_held held_in
issue-held m [] = refl
issue-held m (r ∷ rows) =
    by-test (eqb r.mpan m)
    (λ e. rw e)
    (λ e. rw e (issue-held m rows))

-- a known meter holds what stands at its place
held_at : (before m : ℕ) (rows : List Row) (d : Row) → rows_formed before rows ≡ true → is_known m rows ≡ true
    → held_in m rows ≡ Some (row_held (get_or rows (place_of m rows) d).registration (get_or rows (place_of m rows) d).reading)
unfolding is_known
held_at before m [] d f h = absurd (true≢false (sym h))
held_at before m (r ∷ rows) d f h =
    by-mpan r m
    (λ b.
    let n : r.mpan ≡ m → ⊥ = λ e. omega arith in
    let k : is_known m rows ≡ true = rw (known_next r rows m n) at h in
    rw (held_next r rows m n, place-next r rows m b) (held_at r.mpan m rows d (formed-first before r rows f).after k))
    (λ b. rw (held-here r rows m b, place_here r rows m (omega arith)))
    (λ b. absurd (true≢false (sym h ∙ first_above before r rows m f b)))

-- the same in a slice's words
pub held_in_lem : (words : List ℕ) (n m before : ℕ) → rows_formed before (rows_of n words) ≡ true → is_known m (rows_of n words) ≡ true
    → held_in m (rows_of n words) ≡ Some (row_held (get_or words (3 * place_of m (rows_of n words) + 1) 0) (get_or words (3 * place_of m (rows_of n words) + 2) 0))
held_in_lem words n m before f h =
    held_at before m (rows_of n words) (first_row words) f h
    ∙ ap (λ (r : Row). Some (row_held r.registration r.reading)) (row-of n (place_of m (rows_of n words)) words (first_row words) (known-within-in words n m h))

-- after a reading was stored
pub held-read : (m w : ℕ) (rows : List Row) {held : Held} → held_in m rows ≡ Some held → held_in m (with_reading m w rows) ≡ Some (row_held held.registration w)
unfolding with_reading held_in
held-read m w [] h = absurd (none-some _ h)
held-read m w (r ∷ rows) {held} h =
    by-test (eqb r.mpan m)
    (λ e.
    let same : Some (row_held r.registration r.reading) ≡ Some held = rw e at h in
    rw (e, eq-eqb m m refl) (ap (λ (x : Held). Some (row_held x.registration w)) (same_Some _ _ same)))
    (λ e. rw (e, held_next r (with_reading m w rows) m (eqb-false r.mpan m e)) (held-read m w rows (rw e at h)))

-- after a registration was stored, of a known meter and of a new one

pub held-registered : (before m w : ℕ) (rows : List Row) {held : Held} → rows_formed before rows ≡ true → held_in m rows ≡ Some held → held_in m (with_registration m w rows) ≡ Some (row_held w held.reading)
unfolding held_in
held-registered before m w [] f h = absurd (none-some _ h)
held-registered before m w (r ∷ rows) {held} f h =
    by-mpan r m
    (λ b.
    let n : r.mpan ≡ m → ⊥ = λ e. omega arith in
    rw (stored_next r rows m w b, held_next r (with_registration m w rows) m n)
    (held-registered r.mpan m w rows (formed-first before r rows f).after (sym (held_next r rows m n) ∙ h)))
    (λ b.
    let same : Some (row_held r.registration r.reading) ≡ Some held = sym (held-here r rows m b) ∙ h in
    rw (stored_here r rows m w b) (held-here (record { mpan = m; registration = w; reading = r.reading }) rows m refl) ∙ ap (λ (x : Held). Some (row_held w x.reading)) (same_Some _ _ same))
    (λ b. absurd (none-some _ (sym (held_none m (r ∷ rows) (first_above before r rows m f b)) ∙ h)))

pub held_new : (m w : ℕ) (rows : List Row) → is_known m rows ≡ false → held_in m (with_registration m w rows) ≡ Some (row_held w no_reading)
unfolding with_registration
held_new m w [] h = held-here (new_row m w) [] m refl
held_new m w (r ∷ rows) h =
    by-mpan r m
    (λ b.
    let n : r.mpan ≡ m → ⊥ = λ e. omega arith in
    rw (stored_next r rows m w b, held_next r (with_registration m w rows) m n) (held_new m w rows (sym (known_next r rows m n) ∙ h)))
    (λ b. absurd (true≢false (sym (known-here r rows m b) ∙ h)))
    (λ b. rw (stored-before r rows m w b) (held-here (new_row m w) (r ∷ rows) m refl))
