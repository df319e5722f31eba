-- A row put in its place among rows, whatever their order: what is known afterwards, and what a call on its own meter or on another leaves.
use Prim.Native.Nat.{ℕ, suc, ◌≤◌, ◌<◌}
use mathlib.Core.Path.{◌≡◌, refl, sym, ◌∙◌, ap}
use mathlib.Core.Bool.{Bool, true, false, cond, true≢false}
use mathlib.Core.List.{List, [], ◌∷◌}
use native.Mathlib.Omega.{arith}
use borrow.Author.Tests.{lt-ltb, le-ltb}
use lib.Dec.{eqb}
use Rattle.std.specs.Prelude.{Some}
use lib.ListN.{length}
use Rattle.book.specs.Rows.{Row, rows_formed, is_known, new_row, with_registration, with_reading}
use Rattle.book.specs.Helpers.{row_held, held_in}
use Rattle.book.proofs.Rising.{Words, formed-none, formed-first, first-formed}
use Rattle.book.proofs.PlaceOf.{by-mpan, known_next, known-here}
use Rattle.book.proofs.HeldIn.{held_next, held-here}
use Rattle.book.proofs.WithRegistration as registration
use Rattle.book.proofs.WithReading as reading
use Rattle.two_parts.specs.TwoParts.{with_row}

-- a row's MPAN is below another or is not; it is a meter's or is not
module _ {X : Type 0} (x : Row) (m : ℕ) where
  pub by_order : (x.mpan < m → X) → (m ≤ x.mpan → X) → X
  by_order below not-below = by-mpan x m below (λ b. not-below (omega arith)) (λ b. not-below (omega arith))

  pub by-meter : (x.mpan ≡ m → X) → ((x.mpan ≡ m → ⊥) → X) → X
  by-meter same other = by-mpan x m (λ b. other (λ e. omega arith)) same (λ b. other (λ e. omega arith))

module _ (r x : Row) (rows : List Row) where
  pub row_next : x.mpan < r.mpan → with_row r (x ∷ rows) ≡ x ∷ with_row r rows
  unfolding with_row
  row_next h = rw (lt-ltb x.mpan r.mpan h)

  pub row_here : r.mpan ≤ x.mpan → with_row r (x ∷ rows) ≡ r ∷ x ∷ rows
  unfolding with_row
  row_here h = rw (le-ltb x.mpan r.mpan h)

pub length-row : (r : Row) (rows : List Row) → length (with_row r rows) ≡ suc (length rows)
unfolding with_row
length-row r [] = refl
length-row r (x ∷ rows) =
    by_order x r.mpan
    (λ b. rw (row_next r x rows b) (ap suc (length-row r rows)))
    (λ b. rw (row_here r x rows b))

-- what is known of a meter does not depend on where the row stands

either_way : (a b k : Bool) → cond a true (cond b true k) ≡ cond b true (cond a true k)
either_way true true k = refl
either_way true false k = refl
either_way false b k = refl

pub known-row : (m : ℕ) (r : Row) (rows : List Row) → is_known m (with_row r rows) ≡ is_known m (r ∷ rows)
unfolding with_row is_known
known-row m r [] = refl
known-row m r (x ∷ rows) =
    by_order x r.mpan
    (λ b. rw (row_next r x rows b, known-row m r rows) (either_way (eqb x.mpan m) (eqb r.mpan m) (is_known m rows)))
    (λ b. rw (row_here r x rows b))

-- nor does what it holds
pub held-other : (m : ℕ) (r : Row) (rows : List Row) → (r.mpan ≡ m → ⊥) → held_in m (with_row r rows) ≡ held_in m rows
unfolding with_row held_in
held-other m r [] h = held_next r [] m h
held-other m r (x ∷ rows) h =
    by_order x r.mpan
    (λ b. rw (row_next r x rows b, held-other m r rows h))
    (λ b. rw (row_here r x rows b) (held_next r (x ∷ rows) m h))

pub held-own : (m : ℕ) (r : Row) (rows : List Row) → r.mpan ≡ m → held_in m (with_row r rows) ≡ Some (row_held r.registration r.reading)
unfolding with_row
held-own m r [] h = held-here r [] m h
held-own m r (x ∷ rows) h =
    by_order x r.mpan
    (λ b. rw (row_next r x rows b, held_next x (with_row r rows) m (λ e. omega arith)) (held-own m r rows h))
    (λ b. rw (row_here r x rows b) (held-here r (x ∷ rows) m h))

-- a registration of another meter is stored the same before a row is put in its place and afterwards

module _ (m w : ℕ) (r x : Row) (rows : List Row) where
  abbrev Commutes : List Row → Type 0
  Commutes l = with_registration m w (with_row r l) ≡ with_row r (with_registration m w l)

  -- the first row is before both
  both-after : x.mpan < r.mpan → x.mpan < m → Commutes rows → Commutes (x ∷ rows)
  both-after b c e =
      rw (row_next r x rows b, registration.stored_next x (with_row r rows) m w c, registration.stored_next x rows m w c, e)
      (sym (row_next r x (with_registration m w rows) b))

  -- the row put in its place stands first
  row_first : r.mpan < m → r.mpan ≤ x.mpan → Commutes (x ∷ rows)
  row_first h l =
      let replaced : Row = record { mpan = m; registration = w; reading = x.reading } in
      rw (row_here r x rows l, registration.stored_next r (x ∷ rows) m w h)
      (by-mpan x m
      (λ b. rw (registration.stored_next x rows m w b) (sym (row_here r x (with_registration m w rows) l)))
      (λ b. rw (registration.stored_here x rows m w b) (sym (row_here r replaced rows (omega arith))))
      (λ b. rw (registration.stored-before x rows m w b) (sym (row_here r (new_row m w) (x ∷ rows) (omega arith)))))

  -- the row whose registration is replaced stands first
  replaced-first : m < r.mpan → x.mpan ≡ m → Commutes (x ∷ rows)
  replaced-first h b =
      let replaced : Row = record { mpan = m; registration = w; reading = x.reading } in
      rw (row_next r x rows (omega arith), registration.stored_here x (with_row r rows) m w b, registration.stored_here x rows m w b)
      (sym (row_next r replaced rows h))

  -- the new row stands first
  new-first : m < r.mpan → m < x.mpan → Commutes (x ∷ rows)
  new-first h b =
      rw (registration.stored-before x rows m w b, row_next r (new_row m w) (x ∷ rows) h)
      (by_order x r.mpan
      (λ l. rw (row_next r x rows l) (registration.stored-before x (with_row r rows) m w b))
      (λ l. rw (row_here r x rows l) (registration.stored-before r (x ∷ rows) m w h)))

pub registered-other : (m w : ℕ) (r : Row) (rows : List Row) → (r.mpan ≡ m → ⊥) → with_registration m w (with_row r rows) ≡ with_row r (with_registration m w rows)
unfolding with_row with_registration
registered-other m w r [] h =
    by-mpan r m
    (λ b. rw (registration.stored_next r [] m w b) (sym (row_here r (new_row m w) [] (omega arith))))
    (λ b. absurd (h b))
    (λ b. rw (registration.stored-before r [] m w b) (sym (row_next r (new_row m w) [] b)))
registered-other m w r (x ∷ rows) h =
    let after = registered-other m w r rows h in
    by-mpan r m
    (λ b. by_order x r.mpan (λ l. both-after m w r x rows l (omega arith) after) (λ l. row_first m w r x rows b l))
    (λ b. absurd (h b))
    (λ b.
    by-mpan x m
    (λ l. both-after m w r x rows (omega arith) l after)
    (λ l. replaced-first m w r x rows b l)
    (λ l. new-first m w r x rows b l))

-- one of its own meter is stored in the row
pub registered-own : (m w : ℕ) (r : Row) (rows : List Row) → r.mpan ≡ m → with_registration m w (with_row r rows) ≡ with_row (record { mpan = m; registration = w; reading = r.reading }) rows
unfolding with_row
registered-own m w r [] h = registration.stored_here r [] m w h
registered-own m w r (x ∷ rows) h =
    let replaced : Row = record { mpan = m; registration = w; reading = r.reading } in
    by_order x m
    (λ b.
    rw (row_next r x rows (omega arith), row_next replaced x rows b, registration.stored_next x (with_row r rows) m w b)
    (ap (λ (l : List Row). x ∷ l) (registered-own m w r rows h)))
    (λ b. rw (row_here r x rows (omega arith), row_here replaced x rows b) (registration.stored_here r (x ∷ rows) m w h))

-- and one of a new meter is its row put in its place
pub registered-new : (m w : ℕ) (rows : List Row) → is_known m rows ≡ false → with_registration m w rows ≡ with_row (new_row m w) rows
unfolding with_row with_registration
registered-new m w [] h = refl
registered-new m w (x ∷ rows) h =
    by-mpan x m
    (λ b.
    let k : is_known m rows ≡ false = rw (known_next x rows m (λ e. omega arith)) at h in
    rw (registration.stored_next x rows m w b, row_next (new_row m w) x rows b, registered-new m w rows k))
    (λ b. absurd (true≢false (sym (known-here x rows m b) ∙ h)))
    (λ b. rw (registration.stored-before x rows m w b, row_here (new_row m w) x rows (omega arith)))

-- the same of a reading, which leaves rows that are not its meter's

pub read-other : (m w : ℕ) (r : Row) (rows : List Row) → (r.mpan ≡ m → ⊥) → with_reading m w (with_row r rows) ≡ with_row r (with_reading m w rows)
unfolding with_row with_reading
read-other m w r [] h = reading.stored_next r [] m w h
read-other m w r (x ∷ rows) h =
    let replaced : Row = record { mpan = m; registration = x.registration; reading = w } in
    by_order x r.mpan
    (λ l.
    rw (row_next r x rows l)
    (by-meter x m
    (λ b. rw (reading.stored_here x (with_row r rows) m w b, reading.stored_here x rows m w b) (sym (row_next r replaced rows (omega arith))))
    (λ b. rw (reading.stored_next x (with_row r rows) m w b, reading.stored_next x rows m w b, read-other m w r rows h) (sym (row_next r x (with_reading m w rows) l)))))
    (λ l.
    rw (row_here r x rows l, reading.stored_next r (x ∷ rows) m w h)
    (by-meter x m
    (λ b. rw (reading.stored_here x rows m w b) (sym (row_here r replaced rows (omega arith))))
    (λ b. rw (reading.stored_next x rows m w b) (sym (row_here r x (with_reading m w rows) l)))))

pub read-own : (m w : ℕ) (r : Row) (rows : List Row) → r.mpan ≡ m → with_reading m w (with_row r rows) ≡ with_row (record { mpan = m; registration = r.registration; reading = w }) rows
unfolding with_row
read-own m w r [] h = reading.stored_here r [] m w h
read-own m w r (x ∷ rows) h =
    let replaced : Row = record { mpan = m; registration = r.registration; reading = w } in
    by_order x m
    (λ b.
    rw (row_next r x rows (omega arith), row_next replaced x rows b, reading.stored_next x (with_row r rows) m w (λ e. omega arith))
    (ap (λ (l : List Row). x ∷ l) (read-own m w r rows h)))
    (λ b. rw (row_here r x rows (omega arith), row_here replaced x rows b) (reading.stored_here r (x ∷ rows) m w h))

pub read-unknown : (m w : ℕ) (rows : List Row) → is_known m rows ≡ false → with_reading m w rows ≡ rows
unfolding with_reading
read-unknown m w [] h = refl
read-unknown m w (x ∷ rows) h =
    by-meter x m
    (λ b. absurd (true≢false (sym (known-here x rows m b) ∙ h)))
    (λ b. reading.stored_next x rows m w b ∙ ap (λ (l : List Row). x ∷ l) (read-unknown m w rows (rw (known_next x rows m b) at h)))

-- rows that rise still do with a well-formed row of another meter among them
pub row-formed : (before : ℕ) (r : Row) (rows : List Row) → rows_formed before rows ≡ true → Words r → before < r.mpan → is_known r.mpan rows ≡ false → rows_formed before (with_row r rows) ≡ true
unfolding with_row
row-formed before r [] f ws above k = first-formed before r [] (record { words = ws; above = above; after = formed-none r.mpan })
row-formed before r (x ∷ rows) f ws above k =
    let first = formed-first before x rows f in
    by-mpan x r.mpan
    (λ b.
    let k' : is_known r.mpan rows ≡ false = rw (known_next x rows r.mpan (λ e. omega arith)) at k in
    rw (row_next r x rows b)
    (first-formed before x (with_row r rows) (record { words = first.words; above = first.above; after = row-formed x.mpan r rows first.after ws b k' })))
    (λ b. absurd (true≢false (sym (known-here x rows r.mpan b) ∙ k)))
    (λ b.
    rw (row_here r x rows (omega arith))
    (first-formed before r (x ∷ rows)
    (record { words = ws; above = above; after = first-formed r.mpan x rows (record { words = first.words; above = b; after = first.after }) })))
