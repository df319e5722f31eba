-- Rows with a word stored: a change to the row of one meter, or a new row, wherever it stands among the others.
use Prim.Native.Nat.{ℕ}
use mathlib.Core.Path.{◌≡◌, refl, sym, ◌∙◌, ap}
use mathlib.Core.Bool.{Bool, true, false, ◌||◌, cond, true≢false}
use mathlib.Core.List.{List, [], ◌∷◌, map}
use native.Mathlib.Omega.{arith}
use borrow.Author.Tests.{lt-ltb, le-ltb, eqb-true, eqb-false, eq-eqb, ne_eqb}
use lib.Dec.{eqb}
use Rattle.words.specs.Reading.{issue_of}
use Rattle.words.proofs.Tests.{by-test}
use Rattle.book.specs.Rows.{Row, rows_formed, is_known, issue_held, new_row, with_registration, with_reading}
use Rattle.book.specs.Helpers.{row}
use Rattle.book.proofs.Rising.{formed-first}
use Rattle.book.proofs.PlaceOf.{by-mpan, known_next, known-here, none_above}
use Rattle.cells.proofs.Each.{Each, entry}
use Rattle.cells.proofs.Permuted.{Permuted, keep, exchange, chain, as-it-is}
use Rattle.meaning.specs.Moves.{is_in}
use Rattle.meaning.proofs.Lists.{eqb-either-way}

-- the row of the meter m changed, and any other as it was
unfoldable pub at_meter : ℕ → (Row → Row) → Row → Row
at_meter m change r = cond (eqb r.mpan m) (change r) r

-- a row with another word 1, and with another word 2
abbrev pub registered_as : ℕ → Row → Row
registered_as word r = row r.mpan word r.reading

abbrev pub read_as : ℕ → Row → Row
read_as word r = row r.mpan r.registration word

module _ (m : ℕ) (change : Row → Row) (r : Row) where
  pub changed-here : r.mpan ≡ m → at_meter m change r ≡ change r
  unfolding at_meter
  changed-here h = rw (eq-eqb r.mpan m h)

  pub changed-not : (r.mpan ≡ m → ⊥) → at_meter m change r ≡ r
  unfolding at_meter
  changed-not h = rw (ne_eqb r.mpan m h)

-- a meter that is not there is not changed
none-changed : (m : ℕ) (change : Row → Row) (rows : List Row) → is_known m rows ≡ false → map (at_meter m change) rows ≡ rows
none-changed m change [] h = refl
none-changed m change (r ∷ rows) h =
    by-test (eqb r.mpan m)
    (λ e. absurd (true≢false (sym (known-here r rows m (eqb-true r.mpan m e)) ∙ h)))
    (λ e.
    let n = eqb-false r.mpan m e in
    rw (changed-not m change r n, none-changed m change rows (sym (known_next r rows m n) ∙ h)))

-- the word 1 of a known meter
pub registration-mapped : (before m w : ℕ) (rows : List Row) → rows_formed before rows ≡ true → is_known m rows ≡ true → with_registration m w rows ≡ map (at_meter m (registered_as w)) rows
unfolding is_known with_registration
registration-mapped before m w [] f h = absurd (true≢false (sym h))
registration-mapped before m w (r ∷ rows) f h =
    let after = (formed-first before r rows f).after in
    by-mpan r m
    (λ b.
    let n : r.mpan ≡ m → ⊥ = λ e. omega arith in
    rw (lt-ltb r.mpan m b, changed-not m (registered_as w) r n, registration-mapped r.mpan m w rows after (sym (known_next r rows m n) ∙ h)))
    (λ b.
    rw (le-ltb r.mpan m (omega arith), eq-eqb r.mpan m b, changed-here m (registered_as w) r b, b, none-changed m (registered_as w) rows (none_above r.mpan rows m after (omega arith))))
    (λ b. absurd (true≢false (sym h ∙ known_next r rows m (λ e. omega arith) ∙ none_above r.mpan rows m after (omega arith))))

-- the word 2 of a meter
pub reading-mapped : (before m w : ℕ) (rows : List Row) → rows_formed before rows ≡ true → with_reading m w rows ≡ map (at_meter m (read_as w)) rows
unfolding with_reading
reading-mapped before m w [] f = refl
reading-mapped before m w (r ∷ rows) f =
    let after = (formed-first before r rows f).after in
    by-test (eqb r.mpan m)
    (λ e.
    let b = eqb-true r.mpan m e in
    rw (e, changed-here m (read_as w) r b, b, none-changed m (read_as w) rows (none_above r.mpan rows m after (omega arith))))
    (λ e. rw (e, changed-not m (read_as w) r (eqb-false r.mpan m e), reading-mapped r.mpan m w rows after))

-- a new meter's row, wherever it stands
pub registration-added : (m w : ℕ) (rows : List Row) → is_known m rows ≡ false → Permuted Row (with_registration m w rows) (new_row m w ∷ rows)
unfolding with_registration
registration-added m w [] h = as-it-is (new_row m w ∷ [])
registration-added m w (r ∷ rows) h =
    by-mpan r m
    (λ b.
    rw (lt-ltb r.mpan m b)
    (chain (keep (registration-added m w rows (sym (known_next r rows m (λ e. omega arith)) ∙ h))) exchange))
    (λ b. absurd (true≢false (sym (known-here r rows m b) ∙ h)))
    (λ b. rw (le-ltb r.mpan m (omega arith), ne_eqb r.mpan m (λ e. omega arith)) (as-it-is (new_row m w ∷ r ∷ rows)))

-- a meter is known exactly if its MPAN is among those of the rows
abbrev pub mpan_of : Row → ℕ
mpan_of r = r.mpan

either-test : (a b : Bool) → cond a true b ≡ (a || b)
either-test true b = refl
either-test false b = refl

pub known_in : (m : ℕ) (rows : List Row) → is_known m rows ≡ is_in m (map mpan_of rows)
unfolding is_known is_in
known_in m [] = refl
known_in m (r ∷ rows) =
    either-test (eqb r.mpan m) (is_known m rows)
    ∙ ap (λ (t : Bool). t || is_known m rows) (eqb-either-way r.mpan m)
    ∙ ap (λ (t : Bool). eqb m r.mpan || t) (known_in m rows)

-- a row is the one that a function gives for its MPAN
pub record GivenBy (meter : ℕ → Row) (r : Row) : Type 0 where
  pub same : r ≡ meter r.mpan

-- the issue that a known meter holds, where each row is so given
pub issue-given : (meter : ℕ → Row) (m : ℕ) (rows : List Row) → Each (GivenBy meter) rows → is_known m rows ≡ true → issue_held m rows ≡ issue_of (meter m).reading
unfolding is_known issue_held
issue-given meter m [] each h = absurd (true≢false (sym h))
issue-given meter m (r ∷ rows) (entry g each) h =
    by-test (eqb r.mpan m)
    (λ e. rw e (ap (λ (k : Row). issue_of k.reading) g.same ∙ ap (λ (k : ℕ). issue_of (meter k).reading) (eqb-true r.mpan m e)))
    (λ e. rw e (issue-given meter m rows each (sym (known_next r rows m (eqb-false r.mpan m e)) ∙ h)))
