-- Which meters are known after a registration, and after a reading.
use Prim.Native.Nat.{ℕ}
use mathlib.Core.Path.{◌≡◌, refl, sym, ◌∙◌, ap}
use mathlib.Core.Bool.{Bool, true, false, cond, true≢false}
use mathlib.Core.List.{List, [], ◌∷◌}
use borrow.Author.Tests.{eqb-true, eqb-false, ne_eqb}
use lib.Dec.{eqb}
use Rattle.words.proofs.Tests.{by-test}
use Rattle.book.specs.Rows.{Row, is_known, with_registration, with_reading}
use Rattle.book.proofs.PlaceOf.{by-mpan}
use Rattle.book.proofs.WithRegistration as registration
use Rattle.book.proofs.WithReading as reading

-- the meter registered, and those known before
pub known-registered : (q m w : ℕ) (rows : List Row) → is_known q (with_registration m w rows) ≡ cond (eqb m q) true (is_known q rows)
unfolding is_known with_registration
known-registered q m w [] = refl
known-registered q m w (r ∷ rows) =
    by-mpan r m
    (λ b. rw (registration.stored_next r rows m w b, known-registered q m w rows) (either_first (eqb r.mpan q) (eqb m q)))
    (λ b. rw (registration.stored_here r rows m w b, b) (both (eqb m q) (is_known q rows)))
    (λ b. rw (registration.stored-before r rows m w b))
  where
    either_first : (s t : Bool) → cond s true (cond t true (is_known q rows)) ≡ cond t true (cond s true (is_known q rows))
    either_first true true = refl
    either_first true false = refl
    either_first false t = refl

    both : (t rest : Bool) → cond t true rest ≡ cond t true (cond t true rest)
    both true rest = refl
    both false rest = refl

pub known_read : (q m w : ℕ) (rows : List Row) → is_known q (with_reading m w rows) ≡ is_known q rows
unfolding is_known with_reading
known_read q m w [] = refl
known_read q m w (r ∷ rows) =
    by-test (eqb r.mpan m)
    (λ e. rw (reading.stored_here r rows m w (eqb-true r.mpan m e), eqb-true r.mpan m e))
    (λ e. rw (reading.stored_next r rows m w (eqb-false r.mpan m e), known_read q m w rows))

-- no meter stands in both parts after a registration in one of them, where the meter does not stand in the other
module _ (m w : ℕ) (first later : List Row) (apart : (q : ℕ) → is_known q later ≡ true → is_known q first ≡ false) where
  pub registered-later-apart : is_known m first ≡ false → (q : ℕ) → is_known q (with_registration m w later) ≡ true → is_known q first ≡ false
  registered-later-apart h q k =
      by-test (eqb m q)
      (λ e. rw (eqb-true m q e) at h)
      (λ e. apart q (rw (known-registered q m w later, e) at k))

  pub registered-first-apart : is_known m later ≡ false → (q : ℕ) → is_known q later ≡ true → is_known q (with_registration m w first) ≡ false
  registered-first-apart h q k =
      rw (known-registered q m w first, ne_eqb m q (λ e. true≢false (sym k ∙ ap (λ (x : ℕ). is_known x later) (sym e) ∙ h))) (apart q k)

-- and the other way round: no meter of the first part is in the later one
pub apart-the-other-way : (first later : List Row) → ((q : ℕ) → is_known q later ≡ true → is_known q first ≡ false) → (q : ℕ) → is_known q first ≡ true → is_known q later ≡ false
apart-the-other-way first later apart q h =
    by-test (is_known q later)
    (λ k. absurd (true≢false (sym h ∙ apart q k)))
    (λ k. k)
