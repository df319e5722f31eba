-- What storing a registration or a reading changes in a sum over the rows: what the meter held goes, and what it holds then is added.
use Prim.Native.Nat.{ℕ}
use mathlib.Core.Path.{◌≡◌, refl, ◌∙◌}
use mathlib.Core.Bool.{true}
use mathlib.Core.List.{List, [], ◌∷◌}
use native.Mathlib.Omega.{arith}
use borrow.Author.Tests.{eqb-true, eqb-false}
use lib.Dec.{eqb}
use lib.IntN.{ℤ, pos, ◌+ℤ◌, ◌-ℤ◌}
use Rattle.integers.specs.Sum.{sum}
use Rattle.integers.proofs.Linear.{linear, plus, minus}
use Rattle.words.proofs.Tests.{by-test}
use Rattle.book.specs.Rows.{Row, rows_formed, is_known, new_row, with_registration, with_reading}
use Rattle.book.specs.Helpers.{row, held_in}
use Rattle.book.proofs.Rising.{formed-first}
use Rattle.book.proofs.PlaceOf.{by-mpan, first_above}
use Rattle.book.proofs.WithRegistration as registration
use Rattle.book.proofs.WithReading as reading
use Rattle.book.proofs.HeldIn.{held_next, held-here, held_none}
use Rattle.cells.specs.Cells.{sum_over}
use Rattle.cells.specs.Helpers.{held_gives}
use Rattle.cells.proofs.SumOver.{sum-over-added, sum-over-changed}

-- the same change behind one row more
behind : (x s h k t : ℤ) → t ≡ s -ℤ h +ℤ k → x +ℤ t ≡ x +ℤ s -ℤ h +ℤ k
behind x s h k t e =
    omega (linear, e, plus x t, plus x s, minus s h, plus (s -ℤ h) k, minus (x +ℤ s) h, plus (x +ℤ s -ℤ h) k)

none_before : (s k : ℤ) → s +ℤ k ≡ s -ℤ pos 0 +ℤ k
none_before s k = omega (linear, plus s k, minus s (pos 0), plus (s -ℤ pos 0) k)

module _ (f : ℕ → ℕ → ℤ) where
  pub sum-recorded : (m w : ℕ) (rows : List Row) → sum_over f (with_reading m w rows) ≡ sum_over f rows -ℤ held_gives f (held_in m rows) +ℤ held_gives f (held_in m (with_reading m w rows))
  unfolding with_reading held_in held_gives sum_over sum
  sum-recorded m w [] = refl
  sum-recorded m w (r ∷ rows) =
      by-test (eqb r.mpan m)
      (λ e.
      let b = eqb-true r.mpan m e in
      rw (reading.stored_here r rows m w b, held-here r rows m b, held-here (row m r.registration w) rows m refl)
      (sum-over-changed f [] r (row m r.registration w) rows))
      (λ e.
      let n = eqb-false r.mpan m e in
      rw (reading.stored_next r rows m w n, held_next r rows m n, held_next r (with_reading m w rows) m n)
      (behind (f r.registration r.reading) (sum_over f rows) (held_gives f (held_in m rows)) (held_gives f (held_in m (with_reading m w rows))) (sum_over f (with_reading m w rows)) (sum-recorded m w rows)))

  pub sum-registered : (before m w : ℕ) (rows : List Row) → rows_formed before rows ≡ true
      → sum_over f (with_registration m w rows) ≡ sum_over f rows -ℤ held_gives f (held_in m rows) +ℤ held_gives f (held_in m (with_registration m w rows))
  unfolding with_registration is_known held_gives sum_over sum
  sum-registered before m w [] formed = rw (held-here (new_row m w) [] m refl, held_none m [] refl) (sum-over-added f [] (new_row m w) [] ∙ none_before (pos 0) (f w 0))
  sum-registered before m w (r ∷ rows) formed =
      by-mpan r m
      (λ b.
      let n : r.mpan ≡ m → ⊥ = λ e. omega arith in
      rw (registration.stored_next r rows m w b, held_next r rows m n, held_next r (with_registration m w rows) m n)
      (behind (f r.registration r.reading) (sum_over f rows) (held_gives f (held_in m rows)) (held_gives f (held_in m (with_registration m w rows))) (sum_over f (with_registration m w rows))
      (sum-registered r.mpan m w rows (formed-first before r rows formed).after)))
      (λ b.
      rw (registration.stored_here r rows m w b, held-here r rows m b, held-here (row m w r.reading) rows m refl)
      (sum-over-changed f [] r (row m w r.reading) rows))
      (λ b.
      rw (registration.stored-before r rows m w b, held-here (new_row m w) (r ∷ rows) m refl, held_none m (r ∷ rows) (first_above before r rows m formed b))
      (sum-over-added f [] (new_row m w) (r ∷ rows) ∙ none_before (sum_over f (r ∷ rows)) (f w 0)))
