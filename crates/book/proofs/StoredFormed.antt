-- Well-formed rows stay so where a registration in range, or a reading in range of an allowed quality, is stored.
use Prim.Native.Nat.{ℕ, ◌<◌}
use mathlib.Core.Path.{◌≡◌}
use mathlib.Core.Bool.{true, and-eq-true_iff}
use mathlib.Core.List.{List}
use native.Mathlib.Omega.{arith}
use borrow.Author.Tests.{leb-true}
use lib.Dec.{leb}
use Rattle.words.specs.declared.Registration.{Registration}
use Rattle.words.specs.declared.Reading.{Reading}
use Rattle.words.specs.Limits.{mpan_least, mpan_most}
use Rattle.words.specs.Mpan.{is_mpan}
use Rattle.words.specs.Registration.{registration_in_range, registration_word}
use Rattle.words.specs.Reading.{reading_in_range, quality_allowed, reading_word}
use Rattle.words.proofs.RegistrationWord.{registration-word-well-formed}
use Rattle.words.proofs.ReadingWord.{reading-word-well-formed}
use Rattle.book.specs.Rows.{Row, rows_formed, with_registration, with_reading}
use Rattle.book.specs.Store.{register_in_range, reading_call_in_range}
use Rattle.book.proofs.WithRegistration.{registration-formed}
use Rattle.book.proofs.WithReading.{reading-formed}

above-nothing : (m : ℕ) → is_mpan m ≡ true → 0 < m
unfolding is_mpan
above-nothing m h =
    let least = leb-true mpan_least m ((and-eq-true_iff (leb mpan_least m) (leb m mpan_most)).0 h).0 in
    omega arith

pub rows-registered : (m : ℕ) (r : Registration) (rows : List Row) → register_in_range m r ≡ true → rows_formed 0 rows ≡ true → rows_formed 0 (with_registration m (registration_word r) rows) ≡ true
rows-registered m r rows range formed =
    let parts = (and-eq-true_iff (is_mpan m) (registration_in_range r)).0 range in
    registration-formed 0 m (registration_word r) rows formed (above-nothing m parts.0) parts.0 (registration-word-well-formed r parts.1)

pub rows-read : (m : ℕ) (r : Reading) (rows : List Row) → reading_call_in_range m r ≡ true → quality_allowed r ≡ true → rows_formed 0 rows ≡ true → rows_formed 0 (with_reading m (reading_word r) rows) ≡ true
rows-read m r rows range allowed formed =
    reading-formed 0 m (reading_word r) rows formed (reading-word-well-formed r ((and-eq-true_iff (is_mpan m) (reading_in_range r)).0 range).1 allowed)
