-- What a meter holds in well-formed rows: words of a row, or none.
use Prim.Native.Nat.{ℕ}
use mathlib.Core.Path.{◌≡◌, refl}
use mathlib.Core.Bool.{true, ◌&&◌, and-eq-true_iff}
use mathlib.Core.List.{List, [], ◌∷◌}
use lib.Dec.{eqb, ltb}
use Rattle.std.specs.List.{list_all}
use Rattle.words.proofs.Tests.{by-test}
use Rattle.book.specs.Rows.{Row, is_row, rows_formed}
use Rattle.book.specs.Helpers.{held_in}
use Rattle.book.proofs.Rising.{formed-first}
use Rattle.running.specs.Helpers.{BeforeFormed}

pub held-formed : (m before : ℕ) (rows : List Row) → rows_formed before rows ≡ true → BeforeFormed (held_in m rows)
unfolding held_in
held-formed m before [] h = tt
held-formed m before (r ∷ rows) h =
    let f = formed-first before r rows h in
    by-test (eqb r.mpan m)
    (λ e. rw e (record { registered = f.words.registration-formed; read = f.words.reading-formed }))
    (λ e. rw e (held-formed m r.mpan rows f.after))

-- rows that rise are each well formed
pub formed-all : (before : ℕ) (rows : List Row) → rows_formed before rows ≡ true → list_all is_row rows ≡ true
unfolding rows_formed
formed-all before [] h = refl
formed-all before (r ∷ rows) h =
    let parts = (and-eq-true_iff (is_row r && ltb before r.mpan) (rows_formed r.mpan rows)).0 h in
    let first = (and-eq-true_iff (is_row r) (ltb before r.mpan)).0 parts.0 in
    rw (first.0, formed-all r.mpan rows parts.1)
