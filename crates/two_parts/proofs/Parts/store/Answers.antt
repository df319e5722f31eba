-- `store` leaves what storing leaves in the parts merged, and merges them where the second has its most rows. Assumes nothing.
use Prim.Native.Nat.{◌+◌}
use mathlib.Core.Path.{◌≡◌, refl, ap}
use native.Mathlib.Nat.{add-zero}
use native.Mathlib.Omega.{arith}
use Rattle.two_parts.specs.declared.Parts.{Parts}
use Rattle.two_parts.specs.TwoParts.{as_one}
use Rattle.two_parts.proofs.AsOne.{both-fit, merged-same, merged-ready}
use Rattle.two_parts.proofs.LaterStored.{index-first}
use Rattle.two_parts.proofs.Parts.store.Goals.{in-Ok, in_default}
use Rattle.two_parts.proofs.Parts.store.Goals as goal

pub overflow_add-self : goal.overflow_add-self
overflow_add-self g c = omega (arith, index-first _ _ _ c.find_first-place.ensures c.in-Ok.is, both-fit c.args.self.now.ready)

pub overflow_add-meters : goal.overflow_add-meters
overflow_add-meters g c = omega (arith, both-fit c.in_ok-later.ensures.stored.ready)

pub invariant_of-self-2 : goal.invariant_of-self-2
invariant_of-self-2 g c = record { ready = merged-ready c.in_ok-later.ensures.stored.ready c.merge_rows.ensures; short = omega arith }

-- the row to try first is none of what is stored
pub returns-clause-stored : goal.returns-clause-stored
returns-clause-stored g c =
    let before = c.args.self.now in
    let there = c.match-place.self in
    let rows : there.rows ≡ before.rows =
    elim c.match-place.branch [ in-Ok w ↦ ap (λ (p : Parts). p.rows) w.self-is | in_default w ↦ ap (λ (p : Parts). p.rows) w.self-is ] in
    let later : there.later ≡ before.later =
    elim c.match-place.branch [ in-Ok w ↦ ap (λ (p : Parts). p.later) w.self-is | in_default w ↦ ap (λ (p : Parts). p.later) w.self-is ] in
    let l = c.in_ok-later.ensures.stored in
    let same : as_one (before.first + c.in_ok-later.later) 0 c.merge_rows.new.rows ≡ as_one before.first c.in_ok-later.later c.store_apart.new.rows = merged-same {words = c.store_apart.new.rows} l.ready refl refl c.merge_rows.ensures in
    record {
      leaves = record {
        same_slice = ap (λ (r : _). r.ghost_name) rows;
        stores = rw same (rw (rows, later) at l.stores);
        counted = add-zero (before.first + c.in_ok-later.later);
      };
    }
