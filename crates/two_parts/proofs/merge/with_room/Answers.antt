-- `with_room` leaves the parts where the second has room, and else merges them: then all rows are the first part's. Assumes nothing.
use Prim.Native.Nat.{ℕ, ◌+◌, ◌-◌, ◌≤◌}
use mathlib.Core.Path.{◌≡◌, refl, sym}
use mathlib.Core.List.{List}
use native.Mathlib.Omega.{arith}
use Rattle.two_parts.specs.TwoParts.{as_one, PartsReady, HasRoom}
use Rattle.two_parts.proofs.AsOne.{merged-ready, merged-same}
use Rattle.two_parts.proofs.merge.with_room.Goals as goal

-- the parts merged have no rows in the second
merged-room : (first meters : ℕ) (words words' : List ℕ) → first ≤ meters → PartsReady first (meters - first) words → words' ≡ as_one first (meters - first) words → HasRoom first meters words meters words'
merged-room first meters words words' h ready e =
    let all : first + (meters - first) ≡ meters = omega arith in
    let none : meters - meters ≡ 0 = omega arith in
    record {
      within = omega arith;
      ready = rw none (rw all at (merged-ready ready e));
      same = merged-same ready (sym all) none e;
      room = omega arith;
    }

-- the check finds this one itself; written out, the number of rows decides it
pub returns-then-meters-first-lt-LATER_MAX : goal.returns-then-meters-first-lt-LATER_MAX
returns-then-meters-first-lt-LATER_MAX c = record { within = c.requires.within; ready = c.requires.ready; same = refl; room = omega arith }

pub returns : goal.returns
returns c = merged-room _ _ _ _ c.requires.within c.requires.ready c.merge_parts.ensures
