-- The calls of a list made so far, on rows that stand in two parts: what holds at each turn.
use Prim.Native.Nat.{ℕ}
use mathlib.Core.Path.{◌≡◌, refl}
use mathlib.Core.Bool.{true}
use mathlib.Core.List.{List}
use native.Mathlib.Omega.{arith}
use Rattle.book.specs.declared.Settings.{Settings}
use Rattle.book.specs.Book.{lent, well_formed}
use Rattle.book.proofs.WellFormed.{room, rows-ready}
use Rattle.running.specs.declared.RunningCells.{RunningCells}
use Rattle.running.specs.Running.{Running, running_of}
use Rattle.running.specs.Lent.{lent_slice, lent_cells}
use Rattle.two_parts.specs.declared.Parts.{Parts}
use Rattle.two_parts.specs.Apart.{rows_together, meters_of}
use Rattle.two_parts.proofs.AsOne.{as-one-none}
use Rattle.listing.proofs.ListMade.{Made, none_made}

-- the first i calls are made, on rows that the parts stand for and with these cells
pub record MadeInParts (start : Running) (calls : List (List ℕ)) (numbers₀ : List ℕ) (i : ℕ) (made : Settings) (lent_parts parts : Parts) (lent_cells_then cells : RunningCells) (numbers : List ℕ) : Type 0 where
  pub same_slice : parts.rows.ghost_name ≡ lent_parts.rows.ghost_name
  pub same_cells : lent_slice cells ≡ lent_slice lent_cells_then
  pub counted : made.meters ≡ meters_of parts
  pub made-so : Made start calls numbers₀ i (running_of made (rows_together parts) (lent_cells cells)) numbers

pub none-made-in-parts : (s : Settings) (words : List ℕ) (calls : List (List ℕ)) (numbers₀ : List ℕ) (parts : Parts) (cells : RunningCells) → well_formed (lent s words) ≡ true → parts.rows.now ≡ words → parts.first ≡ s.meters → parts.later ≡ 0
    → MadeInParts (running_of s words (lent_cells cells)) calls numbers₀ 0 s parts parts cells cells numbers₀
none-made-in-parts s words calls numbers₀ parts cells wf rows first later =
    let ready = rows-ready s words wf in
    record {
      same_slice = refl;
      same_cells = refl;
      counted = rw (first, later) (omega arith);
      made-so = rw (rows, first, later, as-one-none s.meters words (room words s.meters ready.within-capacity)) (none_made (running_of s words (lent_cells cells)) calls numbers₀ wf);
    }
