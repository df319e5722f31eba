-- Running cells that start at 0 keep up with the rows, so that the program prints what it prints when its calls and its allocation are worked from the rows alone.
use Rattle.std.proofs.Common.{◌≡◌, ℕ, zero, suc, Bool, true, false, cond, not, ◌&&◌, nat_lt, eqb, Option, None, Some, List, [], ◌∷◌, ◌++◌, length, take, drop, replicate, ℤ, pos, refl, ap, ap₂, ◌∙◌, subst, length-set}
use lib.ListN.{length-replicate}
use Rattle.book.specs.declared.Setting.TheVariants.{Shape, Weight, Tolerance, GroupTake}
use Rattle.book.specs.Limits.{categories, shape_missing}
use Rattle.book.specs.Settings.{with_setting}
use Rattle.book.specs.Book.{Book, used_rows}
use Rattle.cells.specs.Cells.{units}
use Rattle.running.specs.Words.{slice_words}
use Rattle.running.specs.Running.{Running, cells_for, within_limits}
use Rattle.calls.specs.declared.Call.{Call}
use Rattle.calls.specs.declared.Call.TheVariants.{Register, Record, Set}
use Rattle.calls.specs.Calls.{outcome, call_cause, book_made, call_outcome}
use Rattle.calls.proofs.KeptUp.{Kept, call_kept, kept-in-limits, fresh_kept}
use Rattle.allocation.specs.Allocate.{allocate_call}
use Rattle.allocation.specs.Running.{allocate_running}
use Rattle.allocation.proofs.SameAllocation.{same_answer, same-volumes}
use Rattle.period_file.specs.Lines.{line_most, line_after}
use Rattle.settle_run.specs.declared.Phase.TheVariants.{InputEnded}
use Rattle.settle_run.specs.Program.{is_reading, has_ended, Work, Step, with_phase, fresh_work, quiet, line_feed_byte, ended, by_cells, line_taken, end_line, take_byte, take_bytes, end_input, closing_text, end_text, settle_text}
use Rattle.settle_run.specs.RowsAlone.{by_rows}

-- a call keeps the number of shapes
made-shapes : (b : Book) (c : Call) → length (book_made b c).settings.shapes ≡ length b.settings.shapes
unfolding book_made with_setting
made-shapes b (Register mpan r) = refl
made-shapes b (Record mpan r) = refl
made-shapes b (Set (Shape category wh)) = length-set b.settings.shapes category wh
made-shapes b (Set (Weight class thousandths)) = refl
made-shapes b (Set (Tolerance g)) = refl
made-shapes b (Set (GroupTake wh)) = refl

outcome-shapes : (cause : ℕ) (b : Book) (c : Call) → length (outcome cause (book_made b c) b).book.settings.shapes ≡ length b.settings.shapes
unfolding outcome
outcome-shapes zero b c = made-shapes b c
outcome-shapes (suc k) b c = refl

call-shapes : (b : Book) (c : Call) → length (call_outcome b c).book.settings.shapes ≡ length b.settings.shapes
unfolding call_outcome
call-shapes b c = outcome-shapes (call_cause b c) b c

-- cells that have kept up, with 64 shapes
record KeptUp (later : List ℤ) (r : Running) : Type 0 where
  pub kept : Kept later r
  pub long : length r.book.settings.shapes ≡ categories

-- what is held with other cells, which have no part in the work from the rows
abbrev with_cells : List ℤ → Work → Work
with_cells cells w =
    record { running = record { book = w.running.book; cells = cells }; phase = w.phase; last_kind = w.last_kind; number = w.number; gathered = w.gathered }

-- a step beside the one that is worked from the rows alone, which has these cells
record Beside (later others : List ℤ) (s alone : Step) : Type 0 where
  pub same : record { work = with_cells others s.work; text = s.text } ≡ alone
  pub up : KeptUp later s.work.running

module _ {later others : List ℤ} where
  either : {a alone_a b alone_b : Step} (t : Bool) → Beside later others a alone_a → Beside later others b alone_b → Beside later others (cond t a b) (cond t alone_a alone_b)
  either true p q = p
  either false p q = q

  line-beside : (w : Work) → KeptUp later w.running → (call : Option Call) → Beside later others (line_taken by_cells w call) (line_taken by_rows (with_cells others w) call)
  unfolding by_cells by_rows
  line-beside w k None = record { same = refl; up = k }
  line-beside w k (Some c) =
      let called = call_kept k.kept c in
      record {
        same = rw (called.number, called.book);
        up = record { kept = called.kept; long = rw called.book (call-shapes w.running.book c ∙ k.long) };
      }

  end-line-beside : (w : Work) → KeptUp later w.running → Beside later others (end_line by_cells w) (end_line by_rows (with_cells others w))
  unfolding end_line
  end-line-beside w k = line-beside w k (line_after w.last_kind w.gathered)

  byte-beside : (w : Work) → KeptUp later w.running → (byte : ℕ) → Beside later others (take_byte by_cells w byte) (take_byte by_rows (with_cells others w) byte)
  unfolding take_byte
  byte-beside w k byte =
      either (is_reading w.phase)
      (either (eqb byte line_feed_byte) (end-line-beside w k)
      (either (nat_lt (length w.gathered) line_most) (record { same = refl; up = k }) (record { same = refl; up = k })))
      (record { same = refl; up = k })

  bytes-beside : (w : Work) → KeptUp later w.running → (bytes : List ℕ) → Beside later others (take_bytes by_cells w bytes) (take_bytes by_rows (with_cells others w) bytes)
  unfolding take_bytes
  bytes-beside w k [] = record { same = refl; up = k }
  bytes-beside w k (byte ∷ bytes) =
      let first = byte-beside w k byte in
      let rest = bytes-beside (take_byte by_cells w byte).work first.up bytes in
      record { same = rw (← first.same, ← rest.same); up = rest.up }

  end-beside : (w : Work) → KeptUp later w.running → Beside later others (end_input by_cells w) (end_input by_rows (with_cells others w))
  unfolding end_input
  end-beside w k = either (has_ended w.phase && not (eqb (length w.gathered) 0)) (end-line-beside w k) (record { same = refl; up = k })

  ended-beside : {s alone : Step} → Beside later others s alone → Beside later others (quiet (ended s.work)) (quiet (ended alone.work))
  ended-beside {s} b = rw (← b.same) (by (is_reading s.work.phase))
    where
      by : (t : Bool) → Beside later others (quiet (cond t (with_phase InputEnded s.work) s.work)) (quiet (cond t (with_phase InputEnded (with_cells others s.work)) (with_cells others s.work)))
      by true = record { same = refl; up = b.up }
      by false = record { same = refl; up = b.up }

-- the allocation of cells that have kept up
module _ {later : List ℤ} {r : Running} (k : KeptUp later r) (volumes : List ℤ) where
  abbrev cells : List ℤ
  cells = cells_for r.book.settings.shapes (used_rows r.book) ++ later

  running-is : r ≡ record { book = r.book; cells = cells }
  running-is = ap (λ (xs : List ℤ). record { book = r.book; cells = xs }) k.kept.cells_are

  within : within_limits cells ≡ true
  within = subst (λ (xs : List ℤ). within_limits xs ≡ true) k.kept.cells_are (kept-in-limits k.kept)

  answer-alone : (allocate_running r volumes).answer ≡ (allocate_call r.book volumes).answer
  answer-alone = ap (λ (s : Running). (allocate_running s volumes).answer) running-is ∙ same_answer r.book later k.long within volumes

  volumes-alone : (allocate_running r volumes).volumes ≡ (allocate_call r.book volumes).volumes
  volumes-alone = ap (λ (s : Running). (allocate_running s volumes).volumes) running-is ∙ same-volumes r.book later k.long within volumes

module _ {later others : List ℤ} {s alone : Step} where
  closing-alone : Beside later others s alone → closing_text by_cells s.work ≡ closing_text by_rows alone.work
  unfolding closing_text by_cells by_rows
  closing-alone b = rw (← b.same, answer-alone b.up (replicate units (pos 0)), volumes-alone b.up (replicate units (pos 0)))

end-text-alone : {later others : List ℤ} {s alone : Step} → Beside later others s alone → end_text by_cells s.work ≡ end_text by_rows alone.work
unfolding end_text
end-text-alone {s = s} b =
    let end = end-beside s.work b.up in
    rw (← b.same) (ap₂ (λ (a c : List ℕ). a ++ c) (ap (λ (x : Step). x.text) end.same) (closing-alone end))

-- cells whose first 836 words are 0, whatever the words of the rows; from the rows alone it is worked whatever the cells
pub rows-alone : (words : List ℕ) (cells others : List ℤ) → take slice_words cells ≡ replicate slice_words (pos 0) → (input : List ℕ)
    → settle_text by_cells words cells input ≡ settle_text by_rows words others input
unfolding settle_text
rows-alone words cells others zeros input =
    let fresh : KeptUp (drop slice_words cells) (fresh_work words cells).running = record { kept = fresh_kept words cells zeros; long = length-replicate categories shape_missing } in
    let read = bytes-beside {others = others} (fresh_work words cells) fresh input in
    ap₂ (λ (a b : List ℕ). a ++ b) (ap (λ (s : Step). s.text) read.same) (end-text-alone (ended-beside read))
