-- The program `settle`: what it holds between two bytes of its input, what each byte changes, and what is printed.
use Rattle.std.specs.Prelude.{ℕ, ◌+◌, ◌%◌, ◌^◌, Bool, true, false, cond, not, ◌&&◌, Option, None, Some, List, [], ◌∷◌, ◌++◌, length, replicate, ℤ, pos, ◌==◌, nat_lt}
use Rattle.refusals.specs.Causes.{accepted}
use Rattle.book.specs.Book.{fresh_book}
use Rattle.running.specs.Running.{Running}
use Rattle.calls.specs.declared.Call.{Call}
use Rattle.calls.specs.Running.{RunningOutcome, running_call}
use Rattle.cells.specs.Cells.{units}
use Rattle.allocation.specs.Running.{RunningAllocation, allocate_running}
use Rattle.period_file.specs.declared.LineKind.{LineKind}
use Rattle.period_file.specs.Lines.{line_most, call_kind, line_after}
use Rattle.report.specs.Lines.{refused_line, bad_line, allocation_text}
use Rattle.settle_run.specs.declared.Phase.{Phase}
use Rattle.settle_run.specs.declared.Phase.TheVariants.{Reading, InputEnded, Stopped}

-- how far the work is: at a byte of the input, past its end, or ended by a line out of form
abbrev pub is_reading : Phase → Bool
is_reading Reading = true
is_reading InputEnded = false
is_reading Stopped = false

abbrev pub has_ended : Phase → Bool
has_ended Reading = false
has_ended InputEnded = true
has_ended Stopped = false

-- what is held between two bytes: the book with its running cells, how far the work is, the kind of the last line, the number of the line that is being
-- gathered, and its bytes so far
pub record Work : Type 0 where
  pub running : Running
  pub phase : Phase
  pub last_kind : Option LineKind
  pub number : ℕ
  pub gathered : List ℕ

abbrev pub with_phase : Phase → Work → Work
with_phase phase w =
    record { running = w.running; phase = phase; last_kind = w.last_kind; number = w.number; gathered = w.gathered }

abbrev pub with_gathered : List ℕ → Work → Work
with_gathered gathered w =
    record { running = w.running; phase = w.phase; last_kind = w.last_kind; number = w.number; gathered = gathered }

-- before the first byte: a fresh book, no line before, and lines "numbered from 1"
abbrev pub fresh_work : List ℕ → List ℤ → Work
fresh_work words cells =
    record {
      running = record { book = fresh_book words; cells = cells };
      phase = Reading;
      last_kind = None;
      number = 1;
      gathered = [];
    }

-- what is held then, and what is printed on the way
pub record Step : Type 0 where
  pub work : Work
  pub text : List ℕ

abbrev pub quiet : Work → Step
quiet w = record { work = w; text = [] }

-- "A line out of form prints line=its number and ends the program"
abbrev pub out_of_form : Work → Step
out_of_form w = record { work = with_phase Stopped w; text = bad_line w.number }

-- "A refused call prints refused=line,number and work goes on"; lines are "numbered from 1", in a number of 64 bits
abbrev pub call_made : Work → LineKind → RunningOutcome → Step
call_made w kind o =
    record {
      work = record { running = o.running; phase = w.phase; last_kind = Some kind; number = (w.number + 1) % 2 ^ 64; gathered = [] };
      text = cond (o.number == accepted) [] (refused_line w.number o.number);
    }

-- "lines [..] of at most 80 bytes before the line feed": a byte more is out of form, whatever follows it
abbrev pub line_feed_byte : ℕ
line_feed_byte = 10

abbrev pub gather : Work → ℕ → Step
gather w byte =
    cond (nat_lt (length w.gathered) line_most) (quiet (with_gathered (w.gathered ++ (byte ∷ [])) w)) (out_of_form w)

-- a step behind a text that was printed before it
abbrev pub after : List ℕ → Step → Step
after text s = record { work = s.work; text = text ++ s.text }

-- the end of the input, which a read of no byte tells unless a line out of form came before it
abbrev pub ended : Work → Work
ended w = cond (is_reading w.phase) (with_phase InputEnded w) w

-- what comes of one attempt to read: bytes, an attempt that has to be made again, or a failure, which ends the program
pub data Attempt : Type 0 where
  gave : List ℕ → Attempt
  again : Attempt
  failed : Attempt

-- the bytes that attempts gave, and whether none failed or met the end of the input
unfoldable pub given : List Attempt → List ℕ
given [] = []
given (gave bytes ∷ attempts) = bytes ++ given attempts
given (again ∷ attempts) = given attempts
given (failed ∷ attempts) = given attempts

unfoldable pub all_went_on : List Attempt → Bool
all_went_on [] = true
all_went_on (gave [] ∷ attempts) = false
all_went_on (gave (byte ∷ bytes) ∷ attempts) = all_went_on attempts
all_went_on (again ∷ attempts) = all_went_on attempts
all_went_on (failed ∷ attempts) = false

-- what an allocation prints
abbrev pub outcome_text : RunningAllocation → List ℕ
outcome_text o = allocation_text o.answer o.volumes

-- how a call is made, and how the book is allocated: what follows is said once, whatever these two work from
pub record Way : Type 0 where
  pub call : Running → Call → RunningOutcome
  pub allocation : Running → List ℤ → RunningAllocation

-- document 02, request 4: each call keeps the cells up, and "Allocation works from this slice"
unfoldable pub by_cells : Way
by_cells = record { call = running_call; allocation = allocate_running }

module _ (way : Way) where
  -- a line, "and makes the call of each"
  abbrev pub line_taken : Work → Option Call → Step
  line_taken w None = out_of_form w
  line_taken w (Some call) = call_made w (call_kind call) (way.call w.running call)

  -- the end of a line
  unfoldable pub end_line : Work → Step
  end_line w = line_taken w (line_after w.last_kind w.gathered)

  -- one byte; after the end of the program no byte changes anything
  unfoldable pub take_byte : Work → ℕ → Step
  take_byte w byte =
      cond (is_reading w.phase) (cond (byte == line_feed_byte) (end_line w) (gather w byte)) (quiet w)

  -- the bytes one after the other
  unfoldable pub take_bytes : Work → List ℕ → Step
  take_bytes w [] = quiet w
  take_bytes w (byte ∷ bytes) = after (take_byte w byte).text (take_bytes (take_byte w byte).work bytes)

  -- "reads [..] from standard input": the bytes that one read gives; a read that gives none is the end of the input
  unfoldable pub take_read : Work → List ℕ → Step
  take_read w [] = quiet (with_phase InputEnded w)
  take_read w (byte ∷ bytes) = take_bytes w (byte ∷ bytes)

  -- an attempt to read, and several one after the other: what they leave, and what they print
  unfoldable pub take_attempt : Work → Attempt → Step
  take_attempt w (gave bytes) = take_read w bytes
  take_attempt w again = quiet w
  take_attempt w failed = quiet (with_phase Stopped w)

  unfoldable pub take_attempts : Work → List Attempt → Work
  take_attempts w [] = w
  take_attempts w (attempt ∷ attempts) = take_attempts (take_attempt w attempt).work attempts

  unfoldable pub attempts_text : Work → List Attempt → List ℕ
  attempts_text w [] = []
  attempts_text w (attempt ∷ attempts) = (take_attempt w attempt).text ++ attempts_text (take_attempt w attempt).work attempts

  -- "The last line's end may be missing"
  unfoldable pub end_input : Work → Step
  end_input w = cond (has_ended w.phase && not (length w.gathered == 0)) (end_line w) (quiet w)

  -- "Then it allocates", unless a line out of form ended the program
  unfoldable pub closing_text : Work → List ℕ
  closing_text w = cond (has_ended w.phase) (outcome_text (way.allocation w.running (replicate units (pos 0)))) []

  -- what is printed once the input has ended
  unfoldable pub end_text : Work → List ℕ
  end_text w = (end_input w).text ++ closing_text (end_input w).work

  -- the whole: what is printed for an input
  unfoldable pub settle_text : List ℕ → List ℤ → List ℕ → List ℕ
  settle_text words cells input =
      (take_bytes (fresh_work words cells) input).text ++ end_text (ended (take_bytes (fresh_work words cells) input).work)
