-- A whole list of calls in one call: how the calls stand in a slice of 64-bit words, and what making them gives.
use Rattle.std.specs.Prelude.{ℕ, zero, suc, ◌+◌, ◌-◌, ◌/◌, ◌%◌, ◌^◌, ◌≡◌, not, cond, List, [], ◌∷◌, ◌++◌, ltb, eqb, ℤ, pos, negsuc, length, get_or, drop}
use Rattle.refusals.specs.Causes.{refuse, accepted, list_misshapen}
use Rattle.words.specs.declared.Registration.{Registration}
use Rattle.words.specs.declared.Reading.{Reading}
use Rattle.book.specs.declared.Answer.{Answer}
use Rattle.book.specs.declared.Setting.{Setting}
use Rattle.book.specs.declared.Setting.TheVariants.{Shape, Weight, Tolerance, GroupTake}
use Rattle.book.specs.Limits.{tolerance_most}
use Rattle.running.specs.Running.{Running}
use Rattle.calls.specs.declared.Call.{Call}
use Rattle.calls.specs.declared.Call.TheVariants.{Register, Record, Set}
use Rattle.calls.specs.Running.{running_after, running_numbers}

-- a call is twelve words: its kind, then its arguments in the order of the call; words that a kind does not use mean nothing
abbrev pub call_words : ℕ
call_words = 12

abbrev pub register_kind : ℕ
register_kind = 1

abbrev pub reading_kind : ℕ
reading_kind = 2

abbrev pub shape_kind : ℕ
shape_kind = 3

abbrev pub weight_kind : ℕ
weight_kind = 4

abbrev pub tolerance_kind : ℕ
tolerance_kind = 5

abbrev pub take_kind : ℕ
take_kind = 6

-- a signed number as a word: its two's complement
abbrev pub signed_of : ℕ → ℤ
signed_of w = cond (ltb w (2 ^ 63)) (pos w) (negsuc (2 ^ 64 - suc w))

-- the arguments of a register call, and of a reading call
abbrev pub mpan_in : List ℕ → ℕ
mpan_in ws = get_or ws 1 0

abbrev pub registration_in : List ℕ → Registration
registration_in ws =
    record {
      segment = get_or ws 2 0;
      direction = get_or ws 3 0;
      status = get_or ws 4 0;
      base = get_or ws 5 0;
      flag = get_or ws 6 0;
      additional = get_or ws 7 0;
      category = get_or ws 8 0;
      llf = get_or ws 9 0;
      network = get_or ws 10 0;
      tariff = get_or ws 11 0;
    }

abbrev pub reading_in : List ℕ → Reading
reading_in ws = record { issue = get_or ws 2 0; quality = get_or ws 3 0; consumption = get_or ws 4 0 }

-- the setting that a call of any other kind replaces; an unknown kind stands for one that is out of range, so that its number is 2 and it alters nothing
unfoldable pub setting_in : List ℕ → Setting
setting_in ws =
    cond (eqb (get_or ws 0 0) shape_kind) (Shape (get_or ws 1 0) (get_or ws 2 0))
    (cond (eqb (get_or ws 0 0) weight_kind) (Weight (get_or ws 1 0) (get_or ws 2 0))
    (cond (eqb (get_or ws 0 0) tolerance_kind) (Tolerance (get_or ws 1 0))
    (cond (eqb (get_or ws 0 0) take_kind) (GroupTake (signed_of (get_or ws 1 0)))
    (Tolerance (tolerance_most + 1)))))

-- the call that stands first in a slice
unfoldable pub call_of : List ℕ → Call
call_of ws =
    cond (eqb (get_or ws 0 0) register_kind) (Register (mpan_in ws) (registration_in ws))
    (cond (eqb (get_or ws 0 0) reading_kind) (Record (mpan_in ws) (reading_in ws))
    (Set (setting_in ws)))

-- the first n calls of a slice
unfoldable pub calls_from : ℕ → List ℕ → List Call
calls_from zero ws = []
calls_from (suc n) ws = call_of ws ∷ calls_from n (drop call_words ws)

-- the calls of a slice
abbrev pub calls_in : List ℕ → List Call
calls_in ws = calls_from (length ws / call_words) ws

unfoldable pub list_cause : List ℕ → List ℕ → ℕ
list_cause ws numbers =
    refuse (not (eqb (length ws % call_words) 0)) list_misshapen
    (refuse (ltb (length numbers) (length ws / call_words)) list_misshapen accepted)

-- what a list leaves: the number given, the book and its cells afterwards, and the slice of the calls' numbers
pub record ListOutcome : Type 0 where
  pub number : ℕ
  pub running : Running
  pub numbers : List ℕ

unfoldable pub list_outcome : ℕ → Running → List ℕ → List ℕ → ListOutcome
list_outcome zero r ws numbers =
    record {
      number = accepted;
      running = running_after r (calls_in ws);
      numbers = running_numbers r (calls_in ws) ++ drop (length ws / call_words) numbers;
    }
list_outcome (suc k) r ws numbers = record { number = suc k; running = r; numbers = numbers }

-- the calls are made in order, each on the book and the cells that the one before left
unfoldable pub list_call : Running → List ℕ → List ℕ → ListOutcome
list_call r ws numbers = list_outcome (list_cause ws numbers) r ws numbers

-- the promise of a list of calls: the answer, the rows, the cells and the numbers afterwards are those of an outcome
pub record ListGives (o : ListOutcome) (answer : Answer) (rows_after : List ℕ) (cells_after : List ℤ) (numbers_after : List ℕ) : Type 0 where
  pub number : answer.number ≡ o.number
  pub settings : answer.settings ≡ o.running.book.settings
  pub rows : rows_after ≡ o.running.book.rows
  pub cells : cells_after ≡ o.running.cells
  pub numbers : numbers_after ≡ o.numbers
