-- "moving only reading calls": two lists of calls that differ only in where their reading calls stand, with the provisos under which that changes nothing.
use Rattle.std.specs.Prelude.{ℕ, ◌≤◌, ◌≡◌, Bool, true, false, ◌&&◌, ◌||◌, List, [], ◌∷◌, ◌++◌, eqb, length}
use Rattle.words.specs.declared.Reading.{Reading}
use Rattle.words.specs.Reading.{no_reading, reading_word}
use Rattle.calls.specs.declared.Call.{Call}
use Rattle.calls.specs.declared.Call.TheVariants.{Register, Record, Set}
use Rattle.meaning.specs.Meaning.{only, gather, is_any, meant_mpans, registration_set, counted_readings}

-- the calls of a list that are not readings
unfoldable pub other_call : Call → List Call
other_call (Register m r) = Register m r ∷ []
other_call (Record m r) = []
other_call (Set x) = Set x ∷ []

-- every reading call of the meter m, whatever its numbers
unfoldable pub reading_called : ℕ → Call → List Reading
reading_called m (Register k r) = []
reading_called m (Record k r) = only (eqb k m) r
reading_called m (Set x) = []

abbrev pub readings_called : ℕ → List Call → List Reading
readings_called m calls = gather (reading_called m) calls

-- how often a reading stands in a list of readings
unfoldable pub same_reading : Reading → Reading → Bool
same_reading x y = eqb x.issue y.issue && eqb x.quality y.quality && eqb x.consumption y.consumption

abbrev pub copy_of : Reading → Reading → List Reading
copy_of x y = only (same_reading x y) y

abbrev pub times_in : Reading → List Reading → ℕ
times_in x readings = length (gather (copy_of x) readings)

-- the words of the readings of one issue
unfoldable pub of_issue : ℕ → Reading → List ℕ
of_issue issue r = only (eqb r.issue issue) (reading_word r)

-- whether a number stands in a list
unfoldable pub is_in : ℕ → List ℕ → Bool
is_in x [] = false
is_in x (y ∷ ys) = eqb x y || is_in x ys

-- "The meters, which demand 3 calls accepted"
abbrev pub is_accepted : ℕ → List Call → ℕ → Bool
is_accepted capacity calls m = is_in m (meant_mpans capacity calls)

-- "moving only reading calls"
pub record OnlyReadingsMoved (calls moved : List Call) : Type 0 where
  -- the calls other than readings are the same and in the same order
  pub others : gather other_call calls ≡ gather other_call moved
  -- each reading call stands as often in the one list as in the other
  pub readings : (m : ℕ) (r : Reading) → times_in r (readings_called m calls) ≡ times_in r (readings_called m moved)

-- no accepted meter has two reading calls of one issue number
pub record OncePerIssue (capacity : ℕ) (calls : List Call) : Type 0 where
  pub once : (m : ℕ) → is_accepted capacity calls m ≡ true → (issue : ℕ) → length (gather (of_issue issue) (readings_called m calls)) ≤ 1

-- each reading call of an accepted meter stands after that meter's first in-range register call: wherever one stands, such a call stands before it
pub record AfterRegistration (capacity : ℕ) (calls : List Call) : Type 0 where
  pub after : (m : ℕ) → is_accepted capacity calls m ≡ true → (before later : List Call) (r : Reading) → calls ≡ before ++ Record m r ∷ later → is_any (gather (registration_set m) before) ≡ true

-- the provisos as they are said
pub record ReadingsMoved (capacity : ℕ) (calls moved : List Call) : Type 0 where
  pub only-readings : OnlyReadingsMoved calls moved
  pub once-per-issue : OncePerIssue capacity calls
  pub after-registration : AfterRegistration capacity calls
  pub after-registration-moved : AfterRegistration capacity moved

-- "the earlier of equals": the word of the earliest reading of an issue
unfoldable pub first_or : ℕ → List ℕ → ℕ
first_or d [] = d
first_or d (x ∷ xs) = x

abbrev pub earliest_of : ℕ → List Reading → ℕ
earliest_of issue readings = first_or no_reading (gather (of_issue issue) readings)

-- Less than the provisos: of an accepted meter and of an issue, the earliest of the readings that count is the same in both lists. Readings that are refused for causes 2
-- and 3, those before their meter's first registration and those of meters not accepted may then stand anywhere, and an issue may come more than once.
pub record EarliestKept (capacity : ℕ) (calls moved : List Call) : Type 0 where
  pub only-readings : OnlyReadingsMoved calls moved
  pub earliest : (m : ℕ) → is_accepted capacity calls m ≡ true → (issue : ℕ) → earliest_of issue (counted_readings calls m) ≡ earliest_of issue (counted_readings moved m)
