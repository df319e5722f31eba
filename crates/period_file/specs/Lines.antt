-- The lines of a period file, the order of their kinds, and the call of each.
use Rattle.std.specs.Prelude.{ℕ, ◌≡◌, Bool, true, ◌&&◌, ◌||◌, cond, List, [], ◌∷◌, Option, None, Some, MatchOption, leb, ltb, eqb, length, drop, ℤ}
use Rattle.std.specs.Option.{option_map, is_some, unwrap_or}
use Rattle.words.specs.declared.Registration.{Registration}
use Rattle.book.specs.declared.Setting.{Setting}
use Rattle.book.specs.declared.Setting.TheVariants.{Shape, Weight, Tolerance, GroupTake}
use Rattle.running.specs.Running.{Running}
use Rattle.book.specs.Helpers.{answer_of}
use Rattle.calls.specs.declared.Call.{Call}
use Rattle.calls.specs.declared.Call.TheVariants.{Register, Record, Set}
use Rattle.calls.specs.Running.{running_call, RunningGives}
use Rattle.period_file.specs.declared.LineKind.{LineKind}
use Rattle.period_file.specs.declared.LineKind.TheVariants as kind
use Rattle.period_file.specs.declared.Taken.{Taken}
use Rattle.period_file.specs.Numbers.{signed_of, number_of}
use Rattle.period_file.specs.Fields.{starts_with, field_count, in_form, given, number_at, two_numbers, additional_at}

-- "take", "tolerance": one number; "only take may have a minus"
unfoldable pub take_line : List ℕ → Option Call
take_line value = option_map (λ wh. Set (GroupTake wh)) (signed_of value)

unfoldable pub tolerance_line : List ℕ → Option Call
tolerance_line value = option_map (λ g. Set (Tolerance g)) (number_of value)

-- "weight=class,thousandths"
unfoldable pub weight_line : List ℕ → Option Call
weight_line value = option_map (λ fields. Set (Weight fields.0 fields.1)) (two_numbers value)

-- "shape=category,Wh"
unfoldable pub shape_line : List ℕ → Option Call
shape_line value = option_map (λ fields. Set (Shape fields.0 fields.1)) (two_numbers value)

-- the flag of an additional unit, and its number, which is 0 where there is none
abbrev pub flag_of : Option ℕ → ℕ
flag_of additional = cond (is_some additional) 1 0

-- "segment,direction,status,base,additional or -,category,LLF", and of document 02, request 1, "the meter line ends with these two numbers", the embedded network and the tariff: the fields after the MPAN
unfoldable pub registration_at : List ℕ → Option Registration
registration_at value =
    given (number_at 1 value) (λ segment.
    given (number_at 2 value) (λ direction.
    given (number_at 3 value) (λ status.
    given (number_at 4 value) (λ base.
    given (additional_at 5 value) (λ additional.
    given (number_at 6 value) (λ category.
    given (number_at 7 value) (λ llf.
    given (number_at 8 value) (λ network.
    given (number_at 9 value) (λ tariff.
    Some (record {
      segment = segment;
      direction = direction;
      status = status;
      base = base;
      flag = flag_of additional;
      additional = unwrap_or additional 0;
      category = category;
      llf = llf;
      network = network;
      tariff = tariff;
    }))))))))))

-- "meter=MPAN,segment,direction,status,base,additional or -,category,LLF" with the two numbers of request 1: ten fields
unfoldable pub meter_line : List ℕ → Option Call
meter_line value =
    in_form (eqb (field_count value) 10)
    (given (number_at 0 value) (λ mpan.
    given (registration_at value) (λ registration.
    Some (Register mpan registration))))

-- "reading=MPAN,issue,quality,Wh"
unfoldable pub reading_line : List ℕ → Option Call
reading_line value =
    in_form (eqb (field_count value) 4)
    (given (number_at 0 value) (λ mpan.
    given (number_at 1 value) (λ issue.
    given (number_at 2 value) (λ quality.
    given (number_at 3 value) (λ consumption.
    Some (Record mpan (record { issue = issue; quality = quality; consumption = consumption })))))))

-- "key=": the bytes of take=, tolerance=, weight=, shape=, meter= and reading=
abbrev pub take_key : List ℕ
take_key = 116 ∷ 97 ∷ 107 ∷ 101 ∷ 61 ∷ []

abbrev pub tolerance_key : List ℕ
tolerance_key = 116 ∷ 111 ∷ 108 ∷ 101 ∷ 114 ∷ 97 ∷ 110 ∷ 99 ∷ 101 ∷ 61 ∷ []

abbrev pub weight_key : List ℕ
weight_key = 119 ∷ 101 ∷ 105 ∷ 103 ∷ 104 ∷ 116 ∷ 61 ∷ []

abbrev pub shape_key : List ℕ
shape_key = 115 ∷ 104 ∷ 97 ∷ 112 ∷ 101 ∷ 61 ∷ []

abbrev pub meter_key : List ℕ
meter_key = 109 ∷ 101 ∷ 116 ∷ 101 ∷ 114 ∷ 61 ∷ []

abbrev pub reading_key : List ℕ
reading_key = 114 ∷ 101 ∷ 97 ∷ 100 ∷ 105 ∷ 110 ∷ 103 ∷ 61 ∷ []

-- "key=value": the line of the key that the bytes start with; an empty line has none
unfoldable pub keyed_line : List ℕ → Option Call
keyed_line line =
    cond (starts_with take_key line) (take_line (drop 5 line))
    (cond (starts_with tolerance_key line) (tolerance_line (drop 10 line))
    (cond (starts_with weight_key line) (weight_line (drop 7 line))
    (cond (starts_with shape_key line) (shape_line (drop 6 line))
    (cond (starts_with meter_key line) (meter_line (drop 6 line))
    (cond (starts_with reading_key line) (reading_line (drop 8 line))
    None)))))

-- "of at most 80 bytes before the line feed"
abbrev pub line_most : ℕ
line_most = 80

-- a line by itself: its call, and none for a line out of form
unfoldable pub line_of : List ℕ → Option Call
line_of line = in_form (leb (length line) line_most) (keyed_line line)

-- the kind of a line, by its call
abbrev pub setting_kind : Setting → LineKind
setting_kind (GroupTake wh) = kind.Take
setting_kind (Tolerance g) = kind.Tolerance
setting_kind (Weight class thousandths) = kind.Weight
setting_kind (Shape category wh) = kind.Shape

abbrev pub call_kind : Call → LineKind
call_kind (Set x) = setting_kind x
call_kind (Register mpan r) = kind.Meter
call_kind (Record mpan r) = kind.Reading

-- "take, tolerance (each at most once), weight, shape, meter, reading, in that order of kinds": the place of a kind in the order
abbrev pub kind_place : LineKind → ℕ
kind_place kind.Take = 1
kind_place kind.Tolerance = 2
kind_place kind.Weight = 3
kind_place kind.Shape = 4
kind_place kind.Meter = 5
kind_place kind.Reading = 6

-- the place of the kind of a line; 0 for a line out of form
abbrev pub kind_of : Option Call → ℕ
kind_of None = 0
kind_of (Some call) = kind_place (call_kind call)

-- whether a kind may stand after a last one whose place in the order is this number: a later kind, or the same again if it may stand more than
-- once. Before the first line the number is 0, and one above 6 lets no line follow.
abbrev pub place_follows : ℕ → LineKind → Bool
place_follows last new = ltb last (kind_place new) || (eqb last (kind_place new) && ltb 2 (kind_place new))

-- whether a kind may stand after the last one, if there is one
abbrev pub kind_follows : Option LineKind → LineKind → Bool
kind_follows None new = true
kind_follows (Some last) new = place_follows (kind_place last) new

-- a line where only some kinds may stand
unfoldable pub line_allowed : (LineKind → Bool) → List ℕ → Option Call
line_allowed allowed line = given (line_of line) (λ call. in_form (allowed (call_kind call)) (Some call))

-- a line after lines of which the last had that kind
abbrev pub line_after : Option LineKind → List ℕ → Option Call
line_after last = line_allowed (kind_follows last)

-- "makes the call of each": a line in form gives its kind, and what its call leaves
pub record CallTaken (r : Running) (made : Option Call) (taken : Taken) (rows_after : List ℕ) (cells_after : List ℤ) : Type 0 where
  pub call : Call
  pub makes : made ≡ Some call
  pub kind : taken.kind ≡ call_kind call
  pub gives : RunningGives (running_call r call) (answer_of r.book.settings taken.outcome) rows_after cells_after

-- a line out of form makes none, and leaves the rows and the cells
pub record NoneTaken (r : Running) (made : Option Call) (rows_after : List ℕ) (cells_after : List ℤ) : Type 0 where
  pub makes_none : made ≡ None
  pub rows : rows_after ≡ r.book.rows
  pub cells : cells_after ≡ r.cells

-- what taking a line gives where only some kinds may stand
abbrev pub LineTakenWhere : Running → (LineKind → Bool) → List ℕ → Option Taken → List ℕ → List ℤ → Type 0
LineTakenWhere r allowed line taken rows_after cells_after =
    MatchOption taken (NoneTaken r (line_allowed allowed line) rows_after cells_after) (λ t. CallTaken r (line_allowed allowed line) t rows_after cells_after)

-- what taking a line gives, after lines of which the last had that kind
abbrev pub LineTaken : Running → Option LineKind → List ℕ → Option Taken → List ℕ → List ℤ → Type 0
LineTaken r last = LineTakenWhere r (kind_follows last)
