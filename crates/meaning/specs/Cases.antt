-- "Figures to hold it against": cases 1 to 10, as a table of the definitions, and after them the cases of document 02.
use Rattle.std.specs.Prelude.{ℕ, zero, suc, Bool, true, false, ◌&&◌, List, [], ◌∷◌, ◌++◌, eqb, ℤ, pos, neg_ℤ, nat_abs, ◌-ℤ◌, get_or, replicate}
use Rattle.book.specs.declared.Settings.{Settings}
use Rattle.book.specs.declared.Setting.TheVariants.{Weight, Tolerance, GroupTake}
use Rattle.book.specs.Rows.{Row, capacity}
use Rattle.book.specs.Book.{Book, fresh_book, used_rows}
use Rattle.calls.specs.declared.Call.{Call}
use Rattle.calls.specs.declared.Call.TheVariants.{Register, Record, Set}
use Rattle.calls.specs.Calls.{book_after, numbers_given}
use Rattle.cells.specs.Cells.{cell}
use Rattle.totals.specs.Totals.{tariff_totals}
use Rattle.correction.specs.Volumes.{volumes_of}
use Rattle.allocation.specs.declared.Allocated.{Allocated}
use Rattle.allocation.specs.Allocate.{all_unit_sums, Allocation, meters_cause, figures_of, refused_with, allocate_call}
use Rattle.meaning.specs.Meaning.{meant_meters, meant_settings}

-- one figure that a case states
pub data Figure : Type 0 where
  -- the number that the allocation gives: 0, "accepted", or a refusal
  allocation_gives : ℕ → Figure
  -- the number that a call of the list gives, counted from 0
  call_gives : (place number : ℕ) → Figure
  -- a unit's volume
  volume_is : (unit : ℕ) → ℤ → Figure
  -- a cell of a unit and a class
  cell_is : (unit class : ℕ) → ℤ → Figure
  -- U and W
  unallocated_is : ℤ → Figure
  weighted_is : ℤ → Figure
  -- the four counts: actual, estimated, defaulted, idle
  counts_are : List ℕ → Figure
  -- a unit's droppings, in thousandths of a Wh
  droppings_are : (unit : ℕ) → ℤ → Figure
  -- the four totals of import, embedded network 0 and tariff 0: actual Wh, other Wh, energised and de-energised meters
  totals_are : List ℕ → Figure

-- a case: its calls, and the figures after them
pub record Case : Type 0 where
  pub calls : List Call
  pub figures : List Figure

unfoldable pub same : ℤ → ℤ → Bool
same x y = eqb (nat_abs (x -ℤ y)) 0

unfoldable pub same_numbers : List ℕ → List ℕ → Bool
same_numbers [] [] = true
same_numbers [] (y ∷ ys) = false
same_numbers (x ∷ xs) [] = false
same_numbers (x ∷ xs) (y ∷ ys) = eqb x y && same_numbers xs ys

-- what a case is held against: the numbers that its calls gave, the shapes and the meters, the allocation's answer and its volumes
pub record Worked : Type 0 where
  pub numbers : List ℕ
  pub shapes : List ℕ
  pub meters : List Row
  pub answer : Allocated
  pub volumes : List ℤ

unfoldable pub figure_holds : Worked → Figure → Bool
figure_holds x (allocation_gives n) = eqb x.answer.number n
figure_holds x (call_gives place n) = eqb (get_or x.numbers place 0) n
figure_holds x (volume_is unit wh) = same (get_or x.volumes unit (pos 0)) wh
figure_holds x (cell_is unit class wh) = same (cell x.shapes x.meters unit class) wh
figure_holds x (unallocated_is u) = same x.answer.unallocated u
figure_holds x (weighted_is w) = same x.answer.weighted w
figure_holds x (counts_are counts) =
    same_numbers (x.answer.actual ∷ x.answer.estimated ∷ x.answer.defaulted ∷ x.answer.idle ∷ []) counts
figure_holds x (droppings_are unit thousandths) = same (get_or x.answer.droppings unit (pos 0)) thousandths
figure_holds x (totals_are totals) = same_numbers (tariff_totals x.shapes x.meters 0 0 0) totals

unfoldable pub figures_hold : Worked → List Figure → Bool
figures_hold x [] = true
figures_hold x (f ∷ figures) = figure_holds x f && figures_hold x figures

-- each case starts from a fresh book with room for three meters and lends 32 volumes
abbrev pub case_words : List ℕ
case_words = replicate 9 0

abbrev pub case_volumes : List ℤ
case_volumes = replicate 32 (pos 0)

-- worked by making the calls
unfoldable pub by_calls : List ℕ → Book → Allocation → Worked
by_calls numbers b a =
    record {
      numbers = numbers;
      shapes = b.settings.shapes;
      meters = used_rows b;
      answer = a.answer;
      volumes = a.volumes;
    }

-- worked from what the list means
unfoldable pub by_meaning : List ℕ → Settings → List Row → ℕ → Worked
by_meaning numbers s meters zero =
    record {
      numbers = numbers;
      shapes = s.shapes;
      meters = meters;
      answer = figures_of s meters;
      volumes = volumes_of s.take_wh (all_unit_sums s meters);
    }
by_meaning numbers s meters (suc k) =
    record { numbers = numbers; shapes = s.shapes; meters = meters; answer = refused_with (suc k); volumes = case_volumes }

-- a case holds both ways
unfoldable pub case_holds : List ℕ → Book → Settings → List Row → List Figure → Bool
case_holds numbers b s meters figures =
    figures_hold (by_calls numbers b (allocate_call b case_volumes)) figures
    && figures_hold (by_meaning numbers s meters (meters_cause s meters)) figures

unfoldable pub holds : Case → Bool
holds x =
    case_holds (numbers_given (fresh_book case_words) x.calls) (book_after (fresh_book case_words) x.calls)
    (meant_settings (capacity case_words) x.calls) (meant_meters (capacity case_words) x.calls)
    x.figures

unfoldable pub cases_hold : List Case → Bool
cases_hold [] = true
cases_hold (x ∷ cases) = holds x && cases_hold cases

-- a meter of a base unit, by status (2 energised, 1 de-energised), segment, direction and LLF
abbrev pub meter_of : ℕ → ℕ → ℕ → ℕ → ℕ → ℕ → Call
meter_of status mpan segment direction base llf =
    Register mpan
    (record {
      segment = segment;
      direction = direction;
      status = status;
      base = base;
      flag = 0;
      additional = 0;
      category = 0;
      llf = llf;
      network = 0;
      tariff = 0;
    })

-- an energised one
abbrev pub meter : ℕ → ℕ → ℕ → ℕ → ℕ → Call
meter mpan segment direction base llf = meter_of 2 mpan segment direction base llf

-- a reading of issue 1, by its code
abbrev pub reading_of_code : ℕ → ℕ → ℕ → Call
reading_of_code code mpan wh = Record mpan (record { issue = 1; quality = code; consumption = wh })

-- one of code 0
abbrev pub actual : ℕ → ℕ → Call
actual mpan wh = reading_of_code 0 mpan wh

-- "weights 8, 9 at 1,000"
abbrev pub weights : List Call
weights = Set (Weight 8 1000) ∷ Set (Weight 9 1000) ∷ []

-- "Three units, 100 Wh smart import code 0 each, LLF 1,000, Take 301"
abbrev pub three_units : List Call
three_units =
    weights
    ++ Set (GroupTake (pos 301))
    ∷ meter 1200000000002 1 0 0 1000
    ∷ meter 1300000000007 1 0 1 1000
    ∷ meter 1400000000001 1 0 2 1000
    ∷ actual 1200000000002 100
    ∷ actual 1300000000007 100
    ∷ actual 1400000000001 100
    ∷ []

-- "Unit 0: 1,000 Wh as before with LLF 1,050. Unit 1: 400 Wh advanced export code 0, LLF 1,000, weight 20 at 500"
abbrev pub import_and_export : ℤ → List Call
import_and_export take_wh =
    weights
    ++ Set (Weight 20 500)
    ∷ Set (GroupTake take_wh)
    ∷ meter 1200000000002 1 0 0 1050
    ∷ meter 1300000000007 2 1 1 1000
    ∷ actual 1200000000002 1000
    ∷ actual 1300000000007 400
    ∷ []

unfoldable pub cases : List Case
cases =
    -- 1: "101, 100, 100"
    record { calls = three_units; figures = allocation_gives 0 ∷ volume_is 0 (pos 101) ∷ volume_is 1 (pos 100) ∷ volume_is 2 (pos 100) ∷ [] }
    -- 2: "The same with g = 4: accepted"
    ∷ record { calls = three_units ++ Set (Tolerance 4) ∷ []; figures = allocation_gives 0 ∷ [] }
    -- 3: "With g = 3: refusal 11"
    ∷ record { calls = three_units ++ Set (Tolerance 3) ∷ []; figures = allocation_gives 11 ∷ [] }
    -- 4: "Take 700: U 50, W 1,250,000, volumes 1,092 and −392"
    ∷ record {
      calls = import_and_export (pos 700);
      figures = allocation_gives 0 ∷ unallocated_is (pos 50) ∷ weighted_is (pos 1250000) ∷ volume_is 0 (pos 1092) ∷ volume_is 1 (neg_ℤ (pos 392)) ∷ [];
    }
    -- 5: "The same, Take 649: 1,049 and −400"
    ∷ record { calls = import_and_export (pos 649); figures = allocation_gives 0 ∷ volume_is 0 (pos 1049) ∷ volume_is 1 (neg_ℤ (pos 400)) ∷ [] }
    -- 6: "10 Wh, LLF 1,050: loss 1"
    ∷ record { calls = meter 1200000000002 1 0 0 1050 ∷ actual 1200000000002 10 ∷ []; figures = cell_is 0 9 (pos 1) ∷ [] }
    -- 7: "LLF 950: loss −1"
    ∷ record { calls = meter 1200000000002 1 0 0 950 ∷ actual 1200000000002 10 ∷ []; figures = cell_is 0 9 (neg_ℤ (pos 1)) ∷ [] }
    -- 8: "Two such meters at 1,050 in one cell: loss 1"
    ∷ record {
      calls =
          meter 1200000000002 1 0 0 1050
          ∷ meter 1300000000007 1 0 0 1050
          ∷ actual 1200000000002 10
          ∷ actual 1300000000007 10
          ∷ [];
      figures = cell_is 0 9 (pos 1) ∷ [];
    }
    -- 9: "Empty book, Take 0: refusal 10"
    ∷ record { calls = Set (GroupTake (pos 0)) ∷ []; figures = allocation_gives 10 ∷ [] }
    -- 10: "Issue 5 actual 100, then issue 4 estimate 90: refusal 5, 100 used"
    ∷ record {
      calls =
          meter 1200000000002 1 0 0 1000
          ∷ Record 1200000000002 (record { issue = 5; quality = 0; consumption = 100 })
          ∷ Record 1200000000002 (record { issue = 4; quality = 7; consumption = 90 })
          ∷ [];
      figures = call_gives 1 0 ∷ call_gives 2 5 ∷ cell_is 0 8 (pos 100) ∷ [];
    }
    ∷ []

-- document 02, request 2. Two smart import meters of one status. Unit 0: 100 Wh of a code, LLF 1,050. Unit 1: 40 Wh of the code below it, LLF 1,000
abbrev pub meters_of_codes : (status code below : ℕ) → ℤ → List Call
meters_of_codes status code below take_wh =
    weights
    ++ Set (GroupTake take_wh)
    ∷ meter_of status 1200000000002 1 0 0 1050
    ∷ meter_of status 1300000000007 1 0 1 1000
    ∷ reading_of_code code 1200000000002 100
    ∷ reading_of_code below 1300000000007 40
    ∷ []

-- the code's Wh and its losses are in classes 8 and 9, and none in 10 and 11: U 1, W 105,000, and 106 Wh. What the code below comes to, the counts and the totals go by the status
abbrev pub code_figures : (below_wh : ℤ) → (counts totals : List ℕ) → List Figure
code_figures below_wh counts totals =
    allocation_gives 0
    ∷ cell_is 0 8 (pos 100)
    ∷ cell_is 0 9 (pos 5)
    ∷ cell_is 0 10 (pos 0)
    ∷ cell_is 0 11 (pos 0)
    ∷ cell_is 1 10 below_wh
    ∷ unallocated_is (pos 1)
    ∷ weighted_is (pos 105000)
    ∷ volume_is 0 (pos 106)
    ∷ volume_is 1 below_wh
    ∷ counts_are counts
    ∷ totals_are totals
    ∷ []

-- energised, Take 146: the code below is estimated, in class 10 and with the other Wh
abbrev pub energised_case : (code below : ℕ) → Case
energised_case code below =
    record {
      calls = meters_of_codes 2 code below (pos 146);
      figures = code_figures (pos 40) (1 ∷ 1 ∷ 0 ∷ 0 ∷ []) (100 ∷ 40 ∷ 2 ∷ 0 ∷ []);
    }

-- de-energised, Take 106: the meter with the code below is idle
abbrev pub de_energised_case : (code below : ℕ) → Case
de_energised_case code below =
    record {
      calls = meters_of_codes 1 code below (pos 106);
      figures = code_figures (pos 0) (1 ∷ 0 ∷ 0 ∷ 1 ∷ []) (100 ∷ 0 ∷ 0 ∷ 1 ∷ []);
    }

-- "E2 and E6 join the actuals": 9 is E2, above E1, and 13 is E6, above E5
unfoldable pub code_cases : List Case
code_cases =
    -- 11: E2, energised
    energised_case 9 8
    -- 12: E2, de-energised
    ∷ de_energised_case 9 8
    -- 13: E6, energised
    ∷ energised_case 13 12
    -- 14: E6, de-energised
    ∷ de_energised_case 13 12
    ∷ []

-- document 02, request 3: weights 8, 9, 12 and 13 at 1,000, and a Take
abbrev pub both_ways : ℤ → List Call
both_ways take_wh = weights ++ Set (Weight 12 1000) ∷ Set (Weight 13 1000) ∷ Set (GroupTake take_wh) ∷ []

-- a smart meter of unit 0, by direction and LLF, with so many Wh of code 0
abbrev pub losing : (mpan direction llf wh : ℕ) → List Call
losing mpan direction llf wh = meter mpan 1 direction 0 llf ∷ actual mpan wh ∷ []

-- "how many thousandths of a Wh it dropped": of unit 0, and none of a unit without meters
unfoldable pub dropping_cases : List Case
dropping_cases =
    -- 15: import, 10 Wh at 1,050: 500 thousandths are 1 Wh and drop −500
    record {
      calls = both_ways (pos 11) ++ losing 1200000000002 0 1050 10;
      figures = allocation_gives 0 ∷ cell_is 0 9 (pos 1) ∷ droppings_are 0 (neg_ℤ (pos 500)) ∷ droppings_are 1 (pos 0) ∷ [];
    }
    -- 16: at 950: −500 are −1 Wh and drop 500
    ∷ record {
      calls = both_ways (pos 9) ++ losing 1200000000002 0 950 10;
      figures = allocation_gives 0 ∷ cell_is 0 9 (neg_ℤ (pos 1)) ∷ droppings_are 0 (pos 500) ∷ [];
    }
    -- 17: export at 1,050: what is dropped is subtracted
    ∷ record {
      calls = both_ways (neg_ℤ (pos 11)) ++ losing 1200000000002 1 1050 10;
      figures = allocation_gives 0 ∷ cell_is 0 13 (pos 1) ∷ droppings_are 0 (pos 500) ∷ [];
    }
    -- 18: 499 thousandths are 0 Wh and drop 499
    ∷ record {
      calls = both_ways (pos 499) ++ losing 1200000000002 0 1001 499;
      figures = allocation_gives 0 ∷ cell_is 0 9 (pos 0) ∷ droppings_are 0 (pos 499) ∷ [];
    }
    -- 19: import of case 15, and export of 7 Wh at 1,060, whose 420 thousandths are 0 Wh: −500 less 420, so that 1 Wh and −920 are 500 less 420
    ∷ record {
      calls = both_ways (pos 4) ++ losing 1200000000002 0 1050 10 ++ losing 1300000000007 1 1060 7;
      figures = allocation_gives 0 ∷ cell_is 0 9 (pos 1) ∷ cell_is 0 13 (pos 0) ∷ droppings_are 0 (neg_ℤ (pos 920)) ∷ [];
    }
    -- 20: two meters of case 15 in one cell: 1,000 thousandths are 1 Wh and drop none
    ∷ record {
      calls = both_ways (pos 21) ++ losing 1200000000002 0 1050 10 ++ losing 1300000000007 0 1050 10;
      figures = allocation_gives 0 ∷ cell_is 0 9 (pos 1) ∷ droppings_are 0 (pos 0) ∷ [];
    }
    -- 21: case 15 with a Take of 12 Wh and g = 90: refusal 11, and "0 on a refusal"
    ∷ record {
      calls = both_ways (pos 12) ++ losing 1200000000002 0 1050 10 ++ Set (Tolerance 90) ∷ [];
      figures = allocation_gives 11 ∷ cell_is 0 9 (pos 1) ∷ droppings_are 0 (pos 0) ∷ [];
    }
    ∷ []

-- the table of worked cases
abbrev pub worked_cases : List Case
worked_cases = cases ++ (code_cases ++ dropping_cases)
