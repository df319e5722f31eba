-- What the functions that test the slice of running cells, and change it, are held to.
use Rattle.std.specs.Prelude.{ℕ, zero, suc, ◌+◌, ◌*◌, ◌%◌, ◌≤◌, ◌<◌, ◌≡◌, Bool, true, false, cond, ◌&&◌, Option, None, Some, IfSome, Result, Ok, Err, List, eqb, leb, ℤ, pos, nat_abs, neg_ℤ, ◌+ℤ◌, ◌-ℤ◌, ◌*ℤ◌, length, get_or, set, take}
use Rattle.std.specs.List.{list_all, position}
use Rattle.refusals.specs.declared.Refusal.{Refusal}
use Rattle.refusals.specs.declared.Refusal.TheVariants.{BookIllFormed, CellsShort}
use Rattle.refusals.specs.Causes.{accepted}
use Rattle.refusals.specs.Refusal.{number_given}
use Rattle.integers.specs.Sum.{sizes}
use Rattle.words.specs.Registration.{is_registration, status_of, unit_of, category_of, llf_of}
use Rattle.words.specs.Reading.{is_reading, no_reading}
use Rattle.book.specs.declared.Held.{Held}
use Rattle.book.specs.Limits.{classes, categories, meters_most}
use Rattle.book.specs.Settings.{is_shape}
use Rattle.book.specs.Rows.{Row, first_row, is_row}
use Rattle.cells.specs.declared.Source.TheVariants.{Defaulted}
use Rattle.cells.specs.Energy.{source_number, source_of, energised, energy_wh}
use Rattle.cells.specs.Cells.{class_of, consumption_class, loss_thousandths, sum_over}
use Rattle.cells.specs.Helpers.{held_gives}
use Rattle.running.specs.declared.meters.Entry.{Entry}
use Rattle.running.specs.Words.{cell_words, waiting_words, slice_words, word_in, sum_in}
use Rattle.running.specs.Ready.{CellsReady}
use Rattle.running.specs.Running.{Running, added_from, with_change, within_limits, is_short, running_formed, sizes_most, limit_cause, is_number}

-- the sizes of the cells of a slice, added up, if they are within their limit; and if the slice passes no limit
abbrev pub cells_measured : List ℤ → Option ℕ
cells_measured cells = cond (leb (sizes (take cell_words cells)) sizes_most) (Some (sizes (take cell_words cells))) None

abbrev pub measured : List ℤ → Option ℕ
measured cells = cond (within_limits cells) (Some (sizes (take cell_words cells))) None

-- what the test of a slice alone, and of a lent book with its slice, gives: the cause, 13 or 1, or the sizes of the cells, added up
abbrev pub slice_tested : List ℤ → Result ℕ Refusal
slice_tested cells = cond (is_short cells) (Err CellsShort) (cond (within_limits cells) (Ok (sizes (take cell_words cells))) (Err BookIllFormed))

abbrev pub lent_tested : Running → Result ℕ Refusal
lent_tested r = cond (is_short r.cells) (Err CellsShort) (cond (running_formed r) (Ok (sizes (take cell_words r.cells))) (Err BookIllFormed))

-- where a meter that holds these words stands in the slice, and with what; a meter that has no row stands with nothing
unfoldable pub entry_of : List ℕ → Option Held → Entry
entry_of shapes None =
    record {
      at = 0;
      thousandths = pos 0;
      loss = pos 0;
      count = cell_words;
      meters = pos 0;
      category = waiting_words;
      waiting = pos 0;
    }
entry_of shapes (Some held) =
    record {
      at = classes * unit_of held.registration + consumption_class held.registration held.reading;
      thousandths = pos 1000 *ℤ pos (energy_wh shapes held.registration held.reading);
      loss = loss_thousandths shapes held.registration held.reading;
      count = cell_words + source_number (source_of held.registration held.reading);
      meters = pos 1;
      category = waiting_words + category_of held.registration;
      waiting = cond (eqb (source_number (source_of held.registration held.reading)) (source_number Defaulted)) (pos 1) (pos 0);
    }

-- an amount at one word, and 0 at any other
unfoldable pub amount_at : ℕ → ℤ → ℕ → ℤ
amount_at word amount k = cond (eqb word k) amount (pos 0)

-- what an entry adds to word k
unfoldable pub entry_gives : Entry → ℕ → ℤ
entry_gives e k =
    (amount_at e.at e.thousandths k +ℤ amount_at (e.at + 1) e.loss k)
    +ℤ (amount_at e.count e.meters k +ℤ amount_at e.category e.waiting k)

-- the entry with each amount of the other sign
abbrev pub opposite_of : Entry → Entry
opposite_of e =
    record {
      at = e.at;
      thousandths = neg_ℤ e.thousandths;
      loss = neg_ℤ e.loss;
      count = e.count;
      meters = neg_ℤ e.meters;
      category = e.category;
      waiting = neg_ℤ e.waiting;
    }

-- what one entry in the place of another changes in word k
abbrev pub entry_change : Entry → Entry → ℕ → ℤ
entry_change old new k = entry_gives new k -ℤ entry_gives old k

-- 1,000 × 10,000,000 Wh: no meter adds more to a word
abbrev pub amount_most : ℕ
amount_most = 10000000000

-- an entry of a meter of a well-formed book, or the opposite of one: where it stands, and how large its amounts are
pub record EntryFormed (e : Entry) : Type 0 where
  pub at-even : e.at % 2 ≡ 0
  pub at_bound : e.at + 1 < cell_words
  pub thousandths-bound : nat_abs e.thousandths ≤ amount_most
  pub loss-bound : nat_abs e.loss ≤ amount_most
  pub count-above : cell_words ≤ e.count
  pub count-bound : e.count < waiting_words
  pub meters-bound : nat_abs e.meters ≤ amount_most
  pub category-above : waiting_words ≤ e.category
  pub category-bound : e.category < slice_words
  pub waiting-bound : nat_abs e.waiting ≤ amount_most

-- the words of a row that a well-formed book may have, and those of a meter that may have no row
pub record HeldFormed (held : Held) : Type 0 where
  pub registered : is_registration held.registration ≡ true
  pub read : is_reading held.reading ≡ true

abbrev pub BeforeFormed : Option Held → Type 0
BeforeFormed before = IfSome before HeldFormed

-- shapes of a well-formed book
pub record ShapesFormed (shapes : List ℕ) : Type 0 where
  pub long : length shapes ≡ categories
  pub formed : list_all is_shape shapes ≡ true

-- a slice within its limits but for n changes of a word, each of a meter: far inside an i64
pub record Near (n : ℕ) (cells : List ℤ) : Type 0 where
  pub long : slice_words ≤ length cells
  pub word-most : (k : ℕ) → k < slice_words → nat_abs (get_or cells k (pos 0)) ≤ sizes_most + n * amount_most

-- the sizes of two cells that stand side by side, an amount added to each
unfoldable pub pair_size : List ℤ → ℕ → ℤ → ℤ → ℕ
pair_size cells at first second = nat_abs (get_or cells at (pos 0) +ℤ first) + nat_abs (get_or cells (at + 1) (pos 0) +ℤ second)

-- what `size_with` is held to: sizes that the two cells, as they are, are among, and amounts of two meters at most
pub record PairArguments (cells : List ℤ) (at : ℕ) (first second : ℤ) (size : ℕ) : Type 0 where
  pub near : Near 0 cells
  pub at_bound : at + 1 < cell_words
  pub first-bound : nat_abs first ≤ 2 * amount_most
  pub second-bound : nat_abs second ≤ 2 * amount_most
  pub among : pair_size cells at (pos 0) (pos 0) ≤ size + pair_size cells at first second
  pub size-bound : size ≤ sizes_most + 4 * amount_most

-- whether two numbers, which may be the same one, are in their range after an amount is taken from one and another is added to the other
abbrev pub numbers_fit_after : List ℤ → ℕ → ℤ → ℕ → ℤ → Bool
numbers_fit_after cells from less to more =
    is_number (get_or cells from (pos 0) +ℤ (amount_at to more from -ℤ less)) && is_number (get_or cells to (pos 0) +ℤ (more -ℤ amount_at from less to))

-- what exchanging entries, or adding a change to the cells, leaves: a number that the sizes then do not exceed, and the change added; or nothing is written, where a limit would be passed
pub record Exchanges (change : ℕ → ℤ) (cells : List ℤ) (outcome : Option ℕ) (after : List ℤ) : Type 0 where
  pub fits : (most : ℕ) → outcome ≡ Some most → CellsReady (with_change change cells) most × (after ≡ with_change change cells)
  pub passes : outcome ≡ None → (within_limits (with_change change cells) ≡ false) × (after ≡ cells)

-- the slice afterwards, by the cause: with the change added, or on a refusal as it was
unfoldable pub kept_by : ℕ → (ℕ → ℤ) → List ℤ → List ℤ
kept_by zero change cells = with_change change cells
kept_by (suc k) change cells = cells

-- what a function that keeps the slice up with a change leaves: refusal 1 where a limit would be passed, and the slice
pub record KeepsUp (change : ℕ → ℤ) (cells : List ℤ) (outcome : Result Unit Refusal) (after : List ℤ) : Type 0 where
  pub number : number_given outcome ≡ limit_cause accepted (within_limits (with_change change cells))
  pub cells_are : after ≡ kept_by (number_given outcome) change cells

-- the change that one meter makes, from what it held to what it holds
abbrev pub meter_change : List ℕ → Option Held → Option Held → ℕ → ℤ
meter_change shapes before after k = held_gives (word_in shapes k) after -ℤ held_gives (word_in shapes k) before

-- the change that other rows make in the sum over them, under the same shapes
abbrev pub rows_change : List ℕ → List Row → List Row → ℕ → ℤ
rows_change shapes before after k = sum_in shapes after k -ℤ sum_in shapes before k

-- the change that another shape makes in the sum over these meters
abbrev pub shape_change : List ℕ → ℕ → ℕ → List Row → ℕ → ℤ
shape_change shapes category wh meters k = sum_in (set shapes category wh) meters k -ℤ sum_in shapes meters k

-- rows that a well-formed book may have, in whatever order they stand
pub record RowsHeld (meters : List Row) : Type 0 where
  pub few : length meters ≤ meters_most
  pub each : list_all is_row meters ≡ true

-- whether a meter waits in a category: "energised without" a reading, it has "the shape of its category"
abbrev pub waits_in : ℕ → ℕ → ℕ → Bool
waits_in category registration reading =
    eqb reading no_reading && eqb (status_of registration) energised && eqb (category_of registration) category

-- where the first row of a meter that waits in a category stands among these rows
abbrev pub first_waiting : ℕ → List (List ℕ) → Option ℕ
first_waiting category rows = position (λ row. waits_in category (first_row row).registration (first_row row).reading) rows

-- the word of the consumption of a meter that waits, in thousandths; that of its losses is the next
abbrev pub waiting_cell : ℕ → ℕ
waiting_cell registration = classes * unit_of registration + class_of 1 registration

-- what so many Wh, at the word `at` and the one after it, add to word k
unfoldable pub cells_give : ℕ → ℕ → ℤ → ℕ → ℤ
cells_give at registration wh k = amount_at at (pos 1000 *ℤ wh) k +ℤ amount_at (at + 1) ((pos (llf_of registration) -ℤ pos 1000) *ℤ wh) k

-- what a meter adds to word k where the shape of a category gets so many Wh more
unfoldable pub shape_gives : ℕ → ℤ → ℕ → ℕ → ℕ → ℤ
shape_gives category wh k registration reading =
    cond (waits_in category registration reading) (cells_give (waiting_cell registration) registration wh k) (pos 0)

-- the same of all meters
unfoldable pub shape_sum : ℕ → ℤ → List Row → ℕ → ℤ
shape_sum category wh meters k = sum_over (shape_gives category wh k) meters

-- an amount added to each of the 768 cells
abbrev pub cells_changed : (ℕ → ℤ) → List ℤ → List ℤ
cells_changed f cells = added_from f 0 cell_words cells

-- what `add_waiting` is held to: a well-formed registration, and sums far from the width's end
pub record WaitingArguments (change : List ℤ) (registration : ℕ) (wh : ℤ) : Type 0 where
  pub registered : is_registration registration ≡ true
  pub wh-bound : nat_abs wh ≤ 10000000
  pub change-bound : (k : ℕ) → k < cell_words → nat_abs (get_or change k (pos 0)) ≤ 1310720000000000

-- what `gather_change` is held to: well-formed rows, and nothing gathered yet
pub record GatherArguments (change : List ℤ) (meters : List Row) (wh : ℤ) : Type 0 where
  pub empty : (k : ℕ) → k < cell_words → get_or change k (pos 0) ≡ pos 0
  pub rows-held : RowsHeld meters
  pub wh-bound : nat_abs wh ≤ 10000000

-- a change of the cells to be added to them: sizes whose sums an i64 holds
pub record ChangeArguments (cells change : List ℤ) : Type 0 where
  pub long : cell_words ≤ length cells
  pub change-long : length change ≡ cell_words
  pub cells-bound : (k : ℕ) → k < cell_words → nat_abs (get_or cells k (pos 0)) ≤ 1310720000000000
  pub change-bound : (k : ℕ) → k < cell_words → nat_abs (get_or change k (pos 0)) ≤ 1310720000000000

-- the change that a list holds
abbrev pub change_of : List ℤ → ℕ → ℤ
change_of change k = get_or change k (pos 0)
