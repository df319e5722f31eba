-- The table of worked cases holds of the definitions, document 01's cases 1 to 10 and those of document 02: every figure, worked by making the calls and worked from what the list of calls means, by computation. Assumes nothing.
use mathlib.Core.Bool.{Bool, true, false, ◌&&◌}
use mathlib.Core.List.{List, [], ◌∷◌, ◌++◌}
use lib.Dec.{T}
use Rattle.integers.specs.Sum.{sum}
use Rattle.integers.specs.Quotient.{floor_of, fraction_of}
use Rattle.integers.specs.Rounding.{nearest_wh, dropped_thousandths}
use Rattle.words.specs.Mpan.{is_mpan}
use Rattle.words.specs.Registration.{registration_of, registration_word, registration_in_range, is_registration, unit_of}
use Rattle.words.specs.Reading.{reading_of, reading_word, is_actual, quality_allowed, reading_in_range, is_reading}
use Rattle.book.specs.Settings.{take_formed, settings_formed, with_setting, setting_cause}
use Rattle.book.specs.Rows.{capacity, rows_of, words_of, written, rows_formed, is_known, issue_held, with_registration, with_reading}
use Rattle.book.specs.Book.{used_rows, well_formed}
use Rattle.book.specs.Store.{has_no_room, registration_cause, reading_cause}
use Rattle.calls.specs.Calls.{outcome, cause_after_test, call_cause, book_made, call_outcome, book_after, numbers_given}
use Rattle.cells.specs.Energy.{reading_source, used_de_energised, source_of, shape_wh, energy_from, energy_wh, lacks_shape_from, any_lacks_shape, count_for, counts_of}
use Rattle.cells.specs.Cells.{estimate_bit, consumption_class, in_cell, sum_over, consumption_cell, loss_cell, cell, count_from, cells_of}
use Rattle.totals.specs.Totals.{is_charged, actual_from, other_from, is_idle, one_of, sum_where, tariff_totals}
use Rattle.correction.specs.Correction.{net_of, weighted_of, unallocated_of, weighted_total, share_numerator, share_floor, share_fraction, exceeds_tolerance, sums_cause}
use Rattle.correction.specs.Volumes.{with_volumes, count_before, extra_wh, rounded_volumes, lacking_wh, volumes_from, volumes_of}
use Rattle.allocation.specs.Losses.{unit_droppings, all_droppings}
use Rattle.allocation.specs.Allocate.{unit_sums, all_unit_sums, meters_cause, allocation_cause, figures_of, allocation_outcome, allocate_call}
use Rattle.meaning.specs.Cases.{Case, same, same_numbers, figure_holds, figures_hold, by_calls, by_meaning, case_holds, holds, cases_hold, cases, code_cases, dropping_cases, worked_cases}
use Rattle.meaning.specs.Meaning.{only, gather, last_or, setting_set, weight_set, shape_set, tolerance_set, take_given, meant_weight, meant_shape, meant_tolerance, meant_take, is_any, meant_take_set, mpan_registered, without, different, meant_mpans, registration_set, meant_registration, since_registered, reading_free, counted_readings, higher_issue, newest_reading, meant_meter, meant_meters, meant_settings}

-- the whole table
pub worked-cases : T (cases_hold worked_cases)
unfolding sum floor_of fraction_of nearest_wh dropped_thousandths is_mpan registration_of registration_word registration_in_range is_registration unit_of reading_of reading_word is_actual quality_allowed reading_in_range is_reading take_formed settings_formed capacity rows_of words_of written rows_formed is_known issue_held with_registration with_reading used_rows well_formed outcome with_setting setting_cause has_no_room registration_cause reading_cause cause_after_test call_cause book_made call_outcome book_after numbers_given reading_source used_de_energised source_of shape_wh energy_from energy_wh lacks_shape_from any_lacks_shape count_for counts_of estimate_bit consumption_class in_cell sum_over consumption_cell loss_cell cell count_from cells_of net_of weighted_of unit_sums all_unit_sums unallocated_of weighted_total share_numerator share_floor share_fraction count_before extra_wh rounded_volumes lacking_wh volumes_from volumes_of exceeds_tolerance sums_cause meters_cause allocation_cause unit_droppings all_droppings figures_of with_volumes allocation_outcome allocate_call is_charged actual_from other_from is_idle one_of sum_where tariff_totals same same_numbers figure_holds figures_hold by_calls by_meaning case_holds holds cases_hold cases code_cases dropping_cases only gather last_or setting_set weight_set shape_set tolerance_set take_given meant_weight meant_shape meant_tolerance meant_take is_any meant_take_set mpan_registered without different meant_mpans registration_set meant_registration since_registered reading_free counted_readings higher_issue newest_reading meant_meter meant_meters meant_settings
worked-cases = tt

-- of two tests that hold, the second may be put aside for one that follows from it
and-weakened : (x y z : Bool) → (T y → T z) → T (x && y) → T (x && z)
and-weakened true y z f h = f h
and-weakened false y z f h = h

-- the first part of a table that holds
first_part : (xs ys : List Case) → T (cases_hold (xs ++ ys)) → T (cases_hold xs)
unfolding cases_hold
first_part [] ys h = tt
first_part (x ∷ xs) ys h = and-weakened (holds x) (cases_hold (xs ++ ys)) (cases_hold xs) (first_part xs ys) h

-- cases 1 to 10
pub ten-cases : T (cases_hold cases)
ten-cases = first_part cases (code_cases ++ dropping_cases) worked-cases
