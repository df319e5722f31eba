-- Document 01's example: for the lines of case 1 the program prints what the document prints; and a refused call and a line out of
-- form print their lines. The rows are those of three meters, and the running cells are 836 words of 0. What is computed is worked
-- from the rows alone, which prints the same.
use Rattle.std.proofs.Common.{◌≡◌, List, [], replicate, ℤ, pos, refl, ◌∙◌}
use Rattle.integers.specs.Quotient.{floor_of, fraction_of}
use Rattle.integers.specs.Rounding.{nearest_wh}
use Rattle.integers.specs.Sum.{sum}
use Rattle.words.specs.Mpan.{is_mpan}
use Rattle.words.specs.Reading.{reading_of, reading_word, is_actual, quality_allowed, reading_in_range, is_reading}
use Rattle.words.specs.Registration.{registration_of, registration_word, registration_in_range, is_registration, unit_of}
use Rattle.book.specs.Book.{used_rows, well_formed}
use Rattle.book.specs.Settings.{with_setting, setting_cause, take_formed, settings_formed}
use Rattle.book.specs.Store.{has_no_room, registration_cause, reading_cause}
use Rattle.book.specs.Rows.{capacity, rows_of, words_of, written, rows_formed, is_known, issue_held, with_registration, with_reading}
use Rattle.calls.specs.Calls.{outcome, cause_after_test, call_cause, book_made, call_outcome}
use Rattle.cells.specs.Cells.{estimate_bit, consumption_class, in_cell, sum_over, consumption_cell, loss_cell, cell, count_from, cells_of}
use Rattle.cells.specs.Energy.{reading_source, used_de_energised, source_of, shape_wh, energy_from, energy_wh, lacks_shape_from, any_lacks_shape, count_for, counts_of}
use Rattle.running.specs.Words.{slice_words}
use Rattle.correction.specs.Correction.{exceeds_tolerance, net_of, weighted_of, unallocated_of, weighted_total, share_numerator, share_floor, share_fraction, sums_cause}
use Rattle.correction.specs.Volumes.{with_volumes, count_before, extra_wh, rounded_volumes, lacking_wh, volumes_from, volumes_of}
use Rattle.allocation.specs.Allocate.{meters_cause, allocation_cause, figures_of, allocation_outcome, allocate_call, unit_sums, all_unit_sums}
use Rattle.period_file.specs.Fields.{starts_with, field_count, before_comma, after_comma, field, number_at, two_numbers, additional_of, additional_at}
use Rattle.period_file.specs.Lines.{take_line, tolerance_line, weight_line, shape_line, registration_at, meter_line, reading_line, keyed_line, line_of, line_allowed}
use Rattle.period_file.specs.Numbers.{value_after, digits_of, number_of, signed_of}
use Rattle.report.specs.Example.{joined, case_one_text}
use Rattle.report.specs.Lines.{value_line, signed_line, refused_line, count_lines, figure_lines, volume_line, volume_lines, allocation_text}
use Rattle.report.specs.Numbers.{digits_within, decimal, signed_decimal}
use Rattle.settle_run.specs.Program.{by_cells, end_line, take_byte, take_bytes, end_input, closing_text, end_text, settle_text}
use Rattle.settle_run.specs.RowsAlone.{by_rows}
use Rattle.settle_run.specs.Example.{case_one_input, bad_input, bad_text}
use Rattle.settle_run.proofs.RowsAlone.{rows-alone}

from-rows : (settle_text by_rows (replicate 9 0) [] (joined case_one_input) ≡ joined case_one_text) × (settle_text by_rows (replicate 9 0) [] (joined bad_input) ≡ joined bad_text)
unfolding floor_of fraction_of nearest_wh sum is_mpan reading_of reading_word is_actual quality_allowed reading_in_range is_reading registration_of registration_word registration_in_range is_registration unit_of used_rows well_formed outcome with_setting setting_cause has_no_room registration_cause reading_cause cause_after_test call_cause book_made call_outcome capacity rows_of words_of written rows_formed is_known issue_held with_registration with_reading take_formed settings_formed exceeds_tolerance sums_cause meters_cause allocation_cause figures_of with_volumes allocation_outcome allocate_call estimate_bit consumption_class in_cell sum_over consumption_cell loss_cell cell count_from cells_of net_of weighted_of unit_sums all_unit_sums unallocated_of weighted_total share_numerator share_floor share_fraction reading_source used_de_energised source_of shape_wh energy_from energy_wh lacks_shape_from any_lacks_shape count_for counts_of count_before extra_wh rounded_volumes lacking_wh volumes_from volumes_of starts_with field_count before_comma after_comma field number_at two_numbers additional_of additional_at take_line tolerance_line weight_line shape_line registration_at meter_line reading_line keyed_line line_of line_allowed value_after digits_of number_of signed_of joined value_line signed_line refused_line count_lines figure_lines volume_line volume_lines allocation_text digits_within decimal signed_decimal end_line take_byte take_bytes end_input closing_text end_text settle_text by_rows
from-rows = (refl, refl)

abbrev zero_cells : List ℤ
zero_cells = replicate slice_words (pos 0)

pub case-one-prints : settle_text by_cells (replicate 9 0) zero_cells (joined case_one_input) ≡ joined case_one_text
case-one-prints = rows-alone (replicate 9 0) zero_cells [] refl (joined case_one_input) ∙ from-rows.0

pub bad-lines-print : settle_text by_cells (replicate 9 0) zero_cells (joined bad_input) ≡ joined bad_text
bad-lines-print = rows-alone (replicate 9 0) zero_cells [] refl (joined bad_input) ∙ from-rows.1
