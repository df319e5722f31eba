-- When rows of a well-formed book take a registration or a reading: the causes of document 01's table that come after 1.
use Rattle.std.specs.Prelude.{ℕ, Bool, not, ◌&&◌, List, leb, length}
use Rattle.refusals.specs.Causes.{refuse, accepted, argument_out_of_range, quality_refused, meter_unknown, issue_not_above, capacity_reached}
use Rattle.words.specs.declared.Registration.{Registration}
use Rattle.words.specs.declared.Reading.{Reading}
use Rattle.words.specs.Mpan.{is_mpan}
use Rattle.words.specs.Registration.{registration_in_range}
use Rattle.words.specs.Reading.{reading_in_range, quality_allowed}
use Rattle.book.specs.Rows.{Row, is_known, issue_held}

-- "an argument outside its range above", of a register call and of a reading call
abbrev pub register_in_range : ℕ → Registration → Bool
register_in_range m r = is_mpan m && registration_in_range r

abbrev pub reading_call_in_range : ℕ → Reading → Bool
reading_call_in_range m r = is_mpan m && reading_in_range r

-- "new meter, capacity reached"
unfoldable pub has_no_room : ℕ → ℕ → List Row → Bool
has_no_room capacity m rows = not (is_known m rows) && leb capacity (length rows)

-- the cause for which rows do not take a registration whose arguments are in range, and any registration
abbrev pub word_cause : ℕ → ℕ → List Row → ℕ
word_cause capacity m rows = refuse (has_no_room capacity m rows) capacity_reached accepted

unfoldable pub registration_cause : ℕ → ℕ → Registration → List Row → ℕ
registration_cause capacity m r rows = refuse (not (register_in_range m r)) argument_out_of_range (word_cause capacity m rows)

-- "Reading: stored if its issue number [..] is above the one held. Message order plays no part": the cause for which rows do not take a reading
unfoldable pub reading_cause : ℕ → Reading → List Row → ℕ
reading_cause m r rows =
    refuse (not (reading_call_in_range m r)) argument_out_of_range
    (refuse (not (quality_allowed r)) quality_refused
    (refuse (not (is_known m rows)) meter_unknown
    (refuse (leb r.issue (issue_held m rows)) issue_not_above accepted)))
