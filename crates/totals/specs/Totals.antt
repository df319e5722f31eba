-- Document 02, request 1: "A totals call writes four unsigned 64-bit words for each tariff, in tariff order, of one direction and embedded network".
use Rattle.std.specs.Prelude.{ℕ, zero, suc, ◌+◌, ◌*◌, ◌≡◌, Bool, true, false, not, ◌&&◌, cond, List, [], ◌∷◌, ◌++◌, leb, ltb, eqb, length, drop}
use Rattle.refusals.specs.Causes.{refuse, accepted, book_ill_formed, argument_out_of_range, totals_short, shape_of_default_missing}
use Rattle.words.specs.Limits.{direction_most, network_most, tariff_most}
use Rattle.words.specs.Registration.{direction_of, status_of, network_of, tariff_of}
use Rattle.book.specs.declared.Answer.{Answer}
use Rattle.book.specs.Rows.{Row}
use Rattle.book.specs.Book.{Book, used_rows, well_formed}
use Rattle.cells.specs.declared.Source.{Source}
use Rattle.cells.specs.declared.Source.TheVariants.{Actual, Estimated, Defaulted, Idle}
use Rattle.cells.specs.Energy.{source_of, energy_wh, any_lacks_shape, energised, de_energised}

-- "a tariff (0 to 1,023)", "an embedded network (0 to 63 [..])": how many there are
abbrev pub tariffs : ℕ
tariffs = tariff_most + 1

abbrev pub networks : ℕ
networks = network_most + 1

-- "a totals slice shorter than 4,096": four words for each tariff
abbrev pub totals_words : ℕ
totals_words = 4 * tariffs

-- "of one direction and embedded network": whether a meter is of these and of a tariff
unfoldable pub is_charged : ℕ → ℕ → ℕ → ℕ → Bool
is_charged direction network tariff registration =
    eqb (direction_of registration) direction && eqb (network_of registration) network && eqb (tariff_of registration) tariff

-- "actual Wh": energy that comes from a reading in use of an actual code
unfoldable pub actual_from : Source → ℕ → ℕ
actual_from Actual wh = wh
actual_from Estimated wh = 0
actual_from Defaulted wh = 0
actual_from Idle wh = 0

abbrev pub actual_wh : List ℕ → ℕ → ℕ → ℕ
actual_wh shapes registration reading = actual_from (source_of registration reading) (energy_wh shapes registration reading)

-- "other Wh", "Defaults count as other"
unfoldable pub other_from : Source → ℕ → ℕ
other_from Actual wh = 0
other_from Estimated wh = wh
other_from Defaulted wh = wh
other_from Idle wh = 0

abbrev pub other_wh : List ℕ → ℕ → ℕ → ℕ
other_wh shapes registration reading = other_from (source_of registration reading) (energy_wh shapes registration reading)

-- "meters not idle"
unfoldable pub is_idle : Source → Bool
is_idle Actual = false
is_idle Estimated = false
is_idle Defaulted = false
is_idle Idle = true

-- "how many meters not idle are energised and de-energised": 1 for one that is not idle and has this status, else 0
unfoldable pub one_of : ℕ → ℕ → ℕ → ℕ
one_of status registration reading = cond (not (is_idle (source_of registration reading)) && eqb (status_of registration) status) 1 0

-- the sum of what each meter gives by its registration and its reading, of those meters whose registration passes a test
unfoldable pub sum_where : (ℕ → Bool) → (ℕ → ℕ → ℕ) → List Row → ℕ
sum_where test gives [] = 0
sum_where test gives (r ∷ meters) = cond (test r.registration) (gives r.registration r.reading) 0 + sum_where test gives meters

-- "four unsigned 64-bit words for each tariff [..]: actual Wh, other Wh, and how many meters not idle are energised and de-energised"
unfoldable pub tariff_totals : List ℕ → List Row → ℕ → ℕ → ℕ → List ℕ
tariff_totals shapes meters direction network tariff =
    sum_where (is_charged direction network tariff) (actual_wh shapes) meters
    ∷ sum_where (is_charged direction network tariff) (other_wh shapes) meters
    ∷ sum_where (is_charged direction network tariff) (one_of energised) meters
    ∷ sum_where (is_charged direction network tariff) (one_of de_energised) meters
    ∷ []

-- "for each tariff, in tariff order": those of n tariffs from one on
unfoldable pub totals_from : List ℕ → List Row → ℕ → ℕ → ℕ → ℕ → List ℕ
totals_from shapes meters direction network tariff zero = []
totals_from shapes meters direction network tariff (suc n) =
    tariff_totals shapes meters direction network tariff ++ totals_from shapes meters direction network (suc tariff) n

-- those of all tariffs
abbrev pub totals_of : List ℕ → List Row → ℕ → ℕ → List ℕ
totals_of shapes meters direction network = totals_from shapes meters direction network 0 tariffs

-- those of a book
abbrev pub book_totals : Book → ℕ → ℕ → List ℕ
book_totals b direction network = totals_of b.settings.shapes (used_rows b) direction network

-- "12, after 2, for a totals slice shorter than 4,096": 2 of the direction and the network that are asked for, then 12 of the slice's length, then the causes after them
abbrev pub arguments_cause : ℕ → ℕ → ℕ → ℕ → ℕ
arguments_cause direction network words rest =
    refuse (not (leb direction direction_most && leb network network_most)) argument_out_of_range
    (refuse (ltb words totals_words) totals_short rest)

-- "The totals call also gives refusal 9, for any meter of the book": its causes in order
unfoldable pub totals_cause : Book → ℕ → ℕ → List ℕ → ℕ
totals_cause b direction network slice =
    refuse (not (well_formed b)) book_ill_formed
    (arguments_cause direction network (length slice)
    (refuse (any_lacks_shape b.settings.shapes (used_rows b)) shape_of_default_missing accepted))

-- what a totals call leaves: the number given, the book and the totals slice
pub record Totalled : Type 0 where
  pub number : ℕ
  pub book : Book
  pub totals : List ℕ

-- the first 4,096 words written, and every later one as it was; "a refused call writes to no lent slice"
unfoldable pub totals_outcome : ℕ → Book → ℕ → ℕ → List ℕ → Totalled
totals_outcome zero b direction network slice =
    record {
      number = accepted;
      book = b;
      totals = book_totals b direction network ++ drop totals_words slice;
    }
totals_outcome (suc k) b direction network slice = record { number = suc k; book = b; totals = slice }

unfoldable pub totals_call : Book → ℕ → ℕ → List ℕ → Totalled
totals_call b direction network slice = totals_outcome (totals_cause b direction network slice) b direction network slice

-- the promise of the totals call: the answer ("a new refusal returns as 1 does", with the settings as given), the rows and the totals slice afterwards are those of its outcome
pub record TotalsGives (o : Totalled) (answer : Answer) (rows_after totals_after : List ℕ) : Type 0 where
  pub number : answer.number ≡ o.number
  pub settings : answer.settings ≡ o.book.settings
  pub rows : rows_after ≡ o.book.rows
  pub totals : totals_after ≡ o.totals
