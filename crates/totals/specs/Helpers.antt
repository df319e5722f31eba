-- What the functions of the totals call are held to.
use Rattle.std.specs.Prelude.{ℕ, ◌+◌, ◌*◌, ◌≤◌, ◌<◌, ◌≡◌, true, cond, List, eqb, length, get_or, set}
use Rattle.words.specs.Registration.{status_of, tariff_of}
use Rattle.book.specs.Limits.{meters_most}
use Rattle.std.specs.List.{list_all}
use Rattle.book.specs.Settings.{is_shape}
use Rattle.book.specs.Rows.{Row, rows_formed}
use Rattle.cells.specs.declared.Use.{Use}
use Rattle.cells.specs.Energy.{energised}
use Rattle.cells.specs.Cells.{estimate_bit}
use Rattle.cells.specs.Helpers.{wh_of}
use Rattle.totals.specs.declared.totals.TariffWord.{TariffWord}
use Rattle.totals.specs.declared.totals.TariffWord.TheVariants.{ActualWh, OtherWh, Energised, DeEnergised}
use Rattle.totals.specs.Totals.{totals_words, is_idle}

-- a list with an amount added to one number
abbrev pub increased : List ℕ → ℕ → ℕ → List ℕ
increased xs at amount = set xs at (get_or xs at 0 + amount)

-- the place of a word among the four of its tariff
abbrev pub word_number : TariffWord → ℕ
word_number ActualWh = 0
word_number OtherWh = 1
word_number Energised = 2
word_number DeEnergised = 3

-- which of a tariff's four words counts the meter, by its status; its energy goes to the word of its e (`estimate_bit`): 0 for an actual reading, else 1
abbrev pub count_word : ℕ → ℕ
count_word registration = cond (eqb (status_of registration) energised) 2 3

-- the totals with a meter added to them; an idle one adds nothing
unfoldable pub with_meter : List ℕ → ℕ → Use → List ℕ
with_meter totals registration used =
    cond (is_idle used.source)
    totals
    (increased (increased totals (4 * tariff_of registration + estimate_bit used.source) (wh_of used)) (4 * tariff_of registration + count_word registration) 1)

-- what `add_meter` is held to: the words of all tariffs, far from the width's end
pub record AddArguments (totals : List ℕ) (used : Use) : Type 0 where
  pub long : totals_words ≤ length totals
  pub wh-bound : wh_of used ≤ 10000000
  pub words-bound : (k : ℕ) → k < totals_words → get_or totals k 0 ≤ 655360000000

-- what `add_rows` is held to: well-formed rows and shapes, and nothing added yet
pub record AddRowsArguments (totals : List ℕ) (meters : List Row) (shapes : List ℕ) : Type 0 where
  pub few : length meters ≤ meters_most
  pub rows-formed : rows_formed 0 meters ≡ true
  pub shapes-formed : list_all is_shape shapes ≡ true
  pub totals-long : totals_words ≤ length totals
  pub totals-empty : (k : ℕ) → k < totals_words → get_or totals k 0 ≡ 0
