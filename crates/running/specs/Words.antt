-- Document 02, request 4, "Cells that keep up": what stands in the slice of running cells, and what one meter adds to each word of it.
use Rattle.std.specs.Prelude.{ℕ, ◌-◌, ◌/◌, ◌%◌, cond, List, eqb, ltb, ℤ, pos, ◌*ℤ◌}
use Rattle.words.specs.Registration.{category_of}
use Rattle.book.specs.Limits.{classes}
use Rattle.book.specs.Rows.{Row}
use Rattle.cells.specs.declared.Source.TheVariants.{Defaulted}
use Rattle.cells.specs.Energy.{source_number, source_of}
use Rattle.cells.specs.Cells.{is_loss_class, energy_in, loss_in, sum_over}

-- "the 32 by 24 unrounded cells": so many words, the first of the slice
abbrev pub cell_words : ℕ
cell_words = 768

-- then "the four counts": the word of the first number of a category is after so many
abbrev pub waiting_words : ℕ
waiting_words = 772

-- then a number for each of the 64 categories: "a cell slice shorter than 836 words" is refused
abbrev pub slice_words : ℕ
slice_words = 836

-- "unrounded cells, in thousandths of a Wh": what a meter adds to the cell of a unit and a class, a loss class or one of consumption
unfoldable pub thousandths_in : List ℕ → ℕ → ℕ → ℕ → ℕ → ℤ
thousandths_in shapes unit class registration reading =
    cond (is_loss_class class)
    (loss_in shapes unit (class - 1) registration reading)
    (pos 1000 *ℤ energy_in shapes unit class registration reading)

-- "the four counts", each by the number of its source: a meter adds 1 to its own
unfoldable pub count_in : ℕ → ℕ → ℕ → ℤ
count_in number registration reading = cond (eqb (source_number (source_of registration reading)) number) (pos 1) (pos 0)

-- "how many defaulted meters wait in each category, its shape missing or not"
unfoldable pub waiting_in : ℕ → ℕ → ℕ → ℤ
waiting_in category registration reading =
    cond (eqb (category_of registration) category) (count_in (source_number Defaulted) registration reading) (pos 0)

-- "holding in this order, by unit and then class, the [..] cells, [..] the four counts, and how many [..] wait in each category": what a meter adds to word k
unfoldable pub word_in : List ℕ → ℕ → ℕ → ℕ → ℤ
word_in shapes k registration reading =
    cond (ltb k cell_words)
    (thousandths_in shapes (k / classes) (k % classes) registration reading)
    (cond (ltb k waiting_words)
    (count_in (k - cell_words) registration reading)
    (waiting_in (k - waiting_words) registration reading))

-- "a sum over the rows": word k of these meters under these shapes ("a missing shape is 0 Wh")
unfoldable pub sum_in : List ℕ → List Row → ℕ → ℤ
sum_in shapes meters k = sum_over (word_in shapes k) meters
