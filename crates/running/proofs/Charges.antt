-- The running cells are the same without the networks and the tariffs.
use Prim.Native.Nat.{ℕ, ◌-◌, ◌/◌, ◌%◌}
use mathlib.Core.Path.{◌≡◌, ap, fun_ext}
use mathlib.Core.List.{List, map}
use lib.IntN.{ℤ}
use Rattle.words.specs.Registration.{without_charges}
use Rattle.words.proofs.Charges.{category-kept}
use Rattle.book.specs.Limits.{classes}
use Rattle.book.specs.Rows.{Row, row_without_charges}
use Rattle.cells.specs.Cells.{count_from}
use Rattle.cells.proofs.Charges.{source-kept, energy-in-kept, loss-in-kept, sum-without-charges}
use Rattle.running.specs.Words.{slice_words, thousandths_in, count_in, waiting_in, word_in, sum_in}
use Rattle.running.specs.Running.{cells_for}

module _ (shapes : List ℕ) where
  thousandths-kept : (unit class w reading : ℕ) → thousandths_in shapes unit class (without_charges w) reading ≡ thousandths_in shapes unit class w reading
  unfolding thousandths_in
  thousandths-kept unit class w reading = rw (loss-in-kept w reading shapes unit (class - 1), energy-in-kept w reading shapes unit class)

  count_kept : (n w reading : ℕ) → count_in n (without_charges w) reading ≡ count_in n w reading
  unfolding count_in
  count_kept n w reading = rw (source-kept w reading)

  waiting_kept : (category w reading : ℕ) → waiting_in category (without_charges w) reading ≡ waiting_in category w reading
  unfolding waiting_in
  waiting_kept category w reading = rw (category-kept w, count_kept 2 w reading)

  word_kept : (k w reading : ℕ) → word_in shapes k (without_charges w) reading ≡ word_in shapes k w reading
  unfolding word_in
  word_kept k w reading =
      rw (thousandths-kept (k / classes) (k % classes) w reading, count_kept (k - 768) w reading, waiting_kept (k - 772) w reading)

  pub cells-for-without-charges : (meters : List Row) → cells_for shapes (map row_without_charges meters) ≡ cells_for shapes meters
  unfolding cells_for sum_in
  cells-for-without-charges meters =
      ap (λ (f : ℕ → ℤ). map f (count_from 0 slice_words)) (fun_ext (λ k. sum-without-charges (word_in shapes k) (word_kept k) meters))
