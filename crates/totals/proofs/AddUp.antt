-- What the totals of a well-formed book add up to: the consumption cells of a direction, and the meters that are not idle.
use Prim.Native.Nat.{ℕ, ◌+◌, ◌-◌, ◌/◌, ◌%◌, ◌<◌}
use mathlib.Core.Path.{◌≡◌, refl, sym, ap, ap₂, ◌∙◌, fun_ext}
use mathlib.Core.Bool.{Bool, true, false, not, ◌&&◌, cond, and-true, true≢false}
use mathlib.Core.List.{List, [], ◌∷◌}
use native.Mathlib.Omega.{arith}
use lib.Dec.{eqb}
use lib.IntN.{ℤ, pos, ◌+ℤ◌}
use borrow.Author.Tests.{eqb-true, eq-eqb, ne_eqb}
use Rattle.integers.specs.Sum.{sum}
use Rattle.integers.specs.Rounding.{nearest_wh}
use Rattle.words.specs.Limits.{direction_most}
use Rattle.words.specs.Registration.{direction_of, status_of, network_of, tariff_of, unit_of}
use Rattle.words.proofs.Tests.{by-test}
use Rattle.words.proofs.RegistrationWord.{unit-bound}
use Rattle.book.specs.Limits.{classes}
use Rattle.book.specs.Rows.{Row}
use Rattle.book.specs.Book.{Book, used_rows, well_formed}
use Rattle.book.proofs.WellFormed.{formed-book, formed-settings}
use Rattle.cells.specs.declared.Source.{Source}
use Rattle.cells.specs.declared.Source.TheVariants.{Actual, Estimated, Defaulted, Idle}
use Rattle.cells.specs.declared.Counts.{Counts}
use Rattle.cells.specs.Energy.{source_of, energy_from, energy_wh, energised, de_energised, count_for, counts_of, add_counts}
use Rattle.cells.specs.Cells.{units, sum_over, sum_below, is_loss_class, energy_in, in_cell, consumption_class, consumption_cell, loss_cell, cell}
use Rattle.cells.proofs.Each.{Each}
use Rattle.cells.proofs.RowBounds.{RowBounds, rows-bounds, class-even, class-direction}
use Rattle.cells.proofs.SumOver.{sum-over-through}
use Rattle.cells.proofs.SumBelow.{sum-below-same, sum-below-place, sum-below-over, sum-below-only, sum-over-same}
use Rattle.totals.specs.Totals.{tariffs, networks, is_charged, actual_from, other_from, actual_wh, other_wh, is_idle, one_of, sum_where}
use Rattle.totals.specs.Laws.{word_for, wh_over_all, is_consumption_of, cells_over_all, meters_over_all, TotalsAddUp}
use Rattle.totals.proofs.TotalAt.{word_gives, total-sum}
use Rattle.totals.proofs.OneMore.{used-status}

-- totals as sums over meters

-- of two things that each meter gives
sum-where-plus : (test : ℕ → Bool) (f g : ℕ → ℕ → ℕ) (meters : List Row) → sum_where test f meters + sum_where test g meters ≡ sum_where test (λ registration reading. f registration reading + g registration reading) meters
unfolding sum_where
sum-where-plus test f g [] = refl
sum-where-plus test f g (r ∷ meters) =
    by (sum_where test f meters) (sum_where test g meters) (sum_where test (λ registration reading. f registration reading + g registration reading) meters)
    (test r.registration) (f r.registration r.reading) (g r.registration r.reading) (sum-where-plus test f g meters)
  where
    by : (a b c : ℕ) (t : Bool) (x y : ℕ) → a + b ≡ c → (cond t x 0 + a) + (cond t y 0 + b) ≡ cond t (x + y) 0 + c
    by a b c true x y rest = omega arith
    by a b c false x y rest = omega arith

sum-where-over : (test : ℕ → Bool) (f : ℕ → ℕ → ℕ) (meters : List Row) → pos (sum_where test f meters) ≡ sum_over (λ registration reading. cond (test registration) (pos (f registration reading)) (pos 0)) meters
unfolding sum_where sum_over sum
sum-where-over test f [] = refl
sum-where-over test f (r ∷ meters) = by (test r.registration) (f r.registration r.reading) (sum-where-over test f meters)
  where
    by : {a : ℕ} {z : ℤ} (t : Bool) (x : ℕ) → pos a ≡ z → pos (cond t x 0 + a) ≡ cond t (pos x) (pos 0) +ℤ z
    by true x rest = ap (λ z. pos x +ℤ z) rest
    by false x rest = ap (λ z. pos 0 +ℤ z) rest

-- over all tariffs and networks, each meter of the direction counts once: its network and its tariff fill their bits
charged-once : (direction registration : ℕ) (v : ℤ)
    → sum_below networks (λ network. sum_below tariffs (λ tariff. cond (is_charged direction network tariff registration) v (pos 0))) ≡ cond (eqb (direction_of registration) direction) v (pos 0)
unfolding is_charged
charged-once direction registration v =
    sum-below-same networks _ _ (λ network h. sum-below-same tariffs _ _ (λ tariff l. by (eqb (direction_of registration) direction) (eqb (network_of registration) network) (eqb (tariff_of registration) tariff)))
    ∙ sum-below-place networks tariffs (network_of registration) (tariff_of registration) (cond (eqb (direction_of registration) direction) v (pos 0)) (omega arith) (omega arith)
  where
    by : (d s t : Bool) → cond (d && s && t) v (pos 0) ≡ cond (s && t) (cond d v (pos 0)) (pos 0)
    by true s t = refl
    by false true true = refl
    by false true false = refl
    by false false t = refl

module _ (direction : ℕ) (f : ℕ → ℕ → ℕ) (meters : List Row) where
  over-tariffs : (network : ℕ) → sum_below tariffs (λ tariff. pos (sum_where (is_charged direction network tariff) f meters)) ≡ sum_over (λ registration reading. sum_below tariffs (λ tariff. cond (is_charged direction network tariff registration) (pos (f registration reading)) (pos 0))) meters
  over-tariffs network =
      sum-below-same tariffs _ _ (λ tariff h. sum-where-over (is_charged direction network tariff) f meters)
      ∙ sum-below-over tariffs (λ tariff registration reading. cond (is_charged direction network tariff registration) (pos (f registration reading)) (pos 0)) meters

  over-all : sum_below networks (λ network. sum_below tariffs (λ tariff. pos (sum_where (is_charged direction network tariff) f meters))) ≡ sum_over (λ registration reading. cond (eqb (direction_of registration) direction) (pos (f registration reading)) (pos 0)) meters
  over-all =
      sum-below-same networks _ _ (λ network h. over-tariffs network)
      ∙ sum-below-over networks (λ network registration reading. sum_below tariffs (λ tariff. cond (is_charged direction network tariff registration) (pos (f registration reading)) (pos 0))) meters
      ∙ ap (λ (g : ℕ → ℕ → ℤ). sum_over g meters) (fun_ext (λ registration. fun_ext (λ reading. charged-once direction registration (pos (f registration reading)))))

-- actual and other together are all of a meter's energy
all-energy : (shapes : List ℕ) (registration reading : ℕ) → actual_wh shapes registration reading + other_wh shapes registration reading ≡ energy_wh shapes registration reading
unfolding energy_wh actual_from other_from energy_from
all-energy shapes registration reading = by (source_of registration reading)
  where
    by : (x : Source) → actual_from x (energy_from shapes registration reading x) + other_from x (energy_from shapes registration reading x) ≡ energy_from shapes registration reading x
    by Actual = omega arith
    by Estimated = omega arith
    by Defaulted = omega arith
    by Idle = omega arith

sum-over-zeros : (meters : List Row) → sum_over (λ registration reading. pos 0) meters ≡ pos 0
sum-over-zeros meters = sym (sum-over-through (λ registration reading. pos 0) (λ z. pos 0) refl (λ a b. refl) meters)

-- two tests of one amount, in either order; and an amount at another place
swap : (s d : Bool) (e : ℤ) → cond d (cond (s && true) e (pos 0)) (pos 0) ≡ cond (s && true) (cond d e (pos 0)) (pos 0)
swap true d e = refl
swap false true e = refl
swap false false e = refl

none : (s c d : Bool) (e : ℤ) → cond c (cond (s && false) e (pos 0)) (pos 0) ≡ cond (s && false) (cond d e (pos 0)) (pos 0)
none true true d e = refl
none true false d e = refl
none false true d e = refl
none false false d e = refl

-- the counts other than idle
abbrev not_idle : Counts → ℕ
not_idle x = x.actual + x.estimated + x.defaulted

counted-all : (meters : List Row) → sum_over (λ registration reading. pos (not_idle (count_for (source_of registration reading)))) meters ≡ pos (not_idle (counts_of meters))
unfolding sum_over sum counts_of
counted-all [] = refl
counted-all (r ∷ meters) =
    let x = count_for (source_of r.registration r.reading) in
    let y = counts_of meters in
    let e : not_idle x + not_idle y ≡ not_idle (add_counts x y) = omega arith in
    ap (λ z. pos (not_idle x) +ℤ z) (counted-all meters) ∙ ap pos e

-- what a meter gives of a direction
abbrev energy_of : List ℕ → ℕ → ℕ → ℕ → ℤ
energy_of shapes direction registration reading = cond (eqb (direction_of registration) direction) (pos (energy_wh shapes registration reading)) (pos 0)

module _ (shapes : List ℕ) (direction : ℕ) where
  abbrev wh : List Row → ℕ → ℕ → ℕ
  wh meters network tariff = sum_where (is_charged direction network tariff) (actual_wh shapes) meters + sum_where (is_charged direction network tariff) (other_wh shapes) meters

  -- actual plus other, over all tariffs and networks
  wh-over-all : (meters : List Row) → sum_below networks (λ network. sum_below tariffs (λ tariff. pos (wh meters network tariff))) ≡ sum_over (energy_of shapes direction) meters
  wh-over-all meters =
      sum-below-same networks _ _ (λ network h. sum-below-same tariffs _ _ (λ tariff l. ap pos (sum-where-plus (is_charged direction network tariff) (actual_wh shapes) (other_wh shapes) meters)))
      ∙ over-all direction (λ registration reading. actual_wh shapes registration reading + other_wh shapes registration reading) meters
      ∙ ap (λ (g : ℕ → ℕ → ℕ). sum_over (λ registration reading. cond (eqb (direction_of registration) direction) (pos (g registration reading)) (pos 0)) meters)
      (fun_ext (λ registration. fun_ext (λ reading. all-energy shapes registration reading)))

  -- a consumption cell of the direction, as a sum over meters
  cell-over : (meters : List Row) (unit class : ℕ) → cond (is_consumption_of direction class) (cell shapes meters unit class) (pos 0)
      ≡ sum_over (λ registration reading. cond (is_consumption_of direction class) (energy_in shapes unit class registration reading) (pos 0)) meters
  unfolding cell consumption_cell
  cell-over meters unit class =
      by (eqb (class / 4 % 2) direction) (eqb (class % 2) 0) (is_loss_class class) (nearest_wh (loss_cell shapes meters unit (class - 1)))
      (λ even. ne_eqb (class % 2) 1 (λ odd. omega (arith, eqb-true (class % 2) 0 even)))
    where
      by : (d even loss : Bool) (rounded : ℤ) → (even ≡ true → loss ≡ false)
          → cond (d && even) (cond loss rounded (sum_over (energy_in shapes unit class) meters)) (pos 0)
          ≡ sum_over (λ registration reading. cond (d && even) (energy_in shapes unit class registration reading) (pos 0)) meters
      by true true true rounded h = absurd (true≢false (h refl))
      by true true false rounded h = refl
      by true false loss rounded h = sym (sum-over-zeros meters)
      by false even loss rounded h = sym (sum-over-zeros meters)

  -- the class of a meter's consumption is of its direction
  class_of : (registration reading : ℕ) → is_consumption_of direction (consumption_class registration reading) ≡ eqb (direction_of registration) direction
  class_of registration reading =
      rw (class-direction registration reading, class-even registration reading) (and-true (eqb (direction_of registration) direction))

  -- a meter counts in one of these cells, that of its unit and its class
  cell-once : (r : Row) → RowBounds shapes r
      → sum_below units (λ unit. sum_below classes (λ class. cond (is_consumption_of direction class) (energy_in shapes unit class r.registration r.reading) (pos 0))) ≡ energy_of shapes direction r.registration r.reading
  unfolding in_cell
  cell-once r b =
      let u = unit_of r.registration in
      let k = consumption_class r.registration r.reading in
      let e = pos (energy_wh shapes r.registration r.reading) in
      sum-below-same units _ _ (λ unit h. sum-below-same classes _ _ (λ class l. here (eqb u unit) k class (eqb (direction_of r.registration) direction) e (class_of r.registration r.reading)))
      ∙ sum-below-place units classes u k (energy_of shapes direction r.registration r.reading) (omega (arith, unit-bound r.registration)) (omega (arith, b.class))
    where
      here : (s : Bool) (k class : ℕ) (d : Bool) (e : ℤ) → is_consumption_of direction k ≡ d
          → cond (is_consumption_of direction class) (cond (s && eqb k class) e (pos 0)) (pos 0) ≡ cond (s && eqb k class) (cond d e (pos 0)) (pos 0)
      here s k class d e own =
          by-test (eqb k class)
          (λ t. rw (← eqb-true k class t, own, eq-eqb k k refl) (swap s d e))
          (λ t. rw t (none s (is_consumption_of direction class) d e))

  -- the consumption cells of the direction, over all units and classes
  cells-over-all : {meters : List Row} → Each (RowBounds shapes) meters
      → sum_below units (λ unit. sum_below classes (λ class. cond (is_consumption_of direction class) (cell shapes meters unit class) (pos 0))) ≡ sum_over (energy_of shapes direction) meters
  cells-over-all {meters = meters} each =
      sum-below-same units _ _
      (λ unit h.
      sum-below-same classes _ _ (λ class l. cell-over meters unit class)
      ∙ sum-below-over classes (λ class registration reading. cond (is_consumption_of direction class) (energy_in shapes unit class registration reading) (pos 0)) meters)
      ∙ sum-below-over units (λ unit registration reading. sum_below classes (λ class. cond (is_consumption_of direction class) (energy_in shapes unit class registration reading) (pos 0))) meters
      ∙ sum-over-same _ (energy_of shapes direction) cell-once each

-- the counts of one meter, by whether it is idle
idle-counts : (x : Source) → is_idle x ≡ true → 0 ≡ not_idle (count_for x)
unfolding is_idle count_for
idle-counts Actual h = absurd (true≢false (sym h))
idle-counts Estimated h = absurd (true≢false (sym h))
idle-counts Defaulted h = absurd (true≢false (sym h))
idle-counts Idle h = refl

used-counts : (x : Source) → is_idle x ≡ false → 1 ≡ not_idle (count_for x)
unfolding is_idle count_for
used-counts Actual h = refl
used-counts Estimated h = refl
used-counts Defaulted h = refl
used-counts Idle h = absurd (true≢false h)

-- a meter that is not idle has one of two statuses, and counts once
counted-one : (registration reading : ℕ) → one_of energised registration reading + one_of de_energised registration reading ≡ not_idle (count_for (source_of registration reading))
unfolding one_of
counted-one registration reading =
    by-test (is_idle (source_of registration reading))
    (λ idle. rw idle (idle-counts (source_of registration reading) idle))
    (λ used. rw (used, used-status registration reading used) (either (eqb (status_of registration) energised) ∙ used-counts (source_of registration reading) used))
  where
    either : (on : Bool) → cond on 1 0 + cond (not on) 1 0 ≡ 1
    either true = refl
    either false = refl

module _ (meters : List Row) where
  abbrev ones : ℕ → ℕ → ℕ
  ones registration reading = one_of energised registration reading + one_of de_energised registration reading

  abbrev numbers : ℕ → ℕ → ℕ → ℕ
  numbers direction network tariff = sum_where (is_charged direction network tariff) (one_of energised) meters + sum_where (is_charged direction network tariff) (one_of de_energised) meters

  -- the two numbers of meters, over all tariffs, networks and both directions
  meters-over-all : sum_below (direction_most + 1) (λ direction. sum_below networks (λ network. sum_below tariffs (λ tariff. pos (numbers direction network tariff)))) ≡ pos (not_idle (counts_of meters))
  meters-over-all =
      sum-below-same (direction_most + 1) _ _
      (λ direction k.
      sum-below-same networks _ _ (λ network h. sum-below-same tariffs _ _ (λ tariff l. ap pos (sum-where-plus (is_charged direction network tariff) (one_of energised) (one_of de_energised) meters)))
      ∙ over-all direction ones meters)
      ∙ sum-below-over (direction_most + 1) (λ direction registration reading. cond (eqb (direction_of registration) direction) (pos (ones registration reading)) (pos 0)) meters
      ∙ ap (λ (g : ℕ → ℕ → ℤ). sum_over g meters) (fun_ext (λ registration. fun_ext (λ reading. sum-below-only (direction_most + 1) (direction_of registration) (pos (ones registration reading)) (omega arith) ∙ ap pos (counted-one registration reading))))
      ∙ counted-all meters

-- as theorems about every well-formed book
module _ (b : Book) (formed : well_formed b ≡ true) where
  bounds : Each (RowBounds b.settings.shapes) (used_rows b)
  bounds =
      let book = formed-book b formed in
      rows-bounds b.settings.shapes (formed-settings b.settings book.settings-formed).shapes-formed 0 (used_rows b) book.rows-formed

  -- two words of a tariff together
  words_are : (direction network tariff j k : ℕ) → tariff < tariffs → j < 4 → k < 4 → word_for b direction network tariff j + word_for b direction network tariff k
      ≡ sum_where (is_charged direction network tariff) (word_gives b.settings.shapes j) (used_rows b) + sum_where (is_charged direction network tariff) (word_gives b.settings.shapes k) (used_rows b)
  words_are direction network tariff j k h l m =
      ap₂ (λ (x y : ℕ). x + y)
      (total-sum b.settings.shapes (used_rows b) direction network tariff j h l)
      (total-sum b.settings.shapes (used_rows b) direction network tariff k h m)

  pub totals-add-up : TotalsAddUp b
  unfolding wh_over_all cells_over_all meters_over_all
  totals-add-up =
      record {
        wh =
            λ direction.
            sum-below-same networks _ _ (λ network h. sum-below-same tariffs _ _ (λ tariff l. ap pos (words_are direction network tariff 0 1 l (omega arith) (omega arith))))
            ∙ wh-over-all b.settings.shapes direction (used_rows b)
            ∙ sym (cells-over-all b.settings.shapes direction bounds);
        meters =
            sum-below-same (direction_most + 1) _ _ (λ direction k. sum-below-same networks _ _ (λ network h. sum-below-same tariffs _ _ (λ tariff l. ap pos (words_are direction network tariff 2 3 l (omega arith) (omega arith)))))
            ∙ meters-over-all (used_rows b);
      }
