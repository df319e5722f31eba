-- Cause 9: in running cells that are a sum over the rows a number waits whose shape is missing exactly if a defaulted meter's shape is missing.
use Prim.Native.Nat.{ℕ, zero, suc, ◌+◌, ◌-◌, ◌≤◌, ◌<◌}
use mathlib.Core.Path.{◌≡◌, refl, sym, ap, ap₂, ◌∙◌}
use mathlib.Core.Bool.{Bool, true, false, ◌&&◌, ◌||◌, cond, and-false, and-true, or-false}
use mathlib.Core.List.{List, [], ◌∷◌, ◌++◌}
use native.Mathlib.Omega.{arith}
use borrow.Author.Tests.{eqb-true, eqb-false, ne_eqb, lt-ltb}
use lib.Dec.{eqb, ltb}
use lib.IntN.{ℤ, pos, ◌+ℤ◌}
use lib.ListN.{length, get_or, drop, length-append, length-drop}
use lib.Seq.{get_or-drop}
use lib.Signed.{lt_z}
use Rattle.integers.specs.Sum.{sum}
use Rattle.words.specs.Registration.{category_of}
use Rattle.words.proofs.Tests.{by-test}
use Rattle.book.specs.Limits.{categories, shape_missing}
use Rattle.book.specs.Rows.{Row}
use Rattle.cells.specs.declared.Source.{Source}
use Rattle.cells.specs.declared.Source.TheVariants.{Actual, Estimated, Defaulted, Idle}
use Rattle.cells.specs.Energy.{source_number, source_of, lacks_shape_from, lacks_shape, any_lacks_shape}
use Rattle.cells.specs.Cells.{sum_over}
use Rattle.running.specs.Words.{waiting_words, count_in, waiting_in}
use Rattle.running.specs.Running.{cells_for}
use Rattle.running.proofs.SumIn.{waiting-word}
use Rattle.running.proofs.CellsFor.{cells-for-length, word_at}
use Rattle.allocation.specs.Running.{any_waits, slice_lacks}

-- whether a shape is missing at whose place, counted from k on, the number is above 0
unfoldable missing_at : (ℕ → ℕ) → ℕ → List ℕ → Bool
missing_at f k [] = false
missing_at f k (shape ∷ shapes) = (eqb shape shape_missing && ltb 0 (f k)) || missing_at f (suc k) shapes

waits-by : (f : ℕ → ℕ) (k : ℕ) (shapes : List ℕ) (numbers : List ℤ) → length shapes ≤ length numbers
    → ((i : ℕ) → i < length shapes → get_or numbers i (pos 0) ≡ pos (f (k + i))) → any_waits shapes numbers ≡ missing_at f k shapes
unfolding any_waits missing_at
waits-by f k [] numbers l same = refl
waits-by f k (shape ∷ shapes) [] l same = absurd (omega arith)
waits-by f k (shape ∷ shapes) (x ∷ numbers) l same =
    let here : k + 0 ≡ k = omega arith in
    let first : x ≡ pos (f k) = same 0 (omega arith) ∙ ap (λ (j : ℕ). pos (f j)) here in
    let rest : (i : ℕ) → i < length shapes → get_or numbers i (pos 0) ≡ pos (f (suc k + i)) =
    λ i h. let e : k + suc i ≡ suc k + i = omega arith in same (suc i) (omega arith) ∙ ap (λ (j : ℕ). pos (f j)) e in
    ap₂ (λ (y : ℤ) (b : Bool). (eqb shape shape_missing && lt_z (pos 0) y) || b) first (waits-by f (suc k) shapes numbers (omega arith) rest)

-- numbers added up are above 0 where one of them is
above-either : (a b : ℕ) → ltb 0 (a + b) ≡ ltb 0 a || ltb 0 b
above-either zero b = let e : 0 + b ≡ b = omega arith in ap (ltb 0) e
above-either (suc a) b = rw (lt-ltb 0 (suc a + b) (omega arith), lt-ltb 0 (suc a) (omega arith))

either-missing : (m a b x y : Bool) → (m && (a || b)) || (x || y) ≡ ((m && a) || x) || ((m && b) || y)
either-missing true true b x y = refl
either-missing true false true true y = refl
either-missing true false true false true = refl
either-missing true false true false false = refl
either-missing true false false x y = refl
either-missing false a b x y = refl

missing-plus : (f g : ℕ → ℕ) (k : ℕ) (shapes : List ℕ) → missing_at (λ j. f j + g j) k shapes ≡ missing_at f k shapes || missing_at g k shapes
unfolding missing_at
missing-plus f g k [] = refl
missing-plus f g k (shape ∷ shapes) =
    ap₂ (λ (a b : Bool). (eqb shape shape_missing && a) || b) (above-either (f k) (g k)) (missing-plus f g (suc k) shapes)
    ∙ either-missing (eqb shape shape_missing) (ltb 0 (f k)) (ltb 0 (g k)) (missing_at f (suc k) shapes) (missing_at g (suc k) shapes)

none-missing : (k : ℕ) (shapes : List ℕ) → missing_at (λ j. 0) k shapes ≡ false
unfolding missing_at
none-missing k [] = refl
none-missing k (shape ∷ shapes) = ap₂ ◌||◌ (and-false (eqb shape shape_missing)) (none-missing (suc k) shapes)

-- one number
abbrev only_at : ℕ → ℕ → ℕ → ℕ
only_at c x j = cond (eqb c j) x 0

past-missing : (c x k : ℕ) (shapes : List ℕ) → c < k → missing_at (only_at c x) k shapes ≡ false
unfolding missing_at
past-missing c x k [] h = refl
past-missing c x k (shape ∷ shapes) h = rw (ne_eqb c k (λ e. omega arith)) (ap₂ ◌||◌ (and-false (eqb shape shape_missing)) (past-missing c x (suc k) shapes (omega arith)))

one-missing : (c x k : ℕ) (shapes : List ℕ) → k ≤ c → c < k + length shapes → missing_at (only_at c x) k shapes ≡ eqb (get_or shapes (c - k) shape_missing) shape_missing && ltb 0 x
unfolding missing_at
one-missing c x k [] h l = absurd (omega arith)
one-missing c x k (shape ∷ shapes) h l =
    by-test (eqb c k)
    (λ e.
    let here : c - k ≡ 0 = omega (arith, eqb-true c k e) in
    rw (e, here) (ap (λ (b : Bool). (eqb shape shape_missing && ltb 0 x) || b) (past-missing c x (suc k) shapes (omega (arith, eqb-true c k e))) ∙ or-false _))
    (λ e.
    let after : c - k ≡ suc (c - suc k) = omega (arith, eqb-false c k e) in
    rw (e, after) (ap₂ ◌||◌ (and-false (eqb shape shape_missing)) (one-missing c x (suc k) shapes (omega (arith, eqb-false c k e)) (omega arith))))

-- how many of some meters wait in a category
abbrev one : ℕ → ℕ → ℕ → ℕ
one category registration reading = only_at (category_of registration) (cond (eqb (source_number (source_of registration reading)) 2) 1 0) category

unfoldable waiting : ℕ → List Row → ℕ
waiting category [] = 0
waiting category (r ∷ rows) = one category r.registration r.reading + waiting category rows

waiting-sum : (category : ℕ) (rows : List Row) → sum_over (waiting_in category) rows ≡ pos (waiting category rows)
unfolding sum_over sum waiting_in count_in waiting
waiting-sum category [] = refl
waiting-sum category (r ∷ rows) =
    ap₂ ◌+ℤ◌ (by (eqb (category_of r.registration) category) (eqb (source_number (source_of r.registration r.reading)) 2)) (waiting-sum category rows)
  where
    by : (s t : Bool) → cond s (cond t (pos 1) (pos 0)) (pos 0) ≡ pos (cond s (cond t 1 0) 0)
    by true true = refl
    by true false = refl
    by false t = refl

module _ (shapes : List ℕ) (long : length shapes ≡ categories) where
  abbrev missing : ℕ → Bool
  missing category = eqb (get_or shapes category shape_missing) shape_missing

  -- one meter
  one-lacks : (registration reading : ℕ) → missing_at (λ category. one category registration reading) 0 shapes ≡ lacks_shape shapes registration reading
  unfolding lacks_shape_from
  one-lacks registration reading =
      one-missing (category_of registration) _ 0 shapes (omega arith) (omega arith) ∙ by (source_of registration reading)
    where
      by : (x : Source) → missing (category_of registration - 0) && ltb 0 (cond (eqb (source_number x) 2) 1 0) ≡ lacks_shape_from shapes registration x
      by Actual = and-false (missing (category_of registration - 0))
      by Estimated = and-false (missing (category_of registration - 0))
      by Defaulted = let e : category_of registration - 0 ≡ category_of registration = omega arith in and-true (missing (category_of registration - 0)) ∙ ap missing e
      by Idle = and-false (missing (category_of registration - 0))

  all-lack : (rows : List Row) → missing_at (λ category. waiting category rows) 0 shapes ≡ any_lacks_shape shapes rows
  unfolding waiting any_lacks_shape
  all-lack [] = none-missing 0 shapes
  all-lack (r ∷ rows) =
      missing-plus (λ category. one category r.registration r.reading) (λ category. waiting category rows) 0 shapes
      ∙ ap₂ ◌||◌ (one-lacks r.registration r.reading) (all-lack rows)

  pub lacks-same : (meters : List Row) (later : List ℤ) → slice_lacks shapes (cells_for shapes meters ++ later) ≡ any_lacks_shape shapes meters
  lacks-same meters later =
      let kept = cells_for shapes meters ++ later in
      waits-by (λ category. waiting category meters) 0 shapes (drop waiting_words kept)
      (omega (arith, length-drop waiting_words kept, length-append (cells_for shapes meters) later, cells-for-length shapes meters))
      (λ i h.
      let e : 0 + i ≡ i = omega arith in
      get_or-drop waiting_words kept i (pos 0)
      ∙ word_at shapes meters later (waiting_words + i) (omega arith)
      ∙ waiting-word shapes meters i
      ∙ waiting-sum i meters
      ∙ ap (λ (j : ℕ). pos (waiting j meters)) (sym e))
      ∙ all-lack meters
