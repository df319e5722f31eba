-- The two parts while they are merged in place, from the back: each turn puts the last row that is left in its place.
use Prim.Native.Nat.{ℕ, zero, suc, ◌+◌, ◌*◌, ◌-◌, ◌≤◌, ◌<◌}
use mathlib.Core.Path.{◌≡◌, refl, sym, ◌∙◌, ap}
use mathlib.Core.Bool.{Bool, true, false, and-eq-true_iff, true≢false}
use mathlib.Core.List.{List, [], ◌∷◌, ◌++◌, append-nil}
use native.Mathlib.Nat.{add-zero, not-suc-le-zero}
use native.Mathlib.Omega.{arith}
use borrow.Author.Tests.{ltb-true, ltb-false, lt-ltb}
use lib.Dec.{ltb}
use lib.ListN.{length, take, drop, length-append, take-append-drop}
use lib.Seq.{append_snoc, drop-drop, get_or-drop}
use Rattle.book.specs.Rows.{Row, rows_of, rows_formed, words_of, written}
use Rattle.book.proofs.RowsOf.{length-rows, take-rows, words-of-rows}
use Rattle.book.proofs.Written.{written-append}
use Rattle.book.proofs.WellFormed.{room}
use Rattle.two_parts.specs.TwoParts.{merged, later_rows, as_one, PartsReady}
use Rattle.two_parts.specs.Merge.{row_of, row_put, last_is_first, LastPlaced}
use Rattle.two_parts.proofs.AsOne.{as-one-count}
use Rattle.two_parts.proofs.MergedBack.{Below, none, below_more, below_end, last-of-first, last-of-later}
use Rattle.two_parts.proofs.RowPut.{rows_last, row_kept, row-known, below_row, length-put, rows-before-put, words-from-put}

-- what the test says of the first part's last row
module _ (left at : ℕ) (held words : List ℕ) where
  -- it is the last of all only where there is one, and it is above the last row held
  pub some_left : last_is_first left at held words ≡ true → 1 ≤ left
  unfolding last_is_first
  some_left t = ltb-true 0 left ((and-eq-true_iff (ltb 0 left) (ltb (row_of (at - left) held).mpan (row_of (left - 1) words).mpan)).0 t).0

  first-above-held : last_is_first left at held words ≡ true → (row_of (at - left) held).mpan < (row_of (left - 1) words).mpan
  unfolding last_is_first
  first-above-held t =
      ltb-true (row_of (at - left) held).mpan (row_of (left - 1) words).mpan ((and-eq-true_iff (ltb 0 left) (ltb (row_of (at - left) held).mpan (row_of (left - 1) words).mpan)).0 t).1

  -- else it is not above it
  first-within-held : 1 ≤ left → last_is_first left at held words ≡ false → (row_of (left - 1) words).mpan ≤ (row_of (at - left) held).mpan
  unfolding last_is_first
  first-within-held h t =
      ltb-false (row_of (at - left) held).mpan (row_of (left - 1) words).mpan (rw (lt-ltb 0 left h) at t)

module _ (first later : ℕ) (before held : List ℕ) where
  -- Of the first part `left` rows are left, where they stood, and of those held `at - left`. The rows done are above them all, and stand from row `at` on.
  pub record Merging (left at : ℕ) (words : List ℕ) : Type 0 where
    pub done : List Row
    pub within_first : left ≤ first
    pub within-at : left ≤ at
    pub within_held : at ≤ left + later
    pub same_length : length words ≡ length before
    pub front : rows_of left words ≡ rows_of left before
    pub back : drop (3 * at) words ≡ words_of done ++ drop (3 * (first + later)) before
    pub rest : merged (rows_of first before) (rows_of later held) ≡ merged (rows_of left before) (rows_of (at - left) held) ++ done

  pub merging-starts : Merging first (first + later) before
  unfolding words_of
  merging-starts =
      let e : first + later - first ≡ later = omega arith in
      record {
        done = [];
        within_first = omega arith;
        within-at = omega arith;
        within_held = omega arith;
        same_length = refl;
        front = refl;
        back = refl;
        rest = rw e (sym (append-nil (merged (rows_of first before) (rows_of later held))));
      }

  module _ (ready : PartsReady first later before) (copy : rows_of later held ≡ later_rows first later before) where
    held-formed : rows_formed 0 (rows_of later held) ≡ true
    held-formed = rw copy ready.rows.later-formed

    has_room : (left at : ℕ) (words : List ℕ) → Merging left at words → 3 * at ≤ length words
    has_room left at words m = omega (arith, m.within_first, m.within_held, m.same_length, room before (first + later) ready.within-capacity)

    -- the first part's last row is put in its place
    first-put : (left at : ℕ) (words : List ℕ) → Merging (suc left) (suc at) words → suc left ≤ at → (row_of (at - suc left) held).mpan < (row_of left words).mpan → Merging left at (row_put at (row_of left words) words)
    unfolding words_of
    first-put left at words m l t =
        let a = row_of left words in
        let j = at - suc left in
        let new : at - left ≡ suc j = omega arith in
        let old : suc at - suc left ≡ suc j = omega arith in
        let fits = has_room (suc left) (suc at) words m in
        let within = m.within_held in
        let kept = row_kept (suc left) left (omega arith) words before m.front in
        let all : Below a.mpan (rows_of (suc j) held) = rw (rows_last j held) (below_end (rows_of j held) (row_of j held) (below_more (omega arith) (below_row later j (omega arith) held held-formed)) t) in
        record {
          done = a ∷ m.done;
          within_first = omega (arith, m.within_first);
          within-at = omega arith;
          within_held = omega arith;
          same_length = length-put at a words (omega arith) ∙ m.same_length;
          front = rows-before-put at a words left (omega arith) ∙ sym (take-rows left (suc left) words (omega arith)) ∙ ap (take left) m.front ∙ take-rows left (suc left) before (omega arith);
          back = words-from-put at a words ∙ ap (λ (l : List ℕ). a.mpan ∷ a.registration ∷ a.reading ∷ l) m.back;
          rest = m.rest ∙ rw (old, new, rows_last left before, ← kept, last-of-first (rows_of left before) (rows_of (suc j) held) a all) (append_snoc (merged (rows_of left before) (rows_of (suc j) held)) a m.done);
        }

    -- the last row held is put in its place
    held-put : (left at : ℕ) (words : List ℕ) → Merging left (suc at) words → left ≤ at → Below (row_of (at - left) held).mpan (rows_of left before) → Merging left at (row_put at (row_of (at - left) held) words)
    unfolding words_of
    held-put left at words m l all =
        let j = at - left in
        let b = row_of j held in
        let old : suc at - left ≡ suc j = omega arith in
        let fits = has_room left (suc at) words m in
        let within = m.within_held in
        record {
          done = b ∷ m.done;
          within_first = m.within_first;
          within-at = l;
          within_held = omega arith;
          same_length = length-put at b words (omega arith) ∙ m.same_length;
          front = rows-before-put at b words left l ∙ m.front;
          back = words-from-put at b words ∙ ap (λ (l : List ℕ). b.mpan ∷ b.registration ∷ b.reading ∷ l) m.back;
          rest = m.rest ∙ rw (old, rows_last j held, last-of-later (rows_of left before) (rows_of j held) b all (below_row later j (omega arith) held held-formed)) (append_snoc (merged (rows_of left before) (rows_of j held)) b m.done);
        }

    none_left : (m : ℕ) → Below m (rows_of 0 before)
    unfolding rows_of
    none_left m = none

    -- where it is the last, all rows left of the first part are below it, since no meter stands in both parts
    first_below : (left at : ℕ) (words : List ℕ) → Merging left (suc at) words → left ≤ at → last_is_first left at held words ≡ false → Below (row_of (at - left) held).mpan (rows_of left before)
    first_below zero at words m l t = none_left (row_of (at - 0) held).mpan
    first_below (suc left) at words m l t =
        let a = row_of left before in
        let j = at - suc left in
        let b = row_of j held in
        let e : suc left - 1 ≡ left = omega arith in
        let in-first = m.within_first in
        let in_held : j < later = omega (arith, m.within_held) in
        let kept = ap (λ (r : Row). r.mpan) (row_kept (suc left) left (omega arith) words before m.front) in
        let within : a.mpan ≤ b.mpan = rw (e, kept) at (first-within-held (suc left) at held words (omega arith) t) in
        let other : a.mpan ≡ b.mpan → ⊥ = λ q. true≢false (sym (rw q at (row-known first left in-first before)) ∙ ready.rows.apart b.mpan (rw copy at (row-known later j in_held held))) in
        let under : a.mpan < b.mpan = omega (arith, other) in
        rw (rows_last left before) (below_end (rows_of left before) a (below_more (omega arith) (below_row first left in-first before ready.rows.first-formed)) under)

    -- a turn, as the test says
    first-turn : (left at : ℕ) (words : List ℕ) → Merging left (suc at) words → left ≤ at → last_is_first left at held words ≡ true → Merging (left - 1) at (row_put at (row_of (left - 1) words) words)
    first-turn zero at words m l t = absurd (not-suc-le-zero (some_left 0 at held words t))
    first-turn (suc left) at words m l t =
        let e : suc left - 1 ≡ left = omega arith in
        rw e (first-put left at words m l (rw e at (first-above-held (suc left) at held words t)))

    turned : {left' : ℕ} {words' : List ℕ} (left at : ℕ) (words : List ℕ) → Merging left (suc at) words → left ≤ at → LastPlaced left at held words left' words' → Merging left' at words'
    turned {left'} {words'} left at words m l p = by-test (last_is_first left at held words) refl
      where
        by-test : (t : Bool) → last_is_first left at held words ≡ t → Merging left' at words'
        by-test true t = rw (rw t at p.left_after, rw t at p.placed) (first-turn left at words m l t)
        by-test false t = rw (rw t at p.left_after, rw t at p.placed) (held-put left at words m l (first_below left at words m l t))

    pub one_placed : {left at left' : ℕ} {words words' : List ℕ} → Merging left at words → left < at → LastPlaced left (at - 1) held words left' words' → Merging left' (at - 1) words'
    one_placed {left} {at} {words = words} m l p =
        let e : at ≡ suc (at - 1) = omega arith in
        turned left (at - 1) words (rw e at m) (omega arith) p

    -- none held is left
    pub all_placed : {left at : ℕ} {words : List ℕ} → Merging left at words → at ≤ left → words ≡ as_one first later before
    unfolding as_one merged rows_of written
    all_placed {left} {at} {words} m h =
        let e : at ≡ left = omega (arith, m.within-at) in
        let none-held : at - left ≡ 0 = omega arith in
        let rows : merged (rows_of first before) (later_rows first later before) ≡ rows_of left before ++ m.done = rw (copy, none-held) at m.rest in
        let count : first + later ≡ left + length m.done = sym (as-one-count first later before) ∙ ap length rows ∙ rw (length-append, length-rows) in
        let after : 3 * left + 3 * length m.done ≡ 3 * (first + later) = omega arith in
        let start : take (3 * left) words ≡ words_of (rows_of left before) = sym (words-of-rows left words (rw e at (has_room left at words m))) ∙ ap words_of m.front in
        rw (rows, written-append (rows_of left before) m.done before, length-rows, drop-drop, after)
        (sym (take-append-drop (3 * left) words) ∙ rw (start, rw e at m.back))

-- for the search for a proof
pub ruleset last = (get_or-drop, add-zero)

pub ruleset merging = (merging-starts, one_placed)
