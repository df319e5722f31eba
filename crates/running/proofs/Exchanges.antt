-- An entry added to the slice word by word, taken away, and exchanged for another: what the slice is then, and whether it passes a limit.
use Prim.Native.Nat.{ℕ, suc, ◌+◌, ◌≤◌, ◌<◌}
use mathlib.Core.Path.{◌≡◌, refl, sym, ◌∙◌, ap, ap₂, subst}
use mathlib.Core.Bool.{Bool, true, false, cond, ◌&&◌, and-eq-true_iff}
use Rattle.std.specs.Prelude.{Option, Some, None}
use Rattle.std.proofs.Math.Bool.{and-false}
use Rattle.std.proofs.lemmas.Option.{none-some, cond_some}
use mir.Syntax.{w64}
use mir.Val.{to_z, of_z}
use Rattle.running.proofs.Amounts.{read}
use mathlib.Core.List.{List}
use native.Mathlib.Omega.{arith}
use borrow.Author.Tests.{eqb-true, eqb-false, ltb-true, ltb-false, leb-true, le-leb}
use lib.Dec.{eqb, ltb, leb}
use lib.IntN.{ℤ, pos, neg_ℤ, ◌+ℤ◌, ◌-ℤ◌, +ℤ_assoc, +ℤ_idr}
use lib.ListN.{get_or, take}
use Rattle.integers.specs.Sum.{sizes}
use Rattle.integers.proofs.Linear.{linear}
use Rattle.integers.proofs.Size.{size-neg}
use Rattle.words.proofs.Tests.{by-test, same_test}
use Rattle.running.specs.declared.meters.Entry.{Entry}
use Rattle.running.specs.Words.{cell_words, waiting_words, slice_words}
use Rattle.running.specs.Running.{sizes_most, is_number, with_change, within_limits}
use Rattle.running.specs.Ready.{CellsReady}
use Rattle.running.specs.Helpers.{amount_at, entry_gives, opposite_of, entry_change, EntryFormed, Near, numbers_fit_after, cells_measured, Exchanges}
use Rattle.running.proofs.Changed.{changed-length, changed-at, changed-same, changed-twice, at-word, at_other}
use Rattle.running.proofs.WithinLimits.{Within, within-each, each_within}
use Rattle.running.proofs.Near.{near-more, near-one}
use Rattle.running.proofs.Entries.{gives-count, gives-waiting}

-- an entry of the other sign

opposite-at : (word : ℕ) (amount : ℤ) (k : ℕ) → amount_at word (neg_ℤ amount) k ≡ neg_ℤ (amount_at word amount k)
unfolding amount_at
opposite-at word amount k = by (eqb word k)
  where
    by : (t : Bool) → cond t (neg_ℤ amount) (pos 0) ≡ neg_ℤ (cond t amount (pos 0))
    by true = refl
    by false = refl

opposite-four : (a b c d x : ℤ) → neg_ℤ a +ℤ neg_ℤ b +ℤ (neg_ℤ c +ℤ neg_ℤ d) +ℤ x ≡ x -ℤ (a +ℤ b +ℤ (c +ℤ d))
opposite-four a b c d x = omega linear

pub exchange-gives : (old new : Entry) (k : ℕ) → entry_gives (opposite_of old) k +ℤ entry_gives new k ≡ entry_change old new k
unfolding entry_gives
exchange-gives old new k =
    rw (opposite-at old.at old.thousandths k, opposite-at (old.at + 1) old.loss k, opposite-at old.count old.meters k, opposite-at old.category old.waiting k)
    (opposite-four (amount_at old.at old.thousandths k) (amount_at (old.at + 1) old.loss k) (amount_at old.count old.meters k) (amount_at old.category old.waiting k) (entry_gives new k))

pub opposite-formed : {e : Entry} → EntryFormed e → EntryFormed (opposite_of e)
opposite-formed {e} ok =
    record {
      at-even = ok.at-even;
      at_bound = ok.at_bound;
      thousandths-bound = omega (arith, ok.thousandths-bound, size-neg e.thousandths);
      loss-bound = omega (arith, ok.loss-bound, size-neg e.loss);
      count-above = ok.count-above;
      count-bound = ok.count-bound;
      meters-bound = omega (arith, ok.meters-bound, size-neg e.meters);
      category-above = ok.category-above;
      category-bound = ok.category-bound;
      waiting-bound = omega (arith, ok.waiting-bound, size-neg e.waiting);
    }

-- an entry added, one word after the other
module _ (e : Entry) (cells : List ℤ) where
  abbrev pub energy_added : List ℤ
  energy_added = with_change (amount_at e.at e.thousandths) cells

  abbrev pub loss_added : List ℤ
  loss_added = with_change (amount_at (e.at + 1) e.loss) energy_added

  abbrev pub count_added : List ℤ
  count_added = with_change (amount_at e.count e.meters) loss_added

  abbrev pub waiting_added : List ℤ
  waiting_added = with_change (amount_at e.category e.waiting) count_added

  pub all-added : waiting_added ≡ with_change (entry_gives e) cells
  unfolding entry_gives
  all-added =
      let a = amount_at e.at e.thousandths in
      let b = amount_at (e.at + 1) e.loss in
      let c = amount_at e.count e.meters in
      let d = amount_at e.category e.waiting in
      changed-twice c (with_change b (with_change a cells)) d
      ∙ changed-twice b (with_change a cells) (λ k. c k +ℤ d k)
      ∙ changed-twice a cells (λ k. b k +ℤ (c k +ℤ d k))
      ∙ changed-same (λ k. a k +ℤ (b k +ℤ (c k +ℤ d k))) cells (entry_gives e) (λ k h. sym (+ℤ_assoc (a k) (b k) (c k +ℤ d k)))

  module _ (n : ℕ) (ok : EntryFormed e) (near : Near n cells) where
    pub near-energy : Near (n + 1) energy_added
    near-energy = near-more energy_added (suc n) (n + 1) (omega arith) (near-one cells n e.at e.thousandths (omega (arith, ok.at_bound)) ok.thousandths-bound near)

    pub near-loss : Near (n + 2) loss_added
    near-loss = near-more loss_added (suc (n + 1)) (n + 2) (omega arith) (near-one energy_added (n + 1) (e.at + 1) e.loss (omega (arith, ok.at_bound)) ok.loss-bound near-energy)

    pub near-count : Near (n + 3) count_added
    near-count = near-more count_added (suc (n + 2)) (n + 3) (omega arith) (near-one loss_added (n + 2) e.count e.meters (omega (arith, ok.count-bound)) ok.meters-bound near-loss)

    near-waiting : Near (n + 4) waiting_added
    near-waiting = near-more waiting_added (suc (n + 3)) (n + 4) (omega arith) (near-one count_added (n + 3) e.category e.waiting ok.category-bound ok.waiting-bound near-count)

    pub near-entry : Near (n + 4) (with_change (entry_gives e) cells)
    near-entry = subst (Near (n + 4)) all-added near-waiting

-- an amount as the code holds it
abbrev as_held : ℤ → ℤ
as_held x = to_z w64 (of_z w64 x)

-- one entry exchanged for another
module _ (old new : Entry) (cells : List ℤ) where
  pub all-exchanged : with_change (entry_gives new) (with_change (entry_gives (opposite_of old)) cells) ≡ with_change (entry_change old new) cells
  all-exchanged =
      changed-twice (entry_gives (opposite_of old)) cells (entry_gives new)
      ∙ changed-same (λ k. entry_gives (opposite_of old) k +ℤ entry_gives new k) cells (entry_change old new) (λ k h. exchange-gives old new k)

  module _ (f : EntryFormed old) (g : EntryFormed new) {most : ℕ} (ok : CellsReady cells most) where
    abbrev after : List ℤ
    after = with_change (entry_change old new) cells

    abbrev number_at : ℕ → Bool
    number_at k = is_number (get_or after k (pos 0))

    abbrev counts : Bool
    counts = number_at old.count && number_at new.count

    abbrev waiting : Bool
    waiting = number_at old.category && number_at new.category

    -- a word that an entry does not change
    none-there : (e : Entry) → EntryFormed e → (k : ℕ) → cell_words ≤ k → eqb e.count k ≡ false → eqb e.category k ≡ false → entry_gives e k ≡ pos 0
    none-there e formed k h p q =
        by-test (ltb k waiting_words)
        (λ t. gives-count e formed k h (ltb-true k waiting_words t) ∙ at_other e.meters e.count k (eqb-false e.count k p))
        (λ t. gives-waiting e formed k (omega (arith, ltb-false k waiting_words t)) ∙ at_other e.waiting e.category k (eqb-false e.category k q))

    changed : (k : ℕ) → k < slice_words → get_or after k (pos 0) ≡ get_or cells k (pos 0) +ℤ entry_change old new k
    changed k l = changed-at (entry_change old new) cells k l (omega (arith, ok.long))

    unchanged : (k : ℕ) → cell_words ≤ k → k < slice_words
        → eqb old.count k ≡ false → eqb old.category k ≡ false → eqb new.count k ≡ false → eqb new.category k ≡ false
        → get_or after k (pos 0) ≡ get_or cells k (pos 0)
    unchanged k h l p q r s = changed k l ∙ rw (none-there old f k h p q, none-there new g k h r s) (+ℤ_idr (get_or cells k (pos 0)))

    -- the tests of the words that the entries change decide of all
    each_number : (counts && waiting) ≡ true → (k : ℕ) → cell_words ≤ k → k < slice_words → number_at k ≡ true
    each_number t k h l =
        let both = (and-eq-true_iff counts waiting).0 t in
        let c = (and-eq-true_iff (number_at old.count) (number_at new.count)).0 both.0 in
        let w = (and-eq-true_iff (number_at old.category) (number_at new.category)).0 both.1 in
        by-test (eqb old.count k) (λ p. subst (λ j. number_at j ≡ true) (eqb-true old.count k p) c.0)
        (λ p.
        by-test (eqb old.category k) (λ q. subst (λ j. number_at j ≡ true) (eqb-true old.category k q) w.0)
        (λ q.
        by-test (eqb new.count k) (λ r. subst (λ j. number_at j ≡ true) (eqb-true new.count k r) c.1)
        (λ r.
        by-test (eqb new.category k) (λ s. subst (λ j. number_at j ≡ true) (eqb-true new.category k s) w.1)
        (λ s. ap is_number (unchanged k h l p q r s) ∙ (within-each cells ok.within).number k h l))))

    count-number : (e : Entry) → EntryFormed e → Within after → number_at e.count ≡ true
    count-number e formed w = w.number e.count formed.count-above (omega (arith, formed.count-bound))

    waiting-number : (e : Entry) → EntryFormed e → Within after → number_at e.category ≡ true
    waiting-number e formed w = w.number e.category (omega (arith, formed.category-above)) formed.category-bound

    abbrev size : ℕ
    size = sizes (take cell_words after)

    decided : (leb size sizes_most && (counts && waiting)) ≡ within_limits after
    decided = same_test (leb size sizes_most && (counts && waiting)) (within_limits after) to fro
      where
        to : leb size sizes_most && (counts && waiting) ≡ true → within_limits after ≡ true
        to t =
            let both = (and-eq-true_iff (leb size sizes_most) (counts && waiting)).0 t in
            each_within after (record { sizes-most = leb-true size sizes_most both.0; number = each_number both.1 })

        fro : within_limits after ≡ true → leb size sizes_most && (counts && waiting) ≡ true
        fro t =
            let w = within-each after t in
            rw (le-leb size sizes_most w.sizes-most, count-number old f w, count-number new g w, waiting-number old f w) (waiting-number new g w)

    tested-numbers : (from : ℕ) (less : ℤ) (to : ℕ) (more : ℤ) → from < slice_words → to < slice_words
        → entry_change old new from ≡ amount_at to more from -ℤ amount_at from less from
        → entry_change old new to ≡ amount_at to more to -ℤ amount_at from less to
        → numbers_fit_after cells from less to more ≡ (number_at from && number_at to)
    tested-numbers from less to more h l p q =
        ap₂ (λ (x y : ℤ). is_number x && is_number y)
        (there from h (p ∙ ap (λ (y : ℤ). amount_at to more from -ℤ y) (at-word less from from refl)))
        (there to l (q ∙ ap (λ (y : ℤ). y -ℤ amount_at from less to) (at-word more to to refl)))
      where
        there : (k : ℕ) {z : ℤ} → k < slice_words → entry_change old new k ≡ z → get_or cells k (pos 0) +ℤ z ≡ get_or after k (pos 0)
        there k m e = sym (changed k m ∙ ap (λ (y : ℤ). get_or cells k (pos 0) +ℤ y) e)

    counts-tested : numbers_fit_after cells old.count old.meters new.count new.meters ≡ counts
    counts-tested =
        tested-numbers old.count old.meters new.count new.meters (omega (arith, f.count-bound)) (omega (arith, g.count-bound))
        (change old.count f.count-above f.count-bound) (change new.count g.count-above g.count-bound)
      where
        change : (k : ℕ) → cell_words ≤ k → k < waiting_words → entry_change old new k ≡ amount_at new.count new.meters k -ℤ amount_at old.count old.meters k
        change k h l = ap₂ ◌-ℤ◌ (gives-count new g k h l) (gives-count old f k h l)

    waiting-tested : numbers_fit_after cells old.category old.waiting new.category new.waiting ≡ waiting
    waiting-tested =
        tested-numbers old.category old.waiting new.category new.waiting f.category-bound g.category-bound
        (change old.category f.category-above) (change new.category g.category-above)
      where
        change : (k : ℕ) → waiting_words ≤ k → entry_change old new k ≡ amount_at new.category new.waiting k -ℤ amount_at old.category old.waiting k
        change k h = ap₂ ◌-ℤ◌ (gives-waiting new g k h) (gives-waiting old f k h)

    -- as the code asks them
    module _ {c w : Bool} (p : c ≡ numbers_fit_after cells old.count (as_held old.meters) new.count (as_held new.meters)) (q : w ≡ numbers_fit_after cells old.category (as_held old.waiting) new.category (as_held new.waiting)) where
      limits-decided : (leb size sizes_most && (c && w)) ≡ within_limits after
      limits-decided =
          ap₂ (λ (x y : Bool). leb size sizes_most && (x && y))
          (rw (read old.meters f.meters-bound, read new.meters g.meters-bound) at p ∙ counts-tested)
          (rw (read old.waiting f.waiting-bound, read new.waiting g.waiting-bound) at q ∙ waiting-tested)
          ∙ decided

      pub numbers-passed : (c && w) ≡ false → within_limits after ≡ false
      numbers-passed e = sym limits-decided ∙ rw e (and-false (leb size sizes_most))

      pub still-ready : (c && w) ≡ true → (n : ℕ) → size ≤ n → size ≤ sizes_most → CellsReady after n
      still-ready e n h k =
          record {
            long = rw (changed-length (entry_change old new) cells) ok.long;
            within = sym limits-decided ∙ rw (e, le-leb size sizes_most k);
            size-most = h;
          }

-- what measuring the cells tells of the limits
module _ (cells : List ℤ) where
  pub sizes-passed : None ≡ cells_measured cells → within_limits cells ≡ false
  unfolding within_limits
  sizes-passed e =
      by-test (leb (sizes (take cell_words cells)) sizes_most)
      (λ t. absurd (none-some (sizes (take cell_words cells)) (rw t at e)))
      (λ t. rw t)

  pub sizes-within : {n : ℕ} → Some n ≡ cells_measured cells → (sizes (take cell_words cells) ≤ n) × (sizes (take cell_words cells) ≤ sizes_most)
  sizes-within {n} e =
      let size = sizes (take cell_words cells) in
      let m = cond_some (leb size sizes_most) size n (sym e) in
      (omega (arith, m.1), leb-true size sizes_most m.0)

-- what is kept of a change, by whether it passes a limit
module _ (change : ℕ → ℤ) (cells : List ℤ) where
  pub kept : {after : List ℤ} (most : ℕ) → after ≡ with_change change cells → CellsReady (with_change change cells) most → Exchanges change cells (Some most) after
  kept most a ready =
      record {
        fits = λ m e. let same : most ≡ m = cc in (rw same at ready, a);
        passes = λ e. absurd cc;
      }

  pub not-kept : {outcome : Option ℕ} → outcome ≡ None → within_limits (with_change change cells) ≡ false → Exchanges change cells outcome cells
  not-kept n w = record { fits = λ most e. absurd cc; passes = λ e. (w, refl) }
