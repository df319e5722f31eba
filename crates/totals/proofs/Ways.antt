-- The ways of a totals call, one for each cause and one for acceptance, and what its steps need.
use Prim.Native.Nat.{ℕ, zero, suc, ◌≤◌, ◌<◌}
use mathlib.Core.Path.{◌≡◌, refl, sym, ◌∙◌, ap}
use mathlib.Core.Bool.{Bool, true, false, not, ◌&&◌}
use mathlib.Core.List.{List, ◌++◌}
use native.Mathlib.Omega.{arith}
use borrow.Author.Tests.{le-ltb, ltb-false, not-false}
use lib.Dec.{leb, ltb}
use lib.ListN.{length, get_or, drop, replicate, length-append, length-replicate, get_or-replicate, get_or-append}
use lib.Seq.{drop_at}
use Rattle.refusals.specs.Causes.{refuse, argument_out_of_range, totals_short, accepted}
use Rattle.std.specs.Prelude.{Ok, Err}
use Rattle.refusals.specs.declared.Refusal.{Refusal}
use Rattle.refusals.specs.declared.Refusal.TheVariants.{BookIllFormed, ShapeOfDefaultMissing}
use Rattle.refusals.specs.Refusal.{number_of}
use Rattle.refusals.proofs.Passed.{passed}
use Rattle.refusals.proofs.Numbers.{not-accepted}
use Rattle.words.specs.Limits.{direction_most, network_most}
use Rattle.book.specs.declared.Settings.{Settings}
use Rattle.book.specs.Rows.{Row, capacity, rows_of}
use Rattle.book.specs.Book.{used_rows, well_formed, lent}
use Rattle.book.specs.Helpers.{answer_of}
use Rattle.book.proofs.RowsOf.{length-rows}
use Rattle.book.proofs.WellFormed.{formed-book, formed-settings}
use Rattle.cells.specs.Energy.{any_lacks_shape}
use Rattle.totals.specs.Totals.{totals_words, totals_of, arguments_cause, totals_cause, totals_outcome, totals_call, TotalsGives}
use Rattle.totals.specs.Helpers.{AddRowsArguments}

-- the meters of a book
abbrev pub meters_in : Settings → List ℕ → List Row
meters_in s words = rows_of s.meters words

-- a slice whose first n words have been filled with 0
module _ (n : ℕ) {xs : List ℕ} (ys : List ℕ) (filled : xs ≡ replicate n 0 ++ ys) where
  filled_zero : (k : ℕ) → k < n → get_or xs k 0 ≡ 0
  filled_zero k h = rw (filled, get_or-append (replicate n 0) ys 0 k (rw length-replicate h)) (get_or-replicate n k 0 0 h)

  filled-long : n ≤ length xs
  filled-long = rw (filled, length-append, length-replicate) (omega arith)

  filled-rest : drop n xs ≡ ys
  filled-rest = rw filled (drop_at (replicate n 0) ys n (length-replicate n 0))

-- what adding the rows of a well-formed book needs
pub add-rows-arguments : (s : Settings) (words : List ℕ) → well_formed (lent s words) ≡ true → (slice : List ℕ) {filled : List ℕ} → filled ≡ replicate totals_words 0 ++ drop totals_words slice → AddRowsArguments filled (meters_in s words) s.shapes
unfolding used_rows capacity
add-rows-arguments s words wf slice e =
    let book = formed-book (lent s words) wf in
    record {
      few = omega (arith, book.within, length-rows s.meters words);
      rows-formed = book.rows-formed;
      shapes-formed = (formed-settings s book.settings-formed).shapes-formed;
      totals-long = filled-long totals_words (drop totals_words slice) e;
      totals-empty = filled_zero totals_words (drop totals_words slice) e;
    }

-- where neither cause 2 nor cause 12 is given, the causes after them are
module _ (direction network : ℕ) (slice : List ℕ) (e : accepted ≡ arguments_cause direction network (length slice) accepted) where
  both-passed : ((leb direction direction_most && leb network network_most) ≡ true) × (totals_words ≤ length slice)
  both-passed =
      let first = passed (not (leb direction direction_most && leb network network_most)) 1 (refuse (ltb (length slice) totals_words) totals_short accepted) (sym e) in
      let second = passed (ltb (length slice) totals_words) 11 accepted first.1 in
      (not-false _ first.0, ltb-false (length slice) totals_words second.0)

  causes_after : (rest : ℕ) → arguments_cause direction network (length slice) rest ≡ rest
  causes_after rest = rw (both-passed.0, le-ltb (length slice) totals_words both-passed.1)

-- the ways
module _ (s : Settings) (words : List ℕ) (direction network : ℕ) (slice : List ℕ) where
  -- a refusal leaves all as it was
  left : (cause : ℕ) → (cause ≡ accepted → ⊥) → totals_outcome cause (lent s words) direction network slice ≡ record { number = cause; book = lent s words; totals = slice }
  unfolding totals_outcome
  left zero some = absurd (some refl)
  left (suc k) some = refl

  refused : (r : Refusal) → totals_cause (lent s words) direction network slice ≡ number_of r → TotalsGives (totals_call (lent s words) direction network slice) (answer_of s (Err r)) words slice
  unfolding totals_call
  refused r h = rw (h, left (number_of r) (not-accepted r)) (record { number = refl; settings = refl; rows = refl; totals = refl })

  pub way-ill-formed : well_formed (lent s words) ≡ false → TotalsGives (totals_call (lent s words) direction network slice) (answer_of s (Err BookIllFormed)) words slice
  unfolding totals_cause
  way-ill-formed h = refused BookIllFormed (rw h)

  module _ (wf : well_formed (lent s words) ≡ true) where
    -- causes 2 and 12
    pub way-refused : (r : Refusal) → number_of r ≡ arguments_cause direction network (length slice) accepted
        → TotalsGives (totals_call (lent s words) direction network slice) (answer_of s (Err r)) words slice
    unfolding totals_cause
    way-refused r e = refused r (rw wf (kept (not (leb direction direction_most && leb network network_most)) (ltb (length slice) totals_words) _ (sym e)))
      where
        -- one of the two applies, so that no cause after them is given
        kept : (out short : Bool) (rest : ℕ) → refuse out argument_out_of_range (refuse short totals_short accepted) ≡ number_of r
            → refuse out argument_out_of_range (refuse short totals_short rest) ≡ number_of r
        kept true short rest h = h
        kept false true rest h = h
        kept false false rest h = absurd (not-accepted r (sym h))

    module _ (passed : accepted ≡ arguments_cause direction network (length slice) accepted) where
      pub way-lacks : any_lacks_shape s.shapes (meters_in s words) ≡ true
          → TotalsGives (totals_call (lent s words) direction network slice) (answer_of s (Err ShapeOfDefaultMissing)) words slice
      unfolding totals_cause used_rows
      way-lacks h = refused ShapeOfDefaultMissing (rw (wf, causes_after direction network slice passed, h))

      module _ (shaped : any_lacks_shape s.shapes (meters_in s words) ≡ false) where
        no-cause : totals_cause (lent s words) direction network slice ≡ accepted
        unfolding totals_cause used_rows
        no-cause = rw (wf, causes_after direction network slice passed, shaped)

        -- the first words filled with 0, and the rows added to them
        pub way-written : {filled after : List ℕ} → filled ≡ replicate totals_words 0 ++ drop totals_words slice
            → after ≡ totals_of s.shapes (meters_in s words) direction network ++ drop totals_words filled
            → TotalsGives (totals_call (lent s words) direction network slice) (answer_of s (Ok s)) words after
        unfolding totals_call totals_outcome used_rows
        way-written e added =
            rw no-cause
            (record {
              number = refl;
              settings = refl;
              rows = refl;
              totals = added ∙ ap (λ (xs : List ℕ). totals_of s.shapes (meters_in s words) direction network ++ xs) (filled-rest totals_words (drop totals_words slice) e);
            })
