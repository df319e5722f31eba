-- The slice while rows are added to it: the totals of the meters so far, and the words past them.
use Prim.Native.Nat.{ℕ, ◌+◌, ◌*◌, ◌≤◌, ◌<◌}
use mathlib.Core.Path.{◌≡◌, sym, ◌∙◌, ap}
use mathlib.Core.Bool.{Bool, true, false, ◌&&◌}
use mathlib.Core.List.{List, [], ◌++◌, map}
use native.Mathlib.Omega.{arith}
use lib.Dec.{eqb}
use lib.ListN.{length, get_or, take, drop, length-append, length-drop, length-map, take-append-drop, get_or-append}
use lib.Seq.{length-take-le, get_or-take}
use Rattle.std.proofs.lemmas.List.{take_all}
use Rattle.words.specs.Registration.{direction_of, network_of}
use Rattle.book.specs.Rows.{Row, first_row}
use Rattle.cells.specs.Helpers.{use_of}
use Rattle.cells.proofs.Each.{no-entry}
use Rattle.cells.proofs.Turns.{this_row, rows_next, before-bounds, this-bounds}
use Rattle.cells.proofs.Uses.{use-wh}
use Rattle.totals.specs.Totals.{tariffs, totals_words, totals_of}
use Rattle.totals.specs.Helpers.{with_meter, AddArguments, AddRowsArguments}
use Rattle.totals.proofs.TotalAt.{totals-length, totals-are, total-most}
use Rattle.totals.proofs.OneMore.{totals-kept, totals-more, with-meter-append}

module _ (shapes start : List ℕ) (direction network : ℕ) where
  -- the slice after some meters
  abbrev pub after : List Row → List ℕ
  after meters = totals_of shapes meters direction network ++ drop totals_words start

  module _ (rows : List (List ℕ)) (i : ℕ) where
    abbrev this : Row
    this = this_row rows i

    abbrev before : List Row
    before = map first_row (take i rows)

    abbrev is_asked : Bool
    is_asked = eqb (direction_of this.registration) direction && eqb (network_of this.registration) network

    pub row-passed : i < length rows → is_asked ≡ false → after (map first_row (take (i + 1) rows)) ≡ after before
    row-passed h other = rw (rows_next rows i h) (sym (ap (λ (xs : List ℕ). xs ++ drop totals_words start) (totals-kept shapes before this direction network other)))

    pub row-added : i < length rows → is_asked ≡ true → with_meter (after before) this.registration (use_of shapes this.registration this.reading) ≡ after (map first_row (take (i + 1) rows))
    row-added h same =
        rw (rows_next rows i h)
        (with-meter-append (totals_of shapes before direction network) (drop totals_words start) this.registration (use_of shapes this.registration this.reading) (totals-length shapes before direction network 0 tariffs)
        ∙ ap (λ (xs : List ℕ). xs ++ drop totals_words start) (totals-more shapes before this direction network same))

    pub rows-added : length rows ≤ i → after before ≡ after (map first_row rows)
    rows-added h = rw (take_all i rows h)

    module _ (ok : AddRowsArguments start (map first_row rows) shapes) where
      -- before the first turn
      pub none-added : start ≡ after []
      none-added =
          sym (take-append-drop totals_words start)
          ∙ ap (λ (xs : List ℕ). xs ++ drop totals_words start)
          (totals-are shapes [] direction network (take totals_words start) (length-take-le totals_words start ok.totals-long)
          (λ t k h l.
          let p : 4 * t + k < totals_words = omega arith in
          omega (arith, get_or-take totals_words start (4 * t + k) 0 p, ok.totals-empty (4 * t + k) p, total-most shapes direction network no-entry (4 * t + k) p)))

      word-bound : (k : ℕ) → k < totals_words → i < length rows → get_or (after before) k 0 ≤ 655360000000
      word-bound k l h =
          let inside : k < length (totals_of shapes before direction network) = omega (arith, totals-length shapes before direction network 0 tariffs) in
          rw (get_or-append (totals_of shapes before direction network) (drop totals_words start) 0 k inside)
          (omega (
            arith,
            ok.few,
            length-map rows first_row,
            length-map (take i rows) first_row ∙ length-take-le i rows (omega arith),
            total-most shapes direction network (before-bounds rows i shapes ok.shapes-formed ok.rows-formed) k l,
          ))

      same_size : length (after before) ≡ length start
      same_size = rw (length-append, totals-length shapes before direction network 0 tariffs, length-drop) (omega (arith, ok.totals-long))

      pub row-asks : i < length rows → AddArguments (after before) (use_of shapes this.registration this.reading)
      row-asks h =
          record {
            long = omega (arith, same_size, ok.totals-long);
            wh-bound = rw (use-wh shapes this.registration this.reading) (this-bounds rows i shapes ok.shapes-formed ok.rows-formed h).energy;
            words-bound = λ k l. word-bound k l h;
          }

-- for the check to cite
pub ruleset each_row = (rows-added)
