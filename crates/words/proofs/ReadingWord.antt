-- Word 2: what is packed is what is unpacked, and a word is well formed exactly if it is 0 or a reading in range and allowed has it.
use Prim.Native.Nat.{ℕ, ◌/◌, ◌%◌, ◌^◌, ◌≤◌, ◌<◌}
use mathlib.Core.Path.{◌≡◌, refl}
use mathlib.Core.Bool.{true, not, ◌&&◌, ◌||◌, and-eq-true_iff}
use mathlib.Core.Logic.{◌⊎◌, inl, inr, ⊎_elim, ◌≢◌}
use native.Mathlib.Nat.{div-one, mod-eq_of_lt}
use native.Mathlib.Omega.{arith}
use lib.Dec.{leb, eqb}
use borrow.Author.Tests.{le-leb, lt-leb, leb-true, eq-eqb, ne_eqb, eqb-true, eqb-false, not-true}
use Rattle.words.specs.declared.Reading.{Reading}
use Rattle.words.specs.Limits.{consumption_most, quality_most, issue_least, issue_most}
use Rattle.words.specs.Registration.{bit_field}
use Rattle.words.specs.Reading.{consumption_of, quality_of, issue_of, no_reading, reading_of, reading_word, reading_in_range, quality_allowed, is_reading}
use Rattle.words.proofs.BitField.{join}
use Rattle.words.proofs.Tests.{by-test, either}
use Rattle.words.proofs.Ranges.{ReadingBounds, reading-bounds}

pub no-reading-well-formed : is_reading no_reading ≡ true
unfolding is_reading
no-reading-well-formed = refl

-- the fields of a word are those of a reading
pub record ReadingPacked (r : Reading) (w : ℕ) : Type 0 where
  pub issue : issue_of w ≡ r.issue
  pub quality : quality_of w ≡ r.quality
  pub consumption : consumption_of w ≡ r.consumption

module _ (r : Reading) (ok : reading_in_range r ≡ true) where
  pub reading-packed : ReadingPacked r (reading_word r)
  unfolding reading_word
  reading-packed = omega (arith, reading-bounds r ok)

  pub reading-round-trip : reading_of (reading_word r) ≡ r
  unfolding reading_of
  reading-round-trip =
      λ i. record { issue = reading-packed.issue i; quality = reading-packed.quality i; consumption = reading-packed.consumption i }

  -- the issue number is at least 1, and stands from bit 32 on
  pub reading-word-least : 2 ^ 32 ≤ reading_word r
  unfolding reading_word
  reading-word-least = omega (arith, reading-bounds r ok)

  pub reading-word-some : reading_word r ≢ no_reading
  reading-word-some = omega (arith, reading-word-least)

  reading-word-reserved : bit_field (reading_word r) 29 3 ≡ 0
  unfolding reading_word
  reading-word-reserved = omega (arith, reading-bounds r ok)

  pub reading-word-well-formed : quality_allowed r ≡ true → is_reading (reading_word r) ≡ true
  unfolding is_reading
  reading-word-well-formed allowed =
      rw (ne_eqb (reading_word r) 0 reading-word-some, reading-word-reserved, reading-round-trip, ok, allowed)

-- word 2 holds a reading that was in range and allowed
pub record StoredReading (w : ℕ) : Type 0 where
  pub reserved : bit_field w 29 3 ≡ 0
  pub in-range : reading_in_range (reading_of w) ≡ true
  pub allowed : quality_allowed (reading_of w) ≡ true

pub reading-cases : (w : ℕ) → is_reading w ≡ true → (w ≡ no_reading) ⊎ StoredReading w
unfolding is_reading
reading-cases w ok =
    ⊎_elim
    (λ none. inl (eqb-true w 0 none))
    (λ some. let k = simp and-eq-true_iff at some in inr (record { reserved = eqb-true _ 0 k.0.0; in-range = k.0.1; allowed = k.1 }))
    (either
    (eqb w no_reading)
    (eqb (bit_field w 29 3) 0 && reading_in_range (reading_of w) && quality_allowed (reading_of w))
    ok)

pub stored-word : (w : ℕ) → w < 2 ^ 64 → StoredReading w → reading_word (reading_of w) ≡ w
unfolding reading_word reading_of
stored-word w fits s =
    let skip : w % 2 ^ 29 ≡ w % 2 ^ 32 = omega (arith, join w 29 3) in
    rw (div-one w, join w 24 5, skip, join w 32 32) (mod-eq_of_lt fits)

pub stored-bounds : (w : ℕ) → StoredReading w → ReadingBounds (issue_of w) (quality_of w) (consumption_of w)
unfolding reading_of
stored-bounds w s = reading-bounds (reading_of w) s.in-range

pub reading-word-bounds : (w : ℕ) → is_reading w ≡ true → (consumption_of w ≤ consumption_most) × (quality_of w ≤ quality_most)
reading-word-bounds w ok =
    ⊎_elim
    (λ none. omega arith)
    (λ s. omega (arith, stored-bounds w s))
    (reading-cases w ok)

-- a word with an issue, energy in range and a code up to E6 with no bit above it is well formed, and so is the word of no reading
module _ (w : ℕ) (fits : w < 2 ^ 64) (code : bit_field w 24 8 ≤ 13) (wh : consumption_of w ≤ consumption_most) where
  common-issued : w / 2 ^ 32 ≢ 0 → is_reading w ≡ true
  unfolding is_reading reading_in_range quality_allowed reading_of
  common-issued issued =
      let zeros : bit_field w 29 3 ≡ 0 = omega arith in
      rw (
        eq-eqb (bit_field w 29 3) 0 zeros,
        le-leb issue_least (issue_of w) (omega arith),
        le-leb (issue_of w) issue_most (omega arith),
        le-leb (quality_of w) quality_most (omega arith),
        le-leb (consumption_of w) consumption_most wh,
        ne_eqb (quality_of w) 14 (λ e. omega arith),
        lt-leb 17 (quality_of w) (omega arith),
      )
      (by-test (eqb w 0) (λ z. rw z) (λ z. rw z))

  common : (not (eqb (w / 2 ^ 32) 0) || eqb w no_reading) ≡ true → is_reading w ≡ true
  common some =
      ⊎_elim
      (λ issued. common-issued (eqb-false (w / 2 ^ 32) 0 (not-true _ issued)))
      (λ none. rw (eqb-true w 0 none) no-reading-well-formed)
      (either (not (eqb (w / 2 ^ 32) 0)) (eqb w no_reading) some)

pub common-reading : (w : ℕ) → w < 2 ^ 64 → (leb (bit_field w 24 8) 13 && leb (consumption_of w) consumption_most && (not (eqb (w / 2 ^ 32) 0) || eqb w no_reading)) ≡ true → is_reading w ≡ true
common-reading w fits h =
    let k = simp and-eq-true_iff at h in
    common w fits (leb-true (bit_field w 24 8) 13 k.0.0) (leb-true (consumption_of w) consumption_most k.0.1) k.1
