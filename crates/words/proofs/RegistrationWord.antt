-- Word 1: what is packed is what is unpacked, and a word is well formed exactly if a registration in range has it.
use Prim.Native.Nat.{ℕ, ◌+◌, ◌*◌, ◌/◌, ◌%◌, ◌^◌, ◌≤◌, ◌<◌}
use mathlib.Core.Path.{◌≡◌, refl, ◌∙◌}
use mathlib.Core.Bool.{Bool, true, false, cond, ◌&&◌, and-eq-true_iff}
use native.Mathlib.Nat.{div-one, mod-eq_of_lt}
use native.Mathlib.Omega.{arith}
use lib.Bits.{bit_and}
use lib.Dec.{leb, eqb}
use borrow.Author.Tests.{le-leb, eq-eqb, ne_eqb, eqb-true}
use Rattle.words.specs.declared.Registration.{Registration}
use Rattle.words.specs.Limits.{segment_most, direction_most, status_most, unit_most, category_most, llf_least, llf_most, network_most, tariff_most}
use Rattle.words.specs.Registration.{bit_field, segment_of, direction_of, status_of, base_of, flag_of, additional_of, category_of, llf_of, network_of, tariff_of, unit_of, registration_of, registration_word, registration_in_range, is_registration, additional_in_range}
use Rattle.words.proofs.BitField.{join}
use Rattle.words.proofs.Tests.{same, same-where, all_below, all-below}
use Rattle.words.proofs.Ranges.{RegistrationBounds, registration-bounds}

-- the fields of a word are those of a registration
pub record RegistrationPacked (r : Registration) (w : ℕ) : Type 0 where
  pub segment : segment_of w ≡ r.segment
  pub direction : direction_of w ≡ r.direction
  pub status : status_of w ≡ r.status
  pub base : base_of w ≡ r.base
  pub flag : flag_of w ≡ r.flag
  pub additional : additional_of w ≡ r.additional
  pub category : category_of w ≡ r.category
  pub llf : llf_of w ≡ r.llf
  pub network : network_of w ≡ r.network
  pub tariff : tariff_of w ≡ r.tariff

module _ (r : Registration) (ok : registration_in_range r ≡ true) where
  pub registration-packed : RegistrationPacked r (registration_word r)
  unfolding registration_word
  registration-packed = omega (arith, registration-bounds r ok)

  pub registration-round-trip : registration_of (registration_word r) ≡ r
  unfolding registration_of
  registration-round-trip =
      λ i.
      record {
        segment = registration-packed.segment i;
        direction = registration-packed.direction i;
        status = registration-packed.status i;
        base = registration-packed.base i;
        flag = registration-packed.flag i;
        additional = registration-packed.additional i;
        category = registration-packed.category i;
        llf = registration-packed.llf i;
        network = registration-packed.network i;
        tariff = registration-packed.tariff i;
      }

  registration-word-lt : registration_word r < 2 ^ 49
  unfolding registration_word
  registration-word-lt = omega (arith, registration-bounds r ok)

  pub registration-word-well-formed : is_registration (registration_word r) ≡ true
  unfolding is_registration
  registration-word-well-formed =
      let top : registration_word r / 2 ^ 49 ≡ 0 = omega (arith, registration-word-lt) in
      rw (top, registration-round-trip, ok)

module _ (w : ℕ) (ok : is_registration w ≡ true) where
  well-formed-lt : w < 2 ^ 49
  unfolding is_registration
  well-formed-lt = let k = simp and-eq-true_iff at ok in omega (arith, eqb-true)

  well-formed-in-range : registration_in_range (registration_of w) ≡ true
  unfolding is_registration
  well-formed-in-range = let k = simp and-eq-true_iff at ok in k.1

  pub well-formed-bounds : RegistrationBounds (segment_of w) (direction_of w) (status_of w) (base_of w) (flag_of w) (additional_of w) (category_of w) (llf_of w) (network_of w) (tariff_of w)
  unfolding registration_of
  well-formed-bounds = registration-bounds (registration_of w) well-formed-in-range

  pub well-formed-word : registration_word (registration_of w) ≡ w
  unfolding registration_word registration_of
  well-formed-word =
      rw (div-one w, join w 2 1, join w 3 2, join w 5 5, join w 10 1, join w 11 5, join w 16 6, join w 22 11, join w 33 6, join w 39 10)
      (mod-eq_of_lt well-formed-lt)

-- a unit's number has five bits in every word
pub unit-bound : (w : ℕ) → unit_of w ≤ unit_most
unfolding unit_of
unit-bound w = either_way (eqb (flag_of w) 1)
  where
    either_way : (b : Bool) → cond b (additional_of w) (base_of w) ≤ unit_most
    either_way true = omega arith
    either_way false = omega arith

-- every number below 32, tried: no two bits side by side are set, at 0 and 1 or at 3 and 4, exactly if the segment and the status in it are in range
low-tried : all_below 32 (λ (x : ℕ). same (eqb (bit_and (bit_and x (x / 2)) 9) 0) (leb (x % 4) segment_most && leb (x / 8) status_most)) ≡ true
unfolding all_below same
low-tried = refl

-- every number below 64, tried: its bit of this number is set exactly if the flag in it and the additional number above that are in range
additional-tried : all_below 64 (λ (x : ℕ). same (eqb (12297829382473034411 / 2 ^ x % 2) 1) (additional_in_range (x % 2) (x / 2))) ≡ true
unfolding all_below same
additional-tried = refl

below-part : (a b x : ℕ) → a < 4 → a + b * 4 ≡ x → x % 4 ≡ a
below-part a b x h e = omega arith

above-part : (a b x : ℕ) → a < 8 → a + b * 8 ≡ x → x / 8 ≡ b
above-part a b x h e = omega arith

-- the tests that can fail, in the order of the definition and among those that cannot
in_order : (top segment status additional least most : Bool)
    → top && (segment && status) && additional && (least && most) ≡ top && (segment && true && status && true && additional && true && least && most && true && true)
in_order false segment status additional least most = refl
in_order true false status additional least most = refl
in_order true true false additional least most = refl
in_order true true true false least most = refl
in_order true true true true false most = refl
in_order true true true true true false = refl
in_order true true true true true true = refl

module _ (w : ℕ) where
  low-test : eqb (bit_and (bit_and (bit_field w 0 5) (bit_field w 0 5 / 2)) 9) 0 ≡ (leb (segment_of w) segment_most && leb (status_of w) status_most)
  low-test =
      let segment : bit_field w 0 5 % 4 ≡ segment_of w = rw (div-one w) (below-part (w % 4) (bit_field w 2 3) (w % 32) (omega arith) (join w 2 3)) in
      let status : bit_field w 0 5 / 8 ≡ status_of w = rw (div-one w) (above-part (w % 8) (bit_field w 3 2) (w % 32) (omega arith) (join w 3 2)) in
      same-where _ _ (all-below 32 _ low-tried (bit_field w 0 5) (omega arith)) ∙ rw (segment, status)

  additional-test : eqb (12297829382473034411 / 2 ^ bit_field w 10 6 % 2) 1 ≡ additional_in_range (flag_of w) (additional_of w)
  additional-test =
      let flag : bit_field w 10 6 % 2 ≡ flag_of w = omega arith in
      let additional : bit_field w 10 6 / 2 ≡ additional_of w = omega arith in
      same-where _ _ (all-below 64 _ additional-tried (bit_field w 10 6) (omega arith)) ∙ rw (flag, additional)

  -- the tests of a word that can fail: the units, the category, the network and the tariff fill their bits
  abbrev tests : Bool
  tests =
      eqb (w / 2 ^ 49) 0
      && eqb (bit_and (bit_and (bit_field w 0 5) (bit_field w 0 5 / 2)) 9) 0
      && eqb (12297829382473034411 / 2 ^ bit_field w 10 6 % 2) 1
      && (leb llf_least (llf_of w) && leb (llf_of w) llf_most)

  registration-tests : tests ≡ is_registration w
  unfolding is_registration registration_in_range registration_of
  registration-tests =
      rw (
        low-test,
        additional-test,
        le-leb (direction_of w) direction_most (omega arith),
        le-leb (base_of w) unit_most (omega arith),
        le-leb (category_of w) category_most (omega arith),
        le-leb (network_of w) network_most (omega arith),
        le-leb (tariff_of w) tariff_most (omega arith),
      )
      (in_order (eqb (w / 2 ^ 49) 0) (leb (segment_of w) segment_most) (leb (status_of w) status_most) (additional_in_range (flag_of w) (additional_of w)) (leb llf_least (llf_of w)) (leb (llf_of w) llf_most))

  -- as the code goes through them: each test fails, or is passed by and leaves those after it
  pub top-fails : (w / 2 ^ 49 ≡ 0 → ⊥) → false ≡ is_registration w
  top-fails h = rw (ne_eqb (w / 2 ^ 49) 0 h) at registration-tests

  module _ (top : w / 2 ^ 49 ≡ 0) where
    pub low-fails : (x : ℕ) → x ≡ bit_field w 0 5 → (bit_and (bit_and x (x / 2)) 9 ≡ 0 → ⊥) → false ≡ is_registration w
    low-fails x e h =
        let fails : eqb (bit_and (bit_and (bit_field w 0 5) (bit_field w 0 5 / 2)) 9) 0 ≡ false = rw (← e) (ne_eqb (bit_and (bit_and x (x / 2)) 9) 0 h) in
        rw (eq-eqb (w / 2 ^ 49) 0 top, fails) at registration-tests

    module _ (x : ℕ) (x-is : x ≡ bit_field w 0 5) (low : bit_and (bit_and x (x / 2)) 9 ≡ 0) where
      low-passes : eqb (bit_and (bit_and (bit_field w 0 5) (bit_field w 0 5 / 2)) 9) 0 ≡ true
      low-passes = rw (← x-is) (eq-eqb (bit_and (bit_and x (x / 2)) 9) 0 low)

      pub additional-fails : (y : ℕ) → y ≡ bit_field w 10 6 → 12297829382473034411 / 2 ^ y % 2 ≡ 0 → false ≡ is_registration w
      additional-fails y e h =
          let fails : eqb (12297829382473034411 / 2 ^ bit_field w 10 6 % 2) 1 ≡ false = rw (← e) (ne_eqb (12297829382473034411 / 2 ^ y % 2) 1 (λ q. omega arith)) in
          rw (eq-eqb (w / 2 ^ 49) 0 top, low-passes, fails) at registration-tests

      pub llf-decides : (y : ℕ) → y ≡ bit_field w 10 6 → (12297829382473034411 / 2 ^ y % 2 ≡ 0 → ⊥) → (z : ℕ) → z ≡ bit_field w 22 11 → (leb llf_least z && leb z llf_most) ≡ is_registration w
      llf-decides y e h z f =
          let passes : eqb (12297829382473034411 / 2 ^ bit_field w 10 6 % 2) 1 ≡ true = rw (← e) (eq-eqb (12297829382473034411 / 2 ^ y % 2) 1 (omega (arith, h))) in
          rw f (rw (eq-eqb (w / 2 ^ 49) 0 top, low-passes, passes) at registration-tests)
