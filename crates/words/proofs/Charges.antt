-- Word 1 without the network and the tariff: it keeps every other field, and it is the word of the registration that has 0 in these two.
use Prim.Native.Nat.{ℕ, ◌+◌, ◌/◌, ◌%◌, ◌^◌}
use mathlib.Core.Path.{◌≡◌}
use mathlib.Core.Bool.{true}
use native.Mathlib.Omega.{arith}
use lib.Pow.{field, mod-mod-pow}
use Rattle.words.specs.declared.Registration.{Registration}
use Rattle.words.specs.Registration.{bit_field, segment_of, direction_of, status_of, base_of, flag_of, additional_of, category_of, llf_of, unit_of, registration_word, registration_in_range, without_charges, registration_without_charges}
use Rattle.words.proofs.Ranges.{registration-bounds}

-- the bits from a place on do not change a field that ends at or before it
field_below : (w at width more : ℕ) → bit_field (w % 2 ^ (more + width + at)) at width ≡ bit_field w at width
field_below w at width more = rw (field w (more + width) at, mod-mod-pow (w / 2 ^ at) more width)

module _ (w : ℕ) where
  pub segment-kept : segment_of (without_charges w) ≡ segment_of w
  unfolding without_charges
  segment-kept = field_below w 0 2 31

  pub direction-kept : direction_of (without_charges w) ≡ direction_of w
  unfolding without_charges
  direction-kept = field_below w 2 1 30

  pub status-kept : status_of (without_charges w) ≡ status_of w
  unfolding without_charges
  status-kept = field_below w 3 2 28

  base_kept : base_of (without_charges w) ≡ base_of w
  unfolding without_charges
  base_kept = field_below w 5 5 23

  flag-kept : flag_of (without_charges w) ≡ flag_of w
  unfolding without_charges
  flag-kept = field_below w 10 1 22

  additional-kept : additional_of (without_charges w) ≡ additional_of w
  unfolding without_charges
  additional-kept = field_below w 11 5 17

  pub category-kept : category_of (without_charges w) ≡ category_of w
  unfolding without_charges
  category-kept = field_below w 16 6 11

  pub llf-kept : llf_of (without_charges w) ≡ llf_of w
  unfolding without_charges
  llf-kept = field_below w 22 11 0

  pub unit_kept : unit_of (without_charges w) ≡ unit_of w
  unfolding unit_of
  unit_kept = rw (flag-kept, additional-kept, base_kept)

-- the word of a registration in range
pub word-without-charges : (r : Registration) → registration_in_range r ≡ true
    → without_charges (registration_word r) ≡ registration_word (registration_without_charges r)
unfolding without_charges registration_without_charges registration_word
word-without-charges r ok = omega (arith, registration-bounds r ok)
