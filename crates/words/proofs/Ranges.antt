-- What the tests of a registration and of a reading tell, as bounds that `omega` reads.
use Prim.Native.Nat.{ℕ, ◌*◌, ◌≤◌}
use mathlib.Core.Path.{◌≡◌}
use mathlib.Core.Bool.{true, ◌&&◌, and-eq-true_iff}
use mathlib.Core.Logic.{⊎_elim}
use native.Mathlib.Omega.{arith}
use lib.Dec.{leb, eqb}
use borrow.Author.Tests.{leb-true, eqb-true}
use Rattle.words.specs.declared.Registration.{Registration}
use Rattle.words.specs.declared.Reading.{Reading}
use Rattle.words.specs.Limits.{segment_most, direction_most, status_most, unit_most, category_most, llf_least, llf_most, network_most, tariff_most, consumption_most, quality_most, issue_least, issue_most}
use Rattle.words.specs.Registration.{additional_in_range, registration_in_range}
use Rattle.words.specs.Reading.{reading_in_range}
use Rattle.words.proofs.Tests.{either}

-- the bounds of a registration's fields; the additional number is 0 unless the flag is set
pub record RegistrationBounds (s d t b f a c l e g : ℕ) : Type 0 where
  pub segment : s ≤ segment_most
  pub direction : d ≤ direction_most
  pub status : t ≤ status_most
  pub base : b ≤ unit_most
  pub flag : f ≤ 1
  pub additional : a ≤ unit_most * f
  pub category : c ≤ category_most
  pub llf-least : llf_least ≤ l
  pub llf-most : l ≤ llf_most
  pub network : e ≤ network_most
  pub tariff : g ≤ tariff_most

additional-bounds : (flag additional : ℕ) → additional_in_range flag additional ≡ true → (flag ≤ 1) × (additional ≤ unit_most * flag)
additional-bounds flag additional h =
    ⊎_elim
    (λ none. let k = simp and-eq-true_iff at none in omega (arith, eqb-true))
    (λ one. let k = simp and-eq-true_iff at one in omega (arith, eqb-true, leb-true))
    (either (eqb flag 0 && eqb additional 0) (eqb flag 1 && leb additional unit_most) h)

pub registration-bounds : (r : Registration) → registration_in_range r ≡ true → RegistrationBounds r.segment r.direction r.status r.base r.flag r.additional r.category r.llf r.network r.tariff
unfolding registration_in_range
registration-bounds r h =
    let k = simp and-eq-true_iff at h in
    omega (arith, leb-true, additional-bounds r.flag r.additional k.0.0.0.0.0.1)

pub record ReadingBounds (i q e : ℕ) : Type 0 where
  pub issue-least : issue_least ≤ i
  pub issue-most : i ≤ issue_most
  pub quality : q ≤ quality_most
  pub consumption : e ≤ consumption_most

pub reading-bounds : (r : Reading) → reading_in_range r ≡ true → ReadingBounds r.issue r.quality r.consumption
unfolding reading_in_range
reading-bounds r h =
    let k = simp and-eq-true_iff at h in
    omega (arith, leb-true)

-- the two, for a function that packs
pub ruleset bounds = (registration-bounds, reading-bounds)
