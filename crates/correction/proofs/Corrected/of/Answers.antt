-- `Corrected::of` adds up n and a over the units, and takes the sum of n from the Take. Assumes nothing.
use mathlib.Core.Path.{◌≡◌, ◌∙◌, ap}
use mathlib.Core.List.{map}
use native.Mathlib.Omega.{arith}
use borrow.Author.Rules.{rules}
use Prim.Native.Nat.{◌≤◌}
use lib.IntN.{nat_abs, ◌-ℤ◌}
use mir.Syntax.{w64}
use mir.Val.{of_z, to_z}
use Rattle.std.specs.Slice.Iter.{iter_rest}
use Rattle.integers.specs.Helpers.{weighted_most}
use Rattle.integers.specs.Sum.{sum}
use Rattle.integers.proofs.Linear.{sized}
use Rattle.correction.specs.Correction.{net_in, weighted_in, unallocated_of, weighted_total}
use Rattle.integers.proofs.Sizes.{size-sum}
use Rattle.correction.proofs.ChainSums.{mapped-fits, mapped-sum}
use Rattle.correction.proofs.Corrected.of.Goals as goal
use Rattle.correction.proofs.Corrected.of.Goals.{After-sum-weighted}

pub sum-net-requires-clause-fits : goal.sum-net-requires-clause-fits
sum-net-requires-clause-fits c = λ p t e.
    let r = c.map.ensures.runs p t e in
    mapped-fits net_in c.args.sums.now r.0 (ap iter_rest r.1 ∙ c.iter.ensures.rest) p r.2 (λ x y f k. search rules) (omega (arith, c.requires.nets-bound))

pub sum-weighted-requires-clause-fits : goal.sum-weighted-requires-clause-fits
sum-weighted-requires-clause-fits c = λ p t e.
    let r = c.map-2.ensures.runs p t e in
    mapped-fits weighted_in c.args.sums.now r.0 (ap iter_rest r.1 ∙ c.iter-2.ensures.rest) p r.2 (λ x y f k. search rules) (omega (arith, c.requires.weighted-bound))

-- the two sums, and how large they are
net-total : (c : After-sum-weighted) → (c.sum-net.result ≡ sum (map net_in c.args.sums.now)) × (nat_abs c.sum-net.result ≤ 1390000000000)
net-total c =
    let s = c.sum-net.ensures.runs tt in
    let r = c.map.ensures.runs s.0 s.0.seen s.1 in
    let is = s.3 ∙ mapped-sum net_in c.args.sums.now r.0 (ap iter_rest r.1 ∙ c.iter.ensures.rest) s.0 r.2 (λ x y f k. search rules) s.2 in
    (is, rw is (omega (arith, size-sum (map net_in c.args.sums.now), c.requires.nets-bound)))

weighted-is : (c : After-sum-weighted) → (c.sum-weighted.result ≡ sum (map weighted_in c.args.sums.now)) × (nat_abs c.sum-weighted.result ≤ weighted_most)
weighted-is c =
    let s = c.sum-weighted.ensures.runs tt in
    let r = c.map-2.ensures.runs s.0 s.0.seen s.1 in
    let is = s.3 ∙ mapped-sum weighted_in c.args.sums.now r.0 (ap iter_rest r.1 ∙ c.iter-2.ensures.rest) s.0 r.2 (λ x y f k. search rules) s.2 in
    (is, rw is (omega (arith, size-sum (map weighted_in c.args.sums.now), c.requires.weighted-bound)))

-- the code's difference
difference : (c : After-sum-weighted) → to_z w64 (of_z w64 (to_z w64 (of_z w64 c.args.take_wh) -ℤ to_z w64 (of_z w64 c.sum-net.result))) ≡ c.args.take_wh -ℤ c.sum-net.result
difference c = omega (sized, (net-total c).1)

pub overflow_sub-result : goal.overflow_sub-result
overflow_sub-result c = omega (sized, (net-total c).1)

pub returns-clause-is : goal.returns-clause-is
unfolding unallocated_of weighted_total
returns-clause-is c =
    let read : to_z w64 (of_z w64 c.sum-weighted.result) ≡ c.sum-weighted.result = omega (sized, (weighted-is c).1) in
    rw (difference c, read, (net-total c).0, (weighted-is c).0)

pub returns-clause-bound : goal.returns-clause-bound
returns-clause-bound c =
    record { u-bound = omega (sized, (net-total c).1); w-bound = omega (sized, (weighted-is c).1) }
