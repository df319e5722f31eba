-- The part of a slice from a place to its end, lent as mutable and put back.
use Prim.Native.Nat.{ℕ, ◌-◌}
use mathlib.Core.Path.{◌≡◌, ◌∙◌, ap}
use mathlib.Core.List.{List, ◌++◌, append-nil}
use native.Mathlib.Omega.{arith}
use borrow.Rule.Slice.PartMut.{put_mid}
use lib.ListN.{length, take, drop, length-drop, drop_of_length-le}
use lib.Seq.{take_all}

-- the part is what stands from the place on
pub rest_part : (a : ℕ) (xs : List ℕ) → take (length xs - a) (drop a xs) ≡ drop a xs
rest_part a xs = take_all (length xs - a) (drop a xs) (omega (arith, length-drop a xs))

-- put back, it stands after what was before it
pub rest_put : (a : ℕ) (xs ys : List ℕ) → put_mid a (length xs - a) xs ys ≡ take a xs ++ ys
rest_put a xs ys =
    ap (λ (zs : List ℕ). take a xs ++ zs)
    (ap (λ (zs : List ℕ). ys ++ zs) (drop_of_length-le (drop a xs) {i = length xs - a} (omega (arith, length-drop a xs))) ∙ append-nil ys)
