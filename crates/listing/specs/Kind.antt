-- The kinds of call, under their numbers.
use Rattle.std.specs.Prelude.{ℕ, cond, eqb, Option, Some, None}
use Rattle.listing.specs.declared.list.Kind.{Kind}
use Rattle.listing.specs.declared.list.Kind.TheVariants.{Register, Reading, Shape, Weight, Tolerance, Take}
use Rattle.listing.specs.Listed.{register_kind, reading_kind, shape_kind, weight_kind, tolerance_kind, take_kind}

unfoldable pub kind_of : ℕ → Option Kind
kind_of word =
    cond (eqb word register_kind) (Some Register)
    (cond (eqb word reading_kind) (Some Reading)
    (cond (eqb word shape_kind) (Some Shape)
    (cond (eqb word weight_kind) (Some Weight)
    (cond (eqb word tolerance_kind) (Some Tolerance)
    (cond (eqb word take_kind) (Some Take)
    None)))))
