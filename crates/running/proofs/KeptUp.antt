-- What keeping the slice up gives, by what adding a change left: that of the same change, said in another way.
use Prim.Native.Nat.{ℕ}
use mathlib.Core.Path.{◌≡◌, refl, sym, ◌∙◌}
use mathlib.Core.Bool.{true}
use mathlib.Core.List.{List}
use lib.IntN.{ℤ}
use Rattle.std.specs.Prelude.{Some, None, Ok, Err}
use Rattle.refusals.specs.declared.Refusal.TheVariants.{BookIllFormed}
use Rattle.running.specs.Running.{with_change, within_limits, limit_cause}
use Rattle.running.specs.Helpers.{Exchanges, KeepsUp, kept_by}

module _ (change : ℕ → ℤ) (cells : List ℤ) where
  module _ (added : ℕ → ℤ) (same : with_change added cells ≡ with_change change cells) {after : List ℤ} where
    pub kept-up : (most : ℕ) → Exchanges added cells (Some most) after → KeepsUp change cells (Ok tt) after
    unfolding limit_cause kept_by
    kept-up most e =
        let f = e.fits most refl in
        let within : within_limits (with_change change cells) ≡ true = rw same at f.0.within in
        record { number = rw within; cells_are = f.1 ∙ same }

    pub refused-up : Exchanges added cells None after → KeepsUp change cells (Err BookIllFormed) after
    unfolding limit_cause kept_by
    refused-up e = let p = e.passes refl in record { number = rw (rw same at p.0); cells_are = p.1 }

  -- where nothing changes
  pub unchanged-up : with_change change cells ≡ cells → within_limits cells ≡ true → KeepsUp change cells (Ok tt) cells
  unfolding limit_cause kept_by
  unchanged-up same within = record { number = rw (same, within); cells_are = sym same }
