-- Word 0.
use Rattle.std.specs.Prelude.{ℕ, Bool, ◌&&◌, leb}
use Rattle.words.specs.Limits.{mpan_least, mpan_most}

-- "Word 0: MPAN, 1,000,000,000,000 to 9,999,999,999,999": the well-formed word 0, and the range of an MPAN that a call is given
unfoldable pub is_mpan : ℕ → Bool
is_mpan m = leb mpan_least m && leb m mpan_most
