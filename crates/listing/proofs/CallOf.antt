-- The call that stands first in a slice: only its first words matter.
use Prim.Native.Nat.{ℕ, ◌<◌}
use mathlib.Core.Path.{◌≡◌}
use mathlib.Core.List.{List}
use native.Mathlib.Omega.{arith}
use lib.ListN.{get_or, take}
use Rattle.std.proofs.lemmas.List.{get_or-take}
use Rattle.listing.specs.Listed.{call_words, setting_in, call_of}

module _ (ws : List ℕ) where
  word-of-first : (k : ℕ) → k < call_words → get_or (take call_words ws) k 0 ≡ get_or ws k 0
  word-of-first k h = get_or-take call_words ws k 0 h

  pub call-of-first : call_of (take call_words ws) ≡ call_of ws
  unfolding call_of setting_in
  call-of-first =
      let n : (k : ℕ) → k < 12 → get_or (take 12 ws) k 0 ≡ get_or ws k 0 = word-of-first in
      rw (n 0 (omega arith), n 1 (omega arith), n 2 (omega arith), n 3 (omega arith), n 4 (omega arith), n 5 (omega arith), n 6 (omega arith), n 7 (omega arith), n 8 (omega arith), n 9 (omega arith), n 10 (omega arith), n 11 (omega arith))
