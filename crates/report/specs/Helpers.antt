-- How the contracts speak of the text that waits.
use Rattle.std.specs.Prelude.{ℕ, ◌+◌, ◌≤◌, ◌≡◌, List, ◌++◌, length, take, drop}
use Rattle.arrayvec.specs.ArrayVec.{ArrayVec, array_vec_len, Extends}

-- there is room for so many bytes behind those that wait
abbrev pub HasRoomFor : ℕ → ArrayVec ℕ → ℕ → Type 0
HasRoomFor most waited room = array_vec_len waited + most ≤ room

-- these bytes, which are at most so many, were put behind what waited
pub record Puts (most : ℕ) (bytes : List ℕ) (waited waits : ArrayVec ℕ) : Type 0 where
  pub text : Extends waited bytes waits
  pub short : array_vec_len waits ≤ array_vec_len waited + most

-- Of a slice that is lent: the text stands behind the first `used` bytes, all other bytes are as they were, and `next` bytes are in use then.
pub record Appended (before : List ℕ) (used : ℕ) (text after : List ℕ) (next : ℕ) : Type 0 where
  pub bytes : after ≡ take used before ++ (text ++ drop (used + length text) before)
  pub count : next ≡ used + length text
  pub within : next ≤ length before

-- the same for a text of at most so many bytes
pub record Printed (most : ℕ) (before : List ℕ) (used : ℕ) (text after : List ℕ) (next : ℕ) : Type 0 where
  pub appended : Appended before used text after next
  pub short : next ≤ used + most
