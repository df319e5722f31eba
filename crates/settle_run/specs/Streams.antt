-- What the program does with the bytes that its reader has left and its writer holds, where those are known.
use Rattle.std.specs.Prelude.{◌≡◌, ◌≢◌, ◌⊎◌, ℕ, true, Option, List, [], ◌++◌}
use Rattle.std.specs.IoError.{error_kind}
use Rattle.std.specs.declared.io.Error.{Error}
use Rattle.std.specs.declared.io.ErrorKind.TheVariants.{Interrupted, WouldBlock}
use Rattle.std.specs.Io.KnownBytes.{Appends, Consumes, IsAtEnd}
use Rattle.settle_run.specs.Program.{Step, is_reading, Attempt, gave, again, failed, ended, by_cells, take_bytes}
use Rattle.settle_run.specs.Helpers.{Turned}

-- a failure after which a call may be made again: a signal came, or a pipe that does not wait is full or empty for now
abbrev pub Passes : Error → Type 0
Passes e = (error_kind e ≡ Interrupted) ⊎ (error_kind e ≡ WouldBlock)

-- the bytes that an attempt gave
abbrev pub given_by : Attempt → List ℕ
given_by (gave bytes) = bytes
given_by again = []
given_by failed = []

-- a beginning of the bytes was appended
pub record AppendsSome (written written₂ : Option (List ℕ)) (bytes : List ℕ) : Type 0 where
  pub part : List ℕ
  pub rest : List ℕ
  pub front : bytes ≡ part ++ rest
  pub appended : Appends written written₂ part

-- what one turn leaves: what waited was written, the attempt did not fail, the reader lost the bytes that it gave, and one that gave
-- none was at the end
pub record TurnedOver (before now : Step) (left left₂ written written₂ : Option (List ℕ)) : Type 0 where
  pub turned : Turned before now
  pub went_on : turned.attempt ≢ failed
  pub consumed : Consumes left left₂ (given_by turned.attempt)
  pub at_end : turned.attempt ≡ gave [] → IsAtEnd left₂
  pub appended : Appends written written₂ before.text

-- what all turns leave: the reader lost some bytes, the work is that of these bytes, what they print was written or waits, and
-- nothing is left to read unless a line out of form came
pub record ReadOver (before now : Step) (left left₂ written written₂ : Option (List ℕ)) : Type 0 where
  pub bytes : List ℕ
  pub consumed : Consumes left left₂ bytes
  pub at_end : is_reading (take_bytes by_cells before.work bytes).work.phase ≡ true → IsAtEnd left₂
  pub work : now.work ≡ ended (take_bytes by_cells before.work bytes).work
  pub text : List ℕ
  pub appended : Appends written written₂ text
  pub printed : text ++ now.text ≡ before.text ++ (take_bytes by_cells before.work bytes).text

-- what turns leave that a failure broke off: the reader lost some bytes, and a beginning of what they print was written
pub record BrokenOff (before : Step) (left left₂ written written₂ : Option (List ℕ)) : Type 0 where
  pub bytes : List ℕ
  pub consumed : Consumes left left₂ bytes
  pub begun : AppendsSome written written₂ (before.text ++ (take_bytes by_cells before.work bytes).text)
