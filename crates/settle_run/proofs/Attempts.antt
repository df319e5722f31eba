-- Attempts to read, one after the other.
use Rattle.std.proofs.Common.{◌≡◌, ℕ, true, List, [], ◌∷◌, ◌++◌, ℤ, refl}
use Rattle.settle_run.specs.Program.{Work, Step, quiet, fresh_work, ended, Attempt, gave, again, failed, given, all_went_on, by_cells, take_bytes, take_read, take_attempt, take_attempts, attempts_text, end_text, settle_text}
use Rattle.settle_run.specs.Helpers.{Turned, Read}
use Rattle.settle_run.proofs.Bytes.{chunks}

-- one more at the end
pub one_more : (w : Work) (attempts : List Attempt) (last : Attempt)
    → take_attempts by_cells w (attempts ++ (last ∷ [])) ≡ (take_attempt by_cells (take_attempts by_cells w attempts) last).work
unfolding take_attempts
one_more w [] last = refl
one_more w (attempt ∷ attempts) last = one_more (take_attempt by_cells w attempt).work attempts last

pub once_more : {before now then : Step} → Read before now → Turned now then → Read before then
once_more {before = before} r t =
    record {
      attempts = r.attempts ++ (t.attempt ∷ []);
      work = rw (one_more before.work r.attempts t.attempt, ← r.work, t.made);
      room = t.room;
    }

none : (w : Work) → quiet w ≡ take_bytes by_cells w []
unfolding take_bytes
none w = refl

-- what attempts leave and print is what the bytes do that they gave
taken-as-one : (w : Work) (attempts : List Attempt) → all_went_on attempts ≡ true
    → record { work = take_attempts by_cells w attempts; text = attempts_text by_cells w attempts } ≡ take_bytes by_cells w (given attempts)
unfolding take_attempts take_attempt take_read attempts_text given all_went_on
taken-as-one w [] h = none w
taken-as-one w (gave [] ∷ attempts) h = absurd cc
taken-as-one w (gave (byte ∷ bytes) ∷ attempts) h =
    rw (chunks by_cells w (byte ∷ bytes) (given attempts), ← taken-as-one (take_bytes by_cells w (byte ∷ bytes)).work attempts h)
taken-as-one w (again ∷ attempts) h = taken-as-one w attempts h
taken-as-one w (failed ∷ attempts) h = absurd cc

-- reads of any sizes: the texts of the attempts and of the end are the text of the whole input
pub reads-of-any-size : (words : List ℕ) (cells : List ℤ) (attempts : List Attempt) → all_went_on attempts ≡ true
    → attempts_text by_cells (fresh_work words cells) attempts ++ end_text by_cells (ended (take_attempts by_cells (fresh_work words cells) attempts))
    ≡ settle_text by_cells words cells (given attempts)
unfolding settle_text
reads-of-any-size words cells attempts h = rw (← taken-as-one (fresh_work words cells) attempts h)
