-- A list of calls made one by one: the calls of a slice in arrays of twelve words, what is made before a place, and the whole list.
use Prim.Native.Nat.{ℕ, zero, suc, ◌+◌, ◌/◌, ◌%◌, ◌≤◌, ◌<◌}
use mathlib.Core.Path.{◌≡◌, refl, sym, ◌∙◌, ap}
use mathlib.Core.Bool.{true}
use mathlib.Core.List.{List, [], ◌∷◌, ◌++◌, map}
use native.Mathlib.Omega.{arith}
use native.Mathlib.Numerals.{add-one}
use borrow.Author.Tests.{eq-eqb, ne_eqb, lt-ltb, le-ltb}
use lib.IntN.{ℤ}
use lib.ListN.{length, get_or, set, take, drop, replicate}
use lib.Seq.{take_all, take-suc, drop-cons, append_snoc, set_at, length-take-le}
use Rattle.std.specs.Simd.{first_chunks}
use Rattle.std.proofs.lemmas.List.{map-append, length-map}
use Rattle.std.specs.Prelude.{Err}
use Rattle.refusals.specs.declared.Refusal.{Refusal}
use Rattle.refusals.specs.Causes.{accepted, list_misshapen}
use Rattle.refusals.specs.Refusal.{number_of}
use Rattle.refusals.proofs.Numbers.{not-accepted}
use Rattle.book.specs.declared.Settings.{Settings}
use Rattle.book.specs.declared.Answer.{Answer}
use Rattle.book.specs.Book.{well_formed}
use Rattle.running.specs.Running.{Running, running_of}
use Rattle.running.specs.Helpers.{lent_tested}
use Rattle.running.proofs.TestedFirst.{refused-first}
use Rattle.calls.specs.declared.Call.{Call}
use Rattle.calls.specs.Running.{running_call, running_after, running_numbers, RunningGives}
use Rattle.calls.proofs.ListOfCalls.{running-after-append, numbers-append, length-numbers, running-left, numbers-refused, running-formed}
use Rattle.listing.specs.Listed.{call_words, call_of, calls_from, list_cause, list_outcome, list_call, ListGives}
use Rattle.listing.specs.Helpers.{MakesEach}
use Rattle.listing.proofs.CallOf.{call-of-first}

-- the calls in arrays of twelve words are the calls of the slice
pub calls-in-arrays : (n : ℕ) (ws : List ℕ) → map call_of (first_chunks call_words n ws) ≡ calls_from n ws
unfolding calls_from
calls-in-arrays zero ws = refl
calls-in-arrays (suc n) ws = rw (call-of-first ws, calls-in-arrays n (drop call_words ws))

pub length-calls : (n : ℕ) (ws : List ℕ) → length (calls_from n ws) ≡ n
unfolding calls_from
length-calls zero ws = refl
length-calls (suc n) ws = ap suc (length-calls n (drop call_words ws))

-- the first i calls, and one more
abbrev pub calls_to : ℕ → List (List ℕ) → List Call
calls_to i calls = map call_of (take i calls)

pub calls-more : (i : ℕ) (calls : List (List ℕ)) (d : List ℕ) → i < length calls → calls_to (i + 1) calls ≡ calls_to i calls ++ call_of (get_or calls i d) ∷ []
calls-more i calls d h = rw (add-one i, take-suc calls i d h) (map-append call_of (take i calls) (get_or calls i d ∷ []))

-- the first i calls are made: the book, the cells and the numbers then
pub record Made (start : Running) (calls : List (List ℕ)) (numbers₀ : List ℕ) (i : ℕ) (r : Running) (numbers : List ℕ) : Type 0 where
  pub formed : well_formed r.book ≡ true
  pub running-made : r ≡ running_after start (calls_to i calls)
  pub numbers-made : numbers ≡ running_numbers start (calls_to i calls) ++ drop i numbers₀

module _ (start : Running) (calls : List (List ℕ)) (numbers₀ : List ℕ) where
  pub none_made : well_formed start.book ≡ true → Made start calls numbers₀ 0 start numbers₀
  unfolding running_after running_numbers
  none_made wf = record { formed = wf; running-made = refl; numbers-made = refl }

  -- the next call
  module _ {i : ℕ} {r : Running} {numbers : List ℕ} (before : Made start calls numbers₀ i r numbers) (inside : i < length calls) (within : i < length numbers₀) (d : List ℕ) where
    abbrev call : Call
    call = call_of (get_or calls i d)

    next-running : (running_call r call).running ≡ running_after start (calls_to (i + 1) calls)
    unfolding running_after
    next-running = rw (calls-more i calls d inside, running-after-append start (calls_to i calls) (call ∷ []), ← before.running-made)

    next-numbers : set numbers i (running_call r call).number ≡ running_numbers start (calls_to (i + 1) calls) ++ drop (i + 1) numbers₀
    unfolding running_numbers
    next-numbers =
        let number = (running_call r call).number in
        let done = running_numbers start (calls_to i calls) in
        let count : length done ≡ i = length-numbers start (calls_to i calls) ∙ length-map (take i calls) call_of ∙ length-take-le i calls (omega arith) in
        ap (λ (l : List ℕ). set l i number) (before.numbers-made ∙ ap (λ (l : List ℕ). done ++ l) (drop-cons numbers₀ i 0 within))
        ∙ set_at done (get_or numbers₀ i 0) (drop (suc i) numbers₀) number i count
        ∙ sym (append_snoc done number (drop (suc i) numbers₀))
        ∙ rw (
          calls-more i calls d inside,
          numbers-append start (calls_to i calls) (call ∷ []),
          ← before.running-made,
          add-one i,
        )

    pub next-made : (answer : Answer) (rows_after : List ℕ) (cells_after : List ℤ) → RunningGives (running_call r call) answer rows_after cells_after
        → Made start calls numbers₀ (i + 1) (running_of answer.settings rows_after cells_after) (set numbers i answer.number)
    next-made answer rows_after cells_after g =
        rw (g.settings, g.rows, g.cells, g.number)
        (record {
          formed = running-formed r before.formed call;
          running-made = next-running;
          numbers-made = next-numbers;
        })

  -- all are made
  pub all-made : {i : ℕ} {made : Settings} {rows rows_after : List ℕ} {cells : List ℤ} {numbers : List ℕ} → i ≡ length calls → Made start calls numbers₀ i (running_of made rows cells) numbers → rows_after ≡ rows
      → MakesEach start calls numbers₀ made rows_after cells numbers
  all-made e m same =
      let all : take (length calls) calls ≡ calls = take_all (length calls) calls (omega arith) in
      let running = rw (e, all) at m.running-made in
      record {
        settings = ap (λ (r : Running). r.book.settings) running;
        rows = same ∙ ap (λ (r : Running). r.book.rows) running;
        cells = ap (λ (r : Running). r.cells) running;
        numbers-given = rw (e, all) at m.numbers-made;
      }

-- the whole list, where it is let in: made one by one, or refused call by call for what is lent
module _ (s : Settings) (words : List ℕ) (cells : List ℤ) (ws numbers : List ℕ) where
  abbrev start : Running
  start = running_of s words cells

  pub list-made : {made : Settings} {rows : List ℕ} {after : List ℤ} {numbers_after : List ℕ} → MakesEach start (first_chunks call_words (length ws / call_words) ws) numbers made rows after numbers_after
      → ListGives (list_outcome accepted start ws numbers) (record { number = accepted; settings = made }) rows after numbers_after
  unfolding list_outcome
  list-made m =
      let n = length ws / call_words in
      let calls = calls-in-arrays n ws in
      let count : length (first_chunks call_words n ws) ≡ n = sym (length-map (first_chunks call_words n ws) call_of) ∙ ap length calls ∙ length-calls n ws in
      record {
        number = refl;
        settings = rw calls at m.settings;
        rows = rw calls at m.rows;
        cells = rw calls at m.cells;
        numbers = rw (calls, count) at m.numbers-given;
      }

  list-refused : (refusal : Refusal) → lent_tested start ≡ Err refusal
      → ListGives (list_outcome accepted start ws numbers) (record { number = accepted; settings = s }) words cells (replicate (length ws / call_words) (number_of refusal) ++ drop (length ws / call_words) numbers)
  unfolding list_outcome
  list-refused refusal e =
      let calls = calls_from (length ws / call_words) ws in
      let left = sym (running-left start (refused-first start refusal e) (not-accepted refusal) calls) in
      record {
        number = refl;
        settings = ap (λ (r : Running). r.book.settings) left;
        rows = ap (λ (r : Running). r.book.rows) left;
        cells = ap (λ (r : Running). r.cells) left;
        numbers = rw (numbers-refused start (refused-first start refusal e) (not-accepted refusal) calls, length-calls (length ws / call_words) ws);
      }

  -- whether it is let in: the calls in arrays are a whole number, and there is room for their numbers
  module _ (calls : List (List ℕ)) (whole : length ws % call_words ≡ 0) (count : length calls ≡ length ws / call_words) (room : length calls ≤ length numbers) where
    let-in : list_call start ws numbers ≡ list_outcome accepted start ws numbers
    unfolding list_call list_cause
    let-in = rw (eq-eqb (length ws % call_words) 0 whole, le-ltb (length numbers) (length ws / call_words) (omega (arith, count, room)))

    pub call-made : {made : Settings} {rows : List ℕ} {kept after : List ℤ} {numbers_after : List ℕ} → calls ≡ first_chunks call_words (length ws / call_words) ws → MakesEach start calls numbers made rows kept numbers_after → after ≡ kept
        → ListGives (list_call start ws numbers) (record { number = accepted; settings = made }) rows after numbers_after
    call-made cut m same = rw (let-in, same) (list-made (rw cut at m))

    pub call-refused : (refusal : Refusal) → lent_tested start ≡ Err refusal → {refused : List ℕ} → refused ≡ replicate (length calls) (number_of refusal)
        → ListGives (list_call start ws numbers) (record { number = accepted; settings = s }) words cells (refused ++ drop (length calls) numbers)
    call-refused refusal h e = rw (let-in, e, count) (list-refused refusal h)

  pub call-broken : (length ws % call_words ≡ 0 → ⊥) → ListGives (list_call start ws numbers) (record { number = list_misshapen; settings = s }) words cells numbers
  unfolding list_call list_cause list_outcome
  call-broken h =
      rw (ne_eqb (length ws % call_words) 0 h) (record { number = refl; settings = refl; rows = refl; cells = refl; numbers = refl })

  pub call-without-room : length ws % call_words ≡ 0 → length numbers < length ws / call_words → ListGives (list_call start ws numbers) (record { number = list_misshapen; settings = s }) words cells numbers
  unfolding list_call list_cause list_outcome
  call-without-room whole h =
      rw (eq-eqb (length ws % call_words) 0 whole, lt-ltb (length numbers) (length ws / call_words) h)
      (record { number = refl; settings = refl; rows = refl; cells = refl; numbers = refl })

pub ruleset whole_lists = (call-made, call-refused, call-broken, call-without-room)
