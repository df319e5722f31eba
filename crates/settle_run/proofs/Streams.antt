-- What turns do to a reader and a writer whose bytes are known.
use Rattle.std.proofs.Common.{◌≡◌, ◌≢◌, ℕ, ◌≤◌, Bool, true, false, Option, None, Some, IfSome, Result, Ok, Err, OnErr, List, [], ◌∷◌, ◌++◌, length, take, drop, ℤ, sym, refl, ap, subst, ◌∙◌, append_assoc, append-nil, take-append-drop, length-take-le}
use Rattle.std.specs.Io.KnownBytes.{Appends, Consumes, IsAtEnd, Keeps}
use Rattle.std.proofs.KnownBytes.{Appends-nil, Appends-trans, Appends-kept, Consumes-nil, Consumes-trans, Consumes-kept}
use Rattle.settle_run.specs.Program.{Work, Step, is_reading, quiet, fresh_work, after, ended, Attempt, gave, again, failed, by_cells, take_bytes, take_read, take_attempt, end_text, settle_text}
use Rattle.settle_run.specs.Streams.{given_by, AppendsSome, TurnedOver, ReadOver, BrokenOff}
use Rattle.settle_run.proofs.Bytes.{no_more, chunks}

-- what holds whether a call failed or not holds where it failed
pub on_err : {T E P : Type 0} (r : Result T E) → P → OnErr r P
on_err (Ok x) p = tt
on_err (Err e) p = p

-- between two writes: a beginning of the bytes was written, and these are left
pub record Writing (written written₂ : Option (List ℕ)) (bytes left : List ℕ) : Type 0 where
  pub some : AppendsSome written written₂ bytes
  pub rest : some.rest ≡ left

abbrev pub none-written : (a : Option (List ℕ)) (bytes : List ℕ) → Writing a a bytes bytes
none-written a bytes = record { some = record { part = []; rest = bytes; front = refl; appended = Appends-nil a }; rest = refl }

-- one write more
pub written_on : (a b c : Option (List ℕ)) (bytes left left₂ : List ℕ) (n : ℕ) → Writing a b bytes left → Appends b c (take n left) → drop n left ≡ left₂ → Writing a c bytes left₂
written_on a b c bytes left left₂ n w p d =
    let s = w.some in
    record {
      some = record {
        part = s.part ++ take n left;
        rest = drop n left;
        front = rw (s.front, w.rest, append_assoc, take-append-drop);
        appended = Appends-trans a b c s.part (take n left) s.appended p;
      };
      rest = d;
    }

pub some-kept : (a b c : Option (List ℕ)) (bytes : List ℕ) → AppendsSome a b bytes → Keeps b c → AppendsSome a c bytes
some-kept a b c bytes s k = record { part = s.part; rest = s.rest; front = s.front; appended = Appends-kept a b c s.part s.appended k }

-- after the end of the program no byte changes anything
pub stays : (w : Work) (bytes : List ℕ) → is_reading w.phase ≡ false → take_bytes by_cells w bytes ≡ quiet w
unfolding take_bytes
stays w [] h = refl
stays w (byte ∷ bytes) h = rw (no_more by_cells w byte h) (stays w bytes h)

-- a read that gave no byte had none
pub gave-none : (n : ℕ) (chunk : List ℕ) → n ≤ length chunk → gave (take n chunk) ≡ gave [] → n ≡ 0
gave-none n chunk h e =
    let none : take n chunk ≡ [] = cc in
    sym (length-take-le n chunk h) ∙ ap length none

pub ended-already : (w : Work) → is_reading w.phase ≡ false → ended w ≡ w
ended-already w h = rw h

-- between two turns: the reader lost some bytes, the work is that of these bytes, with the end of the input after them where the
-- program no longer reads, and what they print was written or waits
pub record Underway (before now : Step) (left left₂ written written₂ : Option (List ℕ)) : Type 0 where
  pub bytes : List ℕ
  pub consumed : Consumes left left₂ bytes
  pub going : is_reading now.work.phase ≡ true → now.work ≡ (take_bytes by_cells before.work bytes).work
  pub over : is_reading now.work.phase ≡ false → now.work ≡ ended (take_bytes by_cells before.work bytes).work
  pub at_end : is_reading now.work.phase ≡ false → is_reading (take_bytes by_cells before.work bytes).work.phase ≡ true → IsAtEnd left₂
  pub text : List ℕ
  pub appended : Appends written written₂ text
  pub printed : text ++ now.text ≡ before.text ++ (take_bytes by_cells before.work bytes).text

pub setting_out : (s : Step) (left written : Option (List ℕ)) → Underway s s left left written written
unfolding take_bytes
setting_out s left written =
    record {
      bytes = [];
      consumed = Consumes-nil left;
      going = λ h. refl;
      over = λ h. sym (ended-already s.work h);
      at_end = λ h k. absurd cc;
      text = [];
      appended = Appends-nil written;
      printed = sym (append-nil s.text);
    }

-- what an attempt that did not fail leaves and prints is what its bytes do; where the program no longer reads, the end of the input may
-- stand behind them, which an attempt tells that gave none
module _ (w : Work) {then : Step} where
  prints : (a : Attempt) → a ≢ failed → then ≡ take_attempt by_cells w a → then.text ≡ (take_bytes by_cells w (given_by a)).text
  unfolding take_attempt take_read take_bytes
  prints (gave []) h e = rw e
  prints (gave (byte ∷ bytes)) h e = rw e
  prints again h e = rw e
  prints failed h e = absurd (h refl)

  pub goes_on : (a : Attempt) → a ≢ failed → then ≡ take_attempt by_cells w a → is_reading then.work.phase ≡ true → then.work ≡ (take_bytes by_cells w (given_by a)).work
  unfolding take_attempt take_read take_bytes
  goes_on (gave []) h e k = let ends = rw e at k in absurd cc
  goes_on (gave (byte ∷ bytes)) h e k = rw e
  goes_on again h e k = rw e
  goes_on failed h e k = absurd (h refl)

  pub stops : (a : Attempt) → a ≢ failed → then ≡ take_attempt by_cells w a → is_reading w.phase ≡ true → is_reading then.work.phase ≡ false
      → then.work ≡ ended (take_bytes by_cells w (given_by a)).work
  unfolding take_attempt take_read take_bytes
  stops (gave []) h e r k = rw (e, r)
  stops (gave (byte ∷ bytes)) h e r k = rw (e, rw e at k)
  stops again h e r k = absurd cc
  stops failed h e r k = absurd (h refl)

  pub stops-at-end : (a : Attempt) → a ≢ failed → then ≡ take_attempt by_cells w a → is_reading w.phase ≡ true → is_reading then.work.phase ≡ false
      → is_reading (take_bytes by_cells w (given_by a)).work.phase ≡ true → a ≡ gave []
  unfolding take_attempt take_read take_bytes
  stops-at-end (gave []) h e r k z = refl
  stops-at-end (gave (byte ∷ bytes)) h e r k z = absurd cc
  stops-at-end again h e r k z = absurd cc
  stops-at-end failed h e r k z = absurd (h refl)

-- one more turn
pub turned_once : {before now then : Step} {left left₁ left₂ written written₁ written₂ : Option (List ℕ)} → is_reading now.work.phase ≡ true
    → Underway before now left left₁ written written₁ → TurnedOver now then left₁ left₂ written₁ written₂
    → Underway before then left left₂ written written₂
turned_once {before} {now} {then} reads u t =
    let a = t.turned.attempt in
    let made = t.turned.made in
    let joined : take_bytes by_cells before.work (u.bytes ++ given_by a) ≡ after (take_bytes by_cells before.work u.bytes).text (take_bytes by_cells now.work (given_by a)) =
    rw (chunks by_cells before.work u.bytes (given_by a), ← u.going reads) in
    record {
      bytes = u.bytes ++ given_by a;
      consumed = Consumes-trans _ _ _ _ _ u.consumed t.consumed;
      going = λ k. rw joined (goes_on now.work a t.went_on made k);
      over = λ k. rw joined (stops now.work a t.went_on made reads k);
      at_end = λ k z. t.at_end (stops-at-end now.work a t.went_on made reads k (rw joined at z));
      text = u.text ++ now.text;
      appended = Appends-trans _ _ _ _ _ u.appended t.appended;
      printed = rw (prints now.work a t.went_on made, joined, ← append_assoc, ← u.printed);
    }

-- the bytes behind a line out of form print nothing
pub unread : (w : Work) (bytes rest : List ℕ) → (is_reading (take_bytes by_cells w bytes).work.phase ≡ true → rest ≡ []) → take_bytes by_cells w (bytes ++ rest) ≡ take_bytes by_cells w bytes
unread w bytes rest h = by_test (is_reading (take_bytes by_cells w bytes).work.phase) refl where
  by_test : (t : Bool) → is_reading (take_bytes by_cells w bytes).work.phase ≡ t → take_bytes by_cells w (bytes ++ rest) ≡ take_bytes by_cells w bytes
  by_test true e = rw (h e, append-nil)
  by_test false e = rw (chunks by_cells w bytes rest, stays (take_bytes by_cells w bytes).work rest e, append-nil)

-- a beginning of a text, behind one that was written whole or before more text
pub some_more : (a b c : Option (List ℕ)) (whole rest : List ℕ) → Appends a b whole → AppendsSome b c rest → AppendsSome a c (whole ++ rest)
some_more a b c whole rest p s =
    record {
      part = whole ++ s.part;
      rest = s.rest;
      front = rw (s.front, append_assoc);
      appended = Appends-trans a b c whole s.part p s.appended;
    }

pub some_of : (a b : Option (List ℕ)) (whole rest : List ℕ) → Appends a b whole → AppendsSome a b (whole ++ rest)
some_of a b whole rest p = record { part = whole; rest = rest; front = refl; appended = p }

pub some-before : (a b : Option (List ℕ)) (text more : List ℕ) → AppendsSome a b text → AppendsSome a b (text ++ more)
some-before a b text more s =
    record {
      part = s.part;
      rest = s.rest ++ more;
      front = rw (s.front, append_assoc);
      appended = s.appended;
    }

-- a turn that failed
pub broken : {before now : Step} {left left₁ left₂ written written₁ written₂ : Option (List ℕ)}
    → Underway before now left left₁ written written₁ → AppendsSome written₁ written₂ now.text → Keeps left₁ left₂
    → BrokenOff before left left₂ written written₂
broken u s k =
    record {
      bytes = u.bytes;
      consumed = Consumes-kept _ _ _ _ u.consumed k;
      begun = subst (AppendsSome _ _) u.printed (some_more _ _ _ _ _ u.appended s);
    }

-- what holds of the bytes that a reader lost and of whatever it has left holds of all that it had
pub all_bytes : (left left₂ : Option (List ℕ)) (bytes : List ℕ) (Over : Type 0) (P : List ℕ → Type 0) → Consumes left left₂ bytes → (Over → IsAtEnd left₂)
    → ((rest : List ℕ) → (Over → rest ≡ []) → P (bytes ++ rest)) → IfSome left P
all_bytes None left₂ bytes Over P c e h = tt
all_bytes (Some x) None bytes Over P c e h = absurd c
all_bytes (Some x) (Some y) bytes Over P c e h = subst P (sym c) (h y e)

-- the whole run, from the first byte on: what was written, and what waits at the end, is what the bytes print that the reader lost,
-- and whatever it has left behind a line out of form prints nothing
module _ (words : List ℕ) (cells : List ℤ) {now : Step} {last : List ℕ} {left left₂ written written₂ : Option (List ℕ)} where
  last_text : (r : ReadOver (quiet (fresh_work words cells)) now left left₂ written written₂) → last ≡ now.text ++ end_text by_cells now.work
      → (rest : List ℕ) → (is_reading (take_bytes by_cells (fresh_work words cells) r.bytes).work.phase ≡ true → rest ≡ []) → r.text ++ last ≡ settle_text by_cells words cells (r.bytes ++ rest)
  unfolding settle_text
  last_text r p rest over = rw (unread (fresh_work words cells) r.bytes rest over, p, r.work, ← append_assoc, r.printed)

  -- all is printed once that is written
  pub settled : (written₃ : Option (List ℕ)) → ReadOver (quiet (fresh_work words cells)) now left left₂ written written₂ → last ≡ now.text ++ end_text by_cells now.work
      → Appends written₂ written₃ last → IfSome left (λ input. Appends written written₃ (settle_text by_cells words cells input))
  settled written₃ r p done =
      all_bytes left left₂ r.bytes _ _ r.consumed r.at_end
      (λ rest over. subst (Appends _ _) (last_text r p rest over) (Appends-trans _ _ _ _ _ r.appended done))

  -- a beginning of it, where that write failed or the turns before it
  pub broken_at_last : (written₃ : Option (List ℕ)) → ReadOver (quiet (fresh_work words cells)) now left left₂ written written₂ → last ≡ now.text ++ end_text by_cells now.work
      → AppendsSome written₂ written₃ last → IfSome left (λ input. AppendsSome written written₃ (settle_text by_cells words cells input))
  broken_at_last written₃ r p begun =
      all_bytes left left₂ r.bytes _ _ r.consumed r.at_end
      (λ rest over. subst (AppendsSome _ _) (last_text r p rest over) (some_more _ _ _ _ _ r.appended begun))

pub broken-before : (words : List ℕ) (cells : List ℤ) {left left₂ written written₂ : Option (List ℕ)}
    → BrokenOff (quiet (fresh_work words cells)) left left₂ written written₂ → IfSome left (λ input. AppendsSome written written₂ (settle_text by_cells words cells input))
unfolding settle_text
broken-before words cells {left = left} {left₂ = left₂} b =
    all_bytes left left₂ b.bytes ⊥ _ b.consumed (λ e. absurd e)
    (λ rest over.
    rw (chunks by_cells (fresh_work words cells) b.bytes rest)
    (some-before _ _ _ _ (some-before _ _ _ _ b.begun)))
