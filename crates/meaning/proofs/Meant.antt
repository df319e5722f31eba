-- Making a list of calls from a fresh book gives what the list means: the settings, the meters and a well-formed book, for every slice and every list, refused calls included. By the calls one after the other, each of which keeps `Means`.
use Prim.Native.Nat.{ℕ}
use mathlib.Core.Path.{◌≡◌, refl}
use mathlib.Core.List.{List, [], ◌∷◌, ◌++◌, append-nil, append_assoc}
use lib.Seq.{take-nil}
use Rattle.book.specs.Rows.{capacity, rows_of}
use Rattle.book.specs.Book.{Book, fresh_book, used_rows}
use Rattle.book.proofs.BookFormed.{fresh-book-formed}
use Rattle.calls.specs.declared.Call.{Call}
use Rattle.calls.specs.declared.Call.TheVariants.{Register, Record, Set}
use Rattle.calls.specs.Calls.{call_outcome, book_after}
use Rattle.cells.proofs.Permuted.{none}
use Rattle.meaning.specs.Meaning.{gather, mpan_registered, different, meant_mpans, meant_meters}
use Rattle.meaning.proofs.Different.{different-apart, take-apart, apart-different}
use Rattle.meaning.proofs.MeantSettings.{settings-fresh}
use Rattle.meaning.proofs.Means.{Means}
use Rattle.meaning.proofs.SettingStep.{setting-step}
use Rattle.meaning.proofs.RegisterStep.{register-step}
use Rattle.meaning.proofs.ReadingStep.{reading_step}

fresh-means : (words : List ℕ) → Means words (fresh_book words) []
unfolding used_rows rows_of meant_meters meant_mpans different gather
fresh-means words =
    record {
      formed = fresh-book-formed words;
      size = refl;
      settings-meant = settings-fresh (capacity words);
      meters-meant = rw (take-nil (capacity words)) none;
    }

-- one more call
pub call-means : (words : List ℕ) (b : Book) (calls : List Call) (c : Call) → Means words b calls → Means words (call_outcome b c).book (calls ++ c ∷ [])
unfolding call_outcome
call-means words b calls (Register m r) means = register-step words b calls means m r
call-means words b calls (Record m r) means = reading_step words b calls means m r
call-means words b calls (Set x) means = setting-step words b calls means x

-- more calls
pub calls-mean : (words : List ℕ) (b : Book) (calls more : List Call) → Means words b calls → Means words (book_after b more) (calls ++ more)
unfolding book_after
calls-mean words b calls [] means = rw (append-nil calls) means
calls-mean words b calls (c ∷ more) means =
    rw (append_assoc calls (c ∷ []) more) at (calls-mean words (call_outcome b c).book (calls ++ c ∷ []) more (call-means words b calls c means))

-- a whole list from a fresh book
pub list-meant : (words : List ℕ) (calls : List Call) → Means words (book_after (fresh_book words) calls) calls
list-meant words calls = calls-mean words (fresh_book words) [] calls (fresh-means words)

-- the MPANs that a list means are different
pub mpans-different : (n : ℕ) (calls : List Call) → different (meant_mpans n calls) ≡ meant_mpans n calls
unfolding meant_mpans
mpans-different n calls = apart-different _ (take-apart n _ (different-apart (gather mpan_registered calls)))
