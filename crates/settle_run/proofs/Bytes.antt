-- The bytes of the input one by one, and chunks of it.
use Rattle.std.proofs.Common.{◌≡◌, ℕ, ◌+◌, ◌<◌, false, List, [], ◌∷◌, ◌++◌, length, get_or, take, refl, append_assoc, append-nil}
use Rattle.std.proofs.lemmas.List.{take_more}
use Rattle.settle_run.specs.Program.{Work, quiet, is_reading, after, Way, take_byte, take_bytes}

module _ (way : Way) where
  -- after the end of the program a byte does nothing
  pub no_more : (w : Work) (byte : ℕ) → is_reading w.phase ≡ false → take_byte way w byte ≡ quiet w
  unfolding take_byte
  no_more w byte h = rw h

  -- reads of any size mean the same: the bytes of two chunks are taken as those of one
  pub chunks : (w : Work) (xs ys : List ℕ) → take_bytes way w (xs ++ ys) ≡ after (take_bytes way w xs).text (take_bytes way (take_bytes way w xs).work ys)
  unfolding take_bytes
  chunks w [] ys = refl
  chunks w (x ∷ xs) ys = rw (chunks (take_byte way w x).work xs ys, append_assoc)

  by_one : (w : Work) (byte : ℕ) → take_bytes way w (byte ∷ []) ≡ take_byte way w byte
  unfolding take_bytes
  by_one w byte = rw (append-nil (take_byte way w byte).text)

  -- the bytes below one place, and the byte there
  pub one_taken : (w : Work) (bytes : List ℕ) (at : ℕ) → at < length bytes
      → take_bytes way w (take (at + 1) bytes)
      ≡ after (take_bytes way w (take at bytes)).text (take_byte way (take_bytes way w (take at bytes)).work (get_or bytes at 0))
  one_taken w bytes at h =
      let byte = get_or bytes at 0 in
      rw (take_more bytes at 0, chunks w (take at bytes) (byte ∷ []), by_one (take_bytes way w (take at bytes)).work byte)
