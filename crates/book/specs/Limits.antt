-- The bounds of document 01, "The book", on the settings.
use Rattle.std.specs.Prelude.{ℕ, ℤ, pos, neg_ℤ}

-- "at most 65,536": meters in one book
abbrev pub meters_most : ℕ
meters_most = 65536

-- "24 weights (thousandths, 0 to 1,000)"
abbrev pub classes : ℕ
classes = 24

abbrev pub weight_most : ℕ
weight_most = 1000

-- "64 load shapes (0 to 10,000,000 Wh, or 4,294,967,295 for missing)"
abbrev pub categories : ℕ
categories = 64

abbrev pub shape_most : ℕ
shape_most = 10000000

abbrev pub shape_missing : ℕ
shape_missing = 4294967295

-- "the tolerance g (0 to 1,000)"
abbrev pub tolerance_most : ℕ
tolerance_most = 1000

-- "the Take, signed, −5,000,000,000 to 5,000,000,000"
abbrev pub take_least : ℤ
take_least = neg_ℤ (pos 5000000000)

abbrev pub take_most : ℤ
take_most = pos 5000000000

-- "with a flag that it is set": the numbers of the flag; no other number is one
abbrev pub take_flag_unset : ℕ
take_flag_unset = 0

abbrev pub take_flag_set : ℕ
take_flag_set = 1
