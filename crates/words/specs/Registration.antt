-- Word 1: how a meter is registered.
use Rattle.std.specs.Prelude.{ℕ, ◌+◌, ◌*◌, ◌/◌, ◌%◌, ◌^◌, Bool, ◌&&◌, ◌||◌, cond, leb, eqb}
use Rattle.words.specs.declared.Registration.{Registration}
use Rattle.words.specs.Limits.{segment_most, direction_most, status_most, unit_most, category_most, llf_least, llf_most, network_most, tariff_most}

-- the number in `width` bits of the word w, from bit `at`
abbrev pub bit_field : ℕ → ℕ → ℕ → ℕ
bit_field w at width = w / 2 ^ at % 2 ^ width

-- "Word 1, from bit 0: segment in 2 bits"
abbrev pub segment_of : ℕ → ℕ
segment_of w = bit_field w 0 2

-- "direction in 1"
abbrev pub direction_of : ℕ → ℕ
direction_of w = bit_field w 2 1

-- "status in 2"
abbrev pub status_of : ℕ → ℕ
status_of w = bit_field w 3 2

-- "base unit in 5"
abbrev pub base_of : ℕ → ℕ
base_of w = bit_field w 5 5

-- "one bit set if there is an additional unit"
abbrev pub flag_of : ℕ → ℕ
flag_of w = bit_field w 10 1

-- "additional unit in 5"
abbrev pub additional_of : ℕ → ℕ
additional_of w = bit_field w 11 5

-- "load shape category in 6"
abbrev pub category_of : ℕ → ℕ
category_of w = bit_field w 16 6

-- "line loss factor (LLF) in 11"
abbrev pub llf_of : ℕ → ℕ
llf_of w = bit_field w 22 11

-- document 02, request 1: "in word 1 bits 33–38 and 39–48", the embedded network and the tariff
abbrev pub network_of : ℕ → ℕ
network_of w = bit_field w 33 6

abbrev pub tariff_of : ℕ → ℕ
tariff_of w = bit_field w 39 10

-- request 1: "the new fields", the network and the tariff, left out of a word and of a registration
unfoldable pub without_charges : ℕ → ℕ
without_charges w = w % 2 ^ 33

unfoldable pub registration_without_charges : Registration → Registration
registration_without_charges r =
    record {
      segment = r.segment;
      direction = r.direction;
      status = r.status;
      base = r.base;
      flag = r.flag;
      additional = r.additional;
      category = r.category;
      llf = r.llf;
      network = 0;
      tariff = 0;
    }

-- "Word 1, from bit 0": the fields of a word, together
unfoldable pub registration_of : ℕ → Registration
registration_of w =
    record {
      segment = segment_of w;
      direction = direction_of w;
      status = status_of w;
      base = base_of w;
      flag = flag_of w;
      additional = additional_of w;
      category = category_of w;
      llf = llf_of w;
      network = network_of w;
      tariff = tariff_of w;
    }

-- the word that has these fields, and 0 in all higher bits
unfoldable pub registration_word : Registration → ℕ
registration_word r =
    r.segment
    + r.direction * 2 ^ 2
    + r.status * 2 ^ 3
    + r.base * 2 ^ 5
    + r.flag * 2 ^ 10
    + r.additional * 2 ^ 11
    + r.category * 2 ^ 16
    + r.llf * 2 ^ 22
    + r.network * 2 ^ 33
    + r.tariff * 2 ^ 39

-- "additional unit in 5 (0 if there is none, any other value then being out of range)"
abbrev pub additional_in_range : ℕ → ℕ → Bool
additional_in_range flag additional = (eqb flag 0 && eqb additional 0) || (eqb flag 1 && leb additional unit_most)

-- each field in its range, as "Word 1" and request 1 list them
unfoldable pub registration_in_range : Registration → Bool
registration_in_range r =
    leb r.segment segment_most
    && leb r.direction direction_most
    && leb r.status status_most
    && leb r.base unit_most
    && additional_in_range r.flag r.additional
    && leb r.category category_most
    && leb llf_least r.llf
    && leb r.llf llf_most
    && leb r.network network_most
    && leb r.tariff tariff_most

-- "All higher bits are 0", now those above the tariff ("well-formed books may now use those bits"); "each used word [..] is one that accepted calls could have written": the well-formed word 1
unfoldable pub is_registration : ℕ → Bool
is_registration w = eqb (w / 2 ^ 49) 0 && registration_in_range (registration_of w)

-- "The unit is the additional one if present, else the base one"
unfoldable pub unit_of : ℕ → ℕ
unit_of w = cond (eqb (flag_of w) 1) (additional_of w) (base_of w)
