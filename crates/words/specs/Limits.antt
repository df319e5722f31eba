-- The bounds of document 01, "The book", and of document 02, request 1, on what the words of a row hold.
use Rattle.std.specs.Prelude.{ℕ}

-- "MPAN, 1,000,000,000,000 to 9,999,999,999,999"
abbrev pub mpan_least : ℕ
mpan_least = 1000000000000

abbrev pub mpan_most : ℕ
mpan_most = 9999999999999

-- "segment in 2 bits (0 unmetered, 1 smart, 2 advanced)"
abbrev pub segment_most : ℕ
segment_most = 2

-- "direction in 1 (0 import, 1 export)"
abbrev pub direction_most : ℕ
direction_most = 1

-- "status in 2 (0 disconnected, 1 de-energised, 2 energised)"
abbrev pub status_most : ℕ
status_most = 2

-- "base unit in 5", "additional unit in 5": the 32 BM Units
abbrev pub unit_most : ℕ
unit_most = 31

-- "load shape category in 6"
abbrev pub category_most : ℕ
category_most = 63

-- "line loss factor (LLF) in 11, thousandths, 500 to 2,000"
abbrev pub llf_least : ℕ
llf_least = 500

abbrev pub llf_most : ℕ
llf_most = 2000

-- document 02, request 1: "an embedded network (0 to 63, 0 for none) and a tariff (0 to 1,023)"
abbrev pub network_most : ℕ
network_most = 63

abbrev pub tariff_most : ℕ
tariff_most = 1023

-- "consumption in bits 0–23 (0 to 10,000,000 Wh)"
abbrev pub consumption_most : ℕ
consumption_most = 10000000

-- "17–20 are ZE, ZE1, ZE2, ZE3": the last quality code
abbrev pub quality_most : ℕ
quality_most = 20

-- "its issue number (1 to 4,294,967,295)"
abbrev pub issue_least : ℕ
issue_least = 1

abbrev pub issue_most : ℕ
issue_most = 4294967295
