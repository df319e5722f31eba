-- The text that document 01 prints for case 1.
use Rattle.std.specs.Prelude.{ℕ, List, [], ◌∷◌, ◌++◌, ℤ, pos, replicate}
use Rattle.allocation.specs.declared.Allocated.{Allocated}

-- lines one after the other
unfoldable pub joined : List (List ℕ) → List ℕ
joined [] = []
joined (line ∷ lines) = line ++ joined lines

-- case 1: U 1, W 300,000, three meters with an actual reading, and no losses
abbrev pub case_one : Allocated
case_one =
    record {
      number = 0;
      unallocated = pos 1;
      weighted = pos 300000;
      actual = 3;
      estimated = 0;
      defaulted = 0;
      idle = 0;
      droppings = replicate 32 (pos 0);
    }

abbrev pub case_one_volumes : List ℤ
case_one_volumes = pos 101 ∷ pos 100 ∷ pos 100 ∷ replicate 29 (pos 0)

abbrev pub case_one_text : List (List ℕ)
case_one_text =
    -- status=0
    (115 ∷ 116 ∷ 97 ∷ 116 ∷ 117 ∷ 115 ∷ 61 ∷ 48 ∷ 10 ∷ []) ∷
    -- actual=3
    (97 ∷ 99 ∷ 116 ∷ 117 ∷ 97 ∷ 108 ∷ 61 ∷ 51 ∷ 10 ∷ []) ∷
    -- estimated=0
    (101 ∷ 115 ∷ 116 ∷ 105 ∷ 109 ∷ 97 ∷ 116 ∷ 101 ∷ 100 ∷ 61 ∷ 48 ∷ 10 ∷ []) ∷
    -- defaulted=0
    (100 ∷ 101 ∷ 102 ∷ 97 ∷ 117 ∷ 108 ∷ 116 ∷ 101 ∷ 100 ∷ 61 ∷ 48 ∷ 10 ∷ []) ∷
    -- idle=0
    (105 ∷ 100 ∷ 108 ∷ 101 ∷ 61 ∷ 48 ∷ 10 ∷ []) ∷
    -- unallocated=1
    (117 ∷ 110 ∷ 97 ∷ 108 ∷ 108 ∷ 111 ∷ 99 ∷ 97 ∷ 116 ∷ 101 ∷ 100 ∷ 61 ∷ 49 ∷ 10 ∷ []) ∷
    -- weighted=300000
    (119 ∷ 101 ∷ 105 ∷ 103 ∷ 104 ∷ 116 ∷ 101 ∷ 100 ∷ 61 ∷ 51 ∷ 48 ∷ 48 ∷ 48 ∷ 48 ∷ 48 ∷ 10 ∷ []) ∷
    -- volume=0,101
    (118 ∷ 111 ∷ 108 ∷ 117 ∷ 109 ∷ 101 ∷ 61 ∷ 48 ∷ 44 ∷ 49 ∷ 48 ∷ 49 ∷ 10 ∷ []) ∷
    -- volume=1,100
    (118 ∷ 111 ∷ 108 ∷ 117 ∷ 109 ∷ 101 ∷ 61 ∷ 49 ∷ 44 ∷ 49 ∷ 48 ∷ 48 ∷ 10 ∷ []) ∷
    -- volume=2,100
    (118 ∷ 111 ∷ 108 ∷ 117 ∷ 109 ∷ 101 ∷ 61 ∷ 50 ∷ 44 ∷ 49 ∷ 48 ∷ 48 ∷ 10 ∷ []) ∷
    []
