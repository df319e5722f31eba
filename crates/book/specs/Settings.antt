-- "Settings, held in a record by value".
use Rattle.std.specs.Prelude.{ℕ, Bool, not, ◌&&◌, ◌||◌, leb, ltb, eqb, ℤ, pos, nat_abs, set, replicate}
use Rattle.std.specs.Int.Signed.{le_z}
use Rattle.std.specs.List.{list_all}
use Rattle.refusals.specs.Causes.{refuse, accepted, argument_out_of_range}
use Rattle.book.specs.declared.Settings.{Settings}
use Rattle.book.specs.declared.Setting.{Setting}
use Rattle.book.specs.declared.Setting.TheVariants.{Shape, Weight, Tolerance, GroupTake}
use Rattle.book.specs.Limits.{classes, weight_most, categories, shape_most, shape_missing, tolerance_most, take_least, take_most, take_flag_unset, take_flag_set}

-- "A fresh book has 0 meters, all weights 0, all shapes missing, g = 1,000, no Take"
abbrev pub fresh_settings : Settings
fresh_settings =
    record {
      meters = 0;
      weights = replicate classes 0;
      shapes = replicate categories shape_missing;
      tolerance = tolerance_most;
      take_set = take_flag_unset;
      take_wh = pos 0;
    }

-- "24 weights (thousandths, 0 to 1,000)"
abbrev pub is_weight : ℕ → Bool
is_weight thousandths = leb thousandths weight_most

-- "64 load shapes (0 to 10,000,000 Wh, or 4,294,967,295 for missing)"
abbrev pub is_shape : ℕ → Bool
is_shape wh = leb wh shape_most || eqb wh shape_missing

-- "the tolerance g (0 to 1,000)"
abbrev pub is_tolerance : ℕ → Bool
is_tolerance g = leb g tolerance_most

-- "the Take, signed, −5,000,000,000 to 5,000,000,000"
abbrev pub is_take : ℤ → Bool
is_take wh = le_z take_least wh && le_z wh take_most

-- "with a flag that it is set (value 0 while unset)": any other flag is ill formed, whatever the value
unfoldable pub take_formed : ℕ → ℤ → Bool
take_formed flag wh = (eqb flag take_flag_unset && eqb (nat_abs wh) 0) || (eqb flag take_flag_set && is_take wh)

-- "a flag that it is set"
abbrev pub take_is_set : Settings → Bool
take_is_set s = eqb s.take_set take_flag_set

-- "each setting is one that accepted calls could have written"
unfoldable pub settings_formed : Settings → Bool
settings_formed s =
    list_all is_weight s.weights
    && list_all is_shape s.shapes
    && is_tolerance s.tolerance
    && take_formed s.take_set s.take_wh

-- the settings with another number of meters
abbrev pub with_meters : ℕ → Settings → Settings
with_meters n s =
    record {
      meters = n;
      weights = s.weights;
      shapes = s.shapes;
      tolerance = s.tolerance;
      take_set = s.take_set;
      take_wh = s.take_wh;
    }

-- "Shape, weight, tolerance, Take: replace that setting; a shape may be set back to missing"
unfoldable pub with_setting : Setting → Settings → Settings
with_setting (Shape category wh) s =
    record {
      meters = s.meters;
      weights = s.weights;
      shapes = set s.shapes category wh;
      tolerance = s.tolerance;
      take_set = s.take_set;
      take_wh = s.take_wh;
    }
with_setting (Weight class thousandths) s =
    record {
      meters = s.meters;
      weights = set s.weights class thousandths;
      shapes = s.shapes;
      tolerance = s.tolerance;
      take_set = s.take_set;
      take_wh = s.take_wh;
    }
with_setting (Tolerance g) s =
    record {
      meters = s.meters;
      weights = s.weights;
      shapes = s.shapes;
      tolerance = g;
      take_set = s.take_set;
      take_wh = s.take_wh;
    }
with_setting (GroupTake wh) s =
    record {
      meters = s.meters;
      weights = s.weights;
      shapes = s.shapes;
      tolerance = s.tolerance;
      take_set = take_flag_set;
      take_wh = wh;
    }

-- "an argument outside its range above", of a setting to be replaced
abbrev pub setting_in_range : Setting → Bool
setting_in_range (Shape category wh) = ltb category categories && is_shape wh
setting_in_range (Weight class thousandths) = ltb class classes && is_weight thousandths
setting_in_range (Tolerance g) = is_tolerance g
setting_in_range (GroupTake wh) = is_take wh

-- the cause for which a setting is not replaced in a well-formed book
unfoldable pub setting_cause : Setting → ℕ
setting_cause x = refuse (not (setting_in_range x)) argument_out_of_range accepted
