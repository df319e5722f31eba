-- What a list means for the settings, with one more call at its end: an in-range call that sets a setting replaces that setting, and no other call bears on them.
use Prim.Native.Nat.{ℕ}
use mathlib.Core.Path.{◌≡◌, refl, sym, ◌∙◌, fun_ext}
use mathlib.Core.Bool.{true, cond, or-true}
use mathlib.Core.List.{List, [], ◌∷◌, ◌++◌, map}
use native.Mathlib.Omega.{arith}
use borrow.Author.Tests.{eqb-true, eqb-false, eq-eqb, ne_eqb}
use lib.Dec.{eqb}
use lib.ListN.{length, get_or, set, length-set}
use lib.Seq.{take-nil, get_or-set_same, get_or-set_other}
use Rattle.words.proofs.Tests.{by-test}
use Rattle.book.specs.declared.Settings.{Settings}
use Rattle.book.specs.declared.Setting.{Setting}
use Rattle.book.specs.declared.Setting.TheVariants.{Shape, Weight, Tolerance, GroupTake}
use Rattle.book.specs.Limits.{classes, categories, take_flag_unset, take_flag_set}
use Rattle.book.specs.Settings.{fresh_settings, with_meters, setting_in_range, with_setting}
use Rattle.calls.specs.declared.Call.{Call}
use Rattle.calls.specs.declared.Call.TheVariants.{Set}
use Rattle.cells.specs.Cells.{count_from}
use Rattle.cells.proofs.Counting.{counted-length, counted-at, counted-list}
use Rattle.meaning.specs.Meaning.{only, gather, last_or, is_any, setting_set, settings_set, weight_set, shape_set, tolerance_set, take_given, meant_weight, meant_shape, meant_tolerance, meant_take, meant_take_set, mpan_registered, different, meant_mpans, meant_settings}
use Rattle.meaning.proofs.Lists.{gather-end, gather-nothing, last-kept, last-gathered, any_append}

-- one entry of a table replaced
set-counted : (f g : ℕ → ℕ) (n k v : ℕ) → g k ≡ v → ((i : ℕ) → (i ≡ k → ⊥) → g i ≡ f i) → set (map f (count_from 0 n)) k v ≡ map g (count_from 0 n)
set-counted f g n k v here there =
    let table = map f (count_from 0 n) in
    counted-list g n (set table k v) 0 (length-set table k v ∙ counted-length f n)
    (λ i h.
    by-test (eqb i k)
    (λ q.
    let e = eqb-true i k q in
    rw e (get_or-set_same table k v 0 (omega (arith, counted-length f n)) ∙ sym here))
    (λ q.
    let e = eqb-false i k q in
    get_or-set_other table k i v 0 e ∙ counted-at f n i 0 h ∙ sym (there i e)))

-- a table of settings: for each number the last one set, or the fresh one
unfoldable table_of : (ℕ → ℕ) → (ℕ → Setting → List ℕ) → List Setting → ℕ → ℕ
table_of fresh f xs i = last_or (fresh i) (gather (f i) xs)

module _ (fresh : ℕ → ℕ) (f : ℕ → Setting → List ℕ) (xs : List Setting) (x : Setting) where
  table_kept : ((i : ℕ) → f i x ≡ []) → table_of fresh f (xs ++ x ∷ []) ≡ table_of fresh f xs
  unfolding table_of
  table_kept h = fun_ext (λ i. last-kept (fresh i) (f i) xs x (h i))

  table-set : (n k v : ℕ) → ((i : ℕ) → f i x ≡ only (eqb k i) v) → map (table_of fresh f (xs ++ x ∷ [])) (count_from 0 n) ≡ set (map (table_of fresh f xs) (count_from 0 n)) k v
  unfolding table_of only
  table-set n k v h =
      sym (set-counted (table_of fresh f xs) (table_of fresh f (xs ++ x ∷ [])) n k v
      (last-gathered (fresh k) (f k) xs x v (h k ∙ rw (eq-eqb k k refl)))
      (λ i e. last-kept (fresh i) (f i) xs x (h i ∙ rw (ne_eqb k i (λ q. e (sym q))))))

-- the settings that a list of settings set comes to, with the number of meters
abbrev fresh_weight : ℕ → ℕ
fresh_weight class = get_or fresh_settings.weights class 0

abbrev fresh_shape : ℕ → ℕ
fresh_shape category = get_or fresh_settings.shapes category 0

unfoldable settings_from : ℕ → List Setting → Settings
settings_from n xs =
    record {
      meters = n;
      weights = map (table_of fresh_weight weight_set xs) (count_from 0 classes);
      shapes = map (table_of fresh_shape shape_set xs) (count_from 0 categories);
      tolerance = last_or fresh_settings.tolerance (gather tolerance_set xs);
      take_set = cond (is_any (gather take_given xs)) take_flag_set take_flag_unset;
      take_wh = last_or fresh_settings.take_wh (gather take_given xs);
    }

meant-from : (capacity : ℕ) (calls : List Call) → meant_settings capacity calls ≡ settings_from (length (meant_mpans capacity calls)) (settings_set calls)
unfolding meant_settings meant_weight meant_shape meant_tolerance meant_take meant_take_set settings_from table_of
meant-from capacity calls = refl

-- one more setting set
settings-end : (n : ℕ) (xs : List Setting) (x : Setting) → settings_from n (xs ++ x ∷ []) ≡ with_setting x (settings_from n xs)
unfolding settings_from with_setting weight_set shape_set tolerance_set take_given is_any
settings-end n xs (Shape k wh) =
    let x = Shape k wh in
    rw (table_kept fresh_weight weight_set xs x (λ i. refl), table-set fresh_shape shape_set xs x categories k wh (λ i. refl), gather-nothing tolerance_set xs x refl, gather-nothing take_given xs x refl)
settings-end n xs (Weight k thousandths) =
    let x = Weight k thousandths in
    rw (table-set fresh_weight weight_set xs x classes k thousandths (λ i. refl), table_kept fresh_shape shape_set xs x (λ i. refl), gather-nothing tolerance_set xs x refl, gather-nothing take_given xs x refl)
settings-end n xs (Tolerance g) =
    let x = Tolerance g in
    rw (table_kept fresh_weight weight_set xs x (λ i. refl), table_kept fresh_shape shape_set xs x (λ i. refl), last-gathered fresh_settings.tolerance tolerance_set xs x g refl, gather-nothing take_given xs x refl)
settings-end n xs (GroupTake wh) =
    let x = GroupTake wh in
    let any : is_any (gather take_given (xs ++ x ∷ [])) ≡ true = rw (gather-end take_given xs x, any_append (gather take_given xs) (wh ∷ [])) (or-true (is_any (gather take_given xs))) in
    rw (table_kept fresh_weight weight_set xs x (λ i. refl), table_kept fresh_shape shape_set xs x (λ i. refl), gather-nothing tolerance_set xs x refl, last-gathered fresh_settings.take_wh take_given xs x wh refl, any)

-- the settings that a list means, with one more call at its end
module _ (capacity : ℕ) (calls : List Call) where
  pub mpans-kept : (c : Call) → mpan_registered c ≡ [] → meant_mpans capacity (calls ++ c ∷ []) ≡ meant_mpans capacity calls
  unfolding meant_mpans
  mpans-kept c h = rw (gather-nothing mpan_registered calls c h)

  pub settings-set : (x : Setting) → setting_in_range x ≡ true → meant_settings capacity (calls ++ Set x ∷ []) ≡ with_setting x (meant_settings capacity calls)
  unfolding mpan_registered setting_set only
  settings-set x h =
      let c = Set x in
      let set_last : settings_set (calls ++ c ∷ []) ≡ settings_set calls ++ x ∷ [] = gather-end setting_set calls c ∙ rw h in
      rw (meant-from capacity (calls ++ c ∷ []), meant-from capacity calls, mpans-kept c refl, set_last) (settings-end (length (meant_mpans capacity calls)) (settings_set calls) x)

  -- a call that sets no setting
  pub settings-kept : (c : Call) → setting_set c ≡ [] → meant_settings capacity (calls ++ c ∷ []) ≡ with_meters (length (meant_mpans capacity (calls ++ c ∷ []))) (meant_settings capacity calls)
  unfolding settings_from
  settings-kept c h =
      let kept : settings_set (calls ++ c ∷ []) ≡ settings_set calls = gather-nothing setting_set calls c h in
      rw (meant-from capacity (calls ++ c ∷ []), meant-from capacity calls, kept)

-- lists with the same settings set and the same meters
pub settings-same : (capacity : ℕ) (calls moved : List Call) → settings_set calls ≡ settings_set moved → meant_mpans capacity calls ≡ meant_mpans capacity moved → meant_settings capacity calls ≡ meant_settings capacity moved
settings-same capacity calls moved h k = rw (meant-from capacity calls, meant-from capacity moved, h, k)

-- the empty list means the fresh settings
pub settings-fresh : (capacity : ℕ) → fresh_settings ≡ meant_settings capacity []
unfolding meant_settings meant_weight meant_shape meant_tolerance meant_take meant_take_set meant_mpans gather last_or is_any different count_from
settings-fresh capacity = rw (take-nil capacity)
