-- `field_at` takes one of the parts between commas, or an empty text past the last.
use mathlib.Core.Path.{◌∙◌, refl, ap}
use mathlib.Core.List.{[]}
use borrow.Author.Rules.{rules}
use borrow.Author.Tests.{tests}
use Rattle.std.specs.Option.{unwrap_or}
use Rattle.std.proofs.lemmas.Iterator.Consumers.{nth_from_yields_List}
use Rattle.std.proofs.lemmas.Iterator.Splits.{YieldsList-from_slice_split}
use Rattle.period_file.proofs.FieldsOf.{is_comma, part-is-field, part-or-empty}
use Rattle.period_file.proofs.fields.field_at.Goals as goal

pub returns : goal.returns
returns c =
    rw c.unwrap_or.ensures
    (part-or-empty c.nth.result _ refl
    ∙ ap (λ found. unwrap_or found [])
    (nth_from_yields_List c.nth.result _ c.args.place c.nth.ensures.ran
    (YieldsList-from_slice_split _ is_comma c.args.text.now c.split.ensures.rest c.split.ensures.done c.split.ensures.closure (λ x b q k. search (rules, tests))))
    ∙ part-is-field c.args.text.now c.args.place)
