-- `field_count` counts the parts between commas, which are the fields.
use mathlib.Core.Path.{◌∙◌}
use Rattle.std.proofs.Common.{rules}
use borrow.Author.Tests.{tests}
use Rattle.std.proofs.lemmas.Iterator.Consumers.{count_from_yields_List}
use Rattle.std.proofs.lemmas.Iterator.Splits.{YieldsList-from_slice_split}
use Rattle.period_file.proofs.FieldsOf.{is_comma, parts-counted}
use Rattle.period_file.proofs.fields.field_count.Goals as goal

pub returns : goal.returns
returns c =
    count_from_yields_List c.split.result _ c.count.ensures.ran
    (YieldsList-from_slice_split _ is_comma c.args.text.now c.split.ensures.rest c.split.ensures.done c.split.ensures.closure (λ x b q k. search (rules, tests)))
    ∙ parts-counted c.args.text.now
