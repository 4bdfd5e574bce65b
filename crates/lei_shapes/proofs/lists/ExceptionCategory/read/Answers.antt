use Rattle.std.proofs.Common.{◌≢◌, rules}
use Rattle.lei_shapes.specs.declared.lists.ExceptionCategory.{ExceptionCategory}
use Rattle.lei_shapes.specs.Lists.{exception_category_text, exception_categories}
use Rattle.lei_shapes.proofs.ListLemmas.{value_named-none}
use Rattle.lei_shapes.proofs.lists.ExceptionCategory.read.Goals as goal

pub returns-in_default-clause-value : goal.returns-in_default-clause-value
returns-in_default-clause-value c =
    let apart : (v : ExceptionCategory) → exception_category_text v ≢ c.args.text.now = search rules in
    value_named-none exception_category_text exception_categories c.args.text.now apart
