use Rattle.std.proofs.Common.{◌≢◌, rules}
use Rattle.lei_shapes.specs.declared.lists.Category.{Category}
use Rattle.lei_shapes.specs.Lists.{category_text, categories}
use Rattle.lei_shapes.proofs.ListLemmas.{value_named-none}
use Rattle.lei_shapes.proofs.lists.Category.read.Goals as goal

pub returns-in_default-clause-value : goal.returns-in_default-clause-value
returns-in_default-clause-value c =
    let apart : (v : Category) → category_text v ≢ c.args.text.now = search rules in
    value_named-none category_text categories c.args.text.now apart
