use Rattle.std.proofs.Common.{◌≡◌, take}
use Rattle.serde_json.specs.View.{items_view}
use Rattle.search_queries.specs.Answers.{name_items}
use Rattle.search_queries.proofs.texts.name_values.Given as goal

abbrev pub invariant-loop-name : goal.invariant-loop-name
invariant-loop-name l = items_view l.values.items ≡ name_items (take l.name-index l.names)
