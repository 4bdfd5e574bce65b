use Rattle.std.proofs.Common.{◌≡◌, drop}
use Rattle.std.specs.List.{list_any}
use Rattle.std.specs.Str.{bytes_eq}
use Rattle.item_fields.proofs.sheet.search.Given as goal

-- the name is that of a field in the rest if and only if it is that of any field
abbrev pub invariant-loop-index : goal.invariant-loop-index
invariant-loop-index l = list_any (λ field. bytes_eq field.0.now l.name) (drop l.index l.table) ≡ list_any (λ field. bytes_eq field.0.now l.name) l.table
