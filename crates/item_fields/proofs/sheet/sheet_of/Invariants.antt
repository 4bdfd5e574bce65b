use Rattle.std.proofs.Common.{◌≡◌, drop, take}
use Rattle.std.specs.Option.{option_copied}
use Rattle.item_fields.specs.Fields.{field_count}
use Rattle.item_fields.specs.Sheets.{first_unknown, read_texts, texts_by_place}
use Rattle.item_fields.proofs.sheet.sheet_of.Given as goal

-- the fields from this index on were placed
abbrev pub invariant-loop-index : goal.invariant-loop-index
invariant-loop-index l = record {
  texts : take (field_count l.kind) (read_texts l.texts) ≡ texts_by_place l.kind (drop l.index l.fields);
  unknown : option_copied l.unknown ≡ first_unknown l.rules l.kind (drop l.index l.fields);
}
