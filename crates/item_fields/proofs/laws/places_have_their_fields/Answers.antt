use Rattle.std.proofs.Common.{refl}
use Rattle.std.specs.Prelude.{IsTrue}
use Rattle.std.specs.List.{list_all}
use Rattle.item_fields.specs.declared.fields.Kind.{Kind}
use Rattle.item_fields.specs.Fields.{exception_fields, field_has_name, fields, relation_fields}
use Rattle.item_fields.specs.Fields.{named_places}
use Rattle.item_fields.proofs.laws.places_have_their_fields.Goals as goal

named : (kind : Kind) → IsTrue (list_all (field_has_name kind) (named_places kind))
unfolding fields relation_fields exception_fields
named Kind.Record = refl
named Kind.Relation = refl
named Kind.Exception = refl

pub returns : goal.returns
returns c = named
