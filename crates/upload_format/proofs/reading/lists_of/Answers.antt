use Rattle.std.proofs.Common.{refl, ◌∙◌}
use Rattle.item_fields.specs.declared.fields.Kind.{Kind}
use Rattle.upload_format.specs.Bodies.{list_name}
use Rattle.upload_format.proofs.reading.lists_of.Goals as goal

pub returns-clause-relationships : goal.returns-clause-relationships
returns-clause-relationships c = c.take_member-relationships.ensures.value ∙ c.take_member-records.ensures.others (list_name Kind.Relation) refl

pub returns-clause-exceptions : goal.returns-clause-exceptions
returns-clause-exceptions c =
    c.take_member-exceptions.ensures.value ∙ (c.take_member-relationships.ensures.others (list_name Kind.Exception) refl ∙ c.take_member-records.ensures.others (list_name Kind.Exception) refl)
