use Rattle.std.proofs.Common.{ap, refl, ◌∙◌}
use Rattle.item_fields.specs.Fields.{names_of}
use Rattle.copy_csv.proofs.SheetLemmas.{name-at, name-bound}
use Rattle.copy_csv.proofs.sheets.name_at.Goals as goal

pub bounds-fields-place : goal.bounds-fields-place
bounds-fields-place c =
    name-bound c.args.sheet c.fields.result.now c.args.place (c.fields.ensures.names ∙ ap names_of c.kind_of.ensures) c.requires.first c.requires.last

pub returns : goal.returns
returns c =
    name-at c.args.sheet c.fields.result.now c.args.place _ refl (c.fields.ensures.names ∙ ap names_of c.kind_of.ensures) c.requires.first c.requires.last
