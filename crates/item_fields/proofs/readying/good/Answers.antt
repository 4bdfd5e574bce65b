use Rattle.std.proofs.Common.{subst, sym, ◌∙◌}
use Rattle.std.proofs.lemmas.List.{length-map}
use Rattle.item_fields.specs.Sheets.{read_texts}
use Rattle.item_fields.specs.Items.{IsRowOfKind}
use Rattle.item_fields.proofs.RowLemmas.{IsRowOfKind-printed_at}
use Rattle.item_fields.proofs.readying.good.Goals as goal

pub item_of-requires : goal.item_of-requires
item_of-requires c =
    subst (IsRowOfKind c.args.kind) (sym c.requires.row)
    (IsRowOfKind-printed_at c.args.rules c.args.kind (read_texts c.args.texts.now) (length-map c.args.texts.now (λ text. text.now) ∙ c.requires.places) c.requires.present c.requires.shaped c.requires.checked)
