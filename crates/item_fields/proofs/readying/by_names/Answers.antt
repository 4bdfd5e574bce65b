use Rattle.std.proofs.Common.{sym, ap, ◌∙◌, take}
use Rattle.std.proofs.lemmas.List.{take-map}
use Rattle.std.specs.Option.{option_copied}
use Rattle.item_fields.specs.Fields.{field_count}
use Rattle.item_fields.specs.Sheets.{read_texts}
use Rattle.item_fields.proofs.RowLemmas.{bad_by_name, readied_as-by_place, unknown_name-first}
use Rattle.item_fields.proofs.readying.by_names.Goals as goal

pub returns-in-None : goal.returns-in-None
returns-in-None c =
    let texts = c.sheet_of-sheet.result.texts in
    let same = ap (λ n. read_texts (take n texts)) c.field_count.ensures ∙ (sym (take-map (λ text. text.now) (field_count c.args.kind) texts) ∙ c.sheet_of-sheet.ensures.texts) in
    readied_as-by_place c.args.rules c.args.kind c.args.fields.now _ c.by_presence.result
    (unknown_name-first c.args.rules c.args.kind c.args.fields.now c.len-rising.ensures.rising ∙ sym c.sheet_of-sheet.ensures.unknown ∙ ap option_copied c.in-None.is) same c.by_presence.ensures

pub returns-in-Some : goal.returns-in-Some
returns-in-Some c =
    bad_by_name c.args.rules c.args.kind c.args.fields.now _ c.bad.result
    (unknown_name-first c.args.rules c.args.kind c.args.fields.now c.len-rising.ensures.rising ∙ (sym c.sheet_of-sheet.ensures.unknown ∙ ap option_copied c.in-Some.is)) c.bad.ensures
