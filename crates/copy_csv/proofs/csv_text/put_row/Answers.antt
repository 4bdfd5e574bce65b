use Rattle.std.proofs.Common.{◌≡◌, ◌≤◌, List, ◌++◌, length, take, ap, subst, ◌∙◌, arith}
use Rattle.std.specs.Prelude.{OnOk}
use Rattle.lei_code.specs.Texts.{Text}
use Rattle.item_fields.specs.Sheets.{read_texts}
use Rattle.copy_csv.specs.Csv.{csv_line}
use Rattle.copy_csv.specs.Sheets.{column_count, width}
use Rattle.copy_csv.specs.Sheets as spec
use Rattle.copy_csv.proofs.RecordLemmas.{lent-part}
use Rattle.copy_csv.proofs.WidthLemmas.{column_count-within}
use Rattle.copy_csv.proofs.csv_text.put_row.Goals as goal

pub returns : goal.returns
returns c =
    let xs : List Text = c.args.row.now.texts in
    let full : length xs ≡ width c.args.row.now.sheet = c.sheet.ensures.row.full in
    let count : c.columns.result ≡ column_count c.args.wide c.args.row.now.sheet = c.columns.ensures ∙ ap (column_count c.args.wide) c.sheet.ensures.value in
    let within : column_count c.args.wide c.args.row.now.sheet ≤ width c.args.row.now.sheet = column_count-within c.args.wide c.args.row.now.sheet in
    let shown : read_texts (take c.columns.result c.texts_of-texts.result) ≡ spec.shown_texts c.args.wide c.args.row.now =
    lent-part c.texts_of-texts.result xs c.columns.result (omega arith) c.texts_of-texts.ensures ∙ ap (λ n. take n xs) count in
    let F : List Text → Type 0 = λ l. OnOk c.put_line.result (c.put_line.new.out.items ≡ c.args.out.now.items ++ csv_line l) in
    subst F shown c.put_line.ensures
