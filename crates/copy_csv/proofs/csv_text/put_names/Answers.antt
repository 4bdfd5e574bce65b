use Rattle.std.proofs.Common.{◌≡◌, ◌≤◌, List, ◌++◌, length, take, ap, subst, ◌∙◌, arith}
use Rattle.std.specs.Prelude.{OnOk}
use Rattle.lei_code.specs.Texts.{Text}
use Rattle.item_fields.specs.Sheets.{read_texts}
use Rattle.copy_csv.specs.Csv.{csv_line}
use Rattle.copy_csv.specs.Sheets.{column_count, column_names, names_shown, width}
use Rattle.copy_csv.proofs.LineLemmas.{column_names-full}
use Rattle.copy_csv.proofs.RecordLemmas.{lent-part}
use Rattle.copy_csv.proofs.WidthLemmas.{column_count-within}
use Rattle.copy_csv.proofs.csv_text.put_names.Goals as goal

pub returns : goal.returns
returns c =
    let xs : List Text = column_names c.args.sheet in
    let full : length xs ≡ width c.args.sheet = column_names-full c.args.sheet in
    let count : c.columns.result ≡ column_count c.args.wide c.args.sheet = c.columns.ensures in
    let within : column_count c.args.wide c.args.sheet ≤ width c.args.sheet = column_count-within c.args.wide c.args.sheet in
    let lent : read_texts (take (length xs) c.names_of-names.result) ≡ xs =
    ap (λ n. read_texts (take n c.names_of-names.result)) full ∙ c.names_of-names.ensures in
    let shown : read_texts (take c.columns.result c.names_of-names.result) ≡ names_shown c.args.wide c.args.sheet =
    lent-part c.names_of-names.result xs c.columns.result (omega arith) lent ∙ ap (λ n. take n xs) count in
    let F : List Text → Type 0 = λ l. OnOk c.put_line.result (c.put_line.new.out.items ≡ c.args.out.now.items ++ csv_line l) in
    subst F shown c.put_line.ensures
