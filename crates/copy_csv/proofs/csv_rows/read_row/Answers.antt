use Rattle.std.proofs.Common.{◌≡◌, ◌≤◌, Some, sym, ap, ◌∙◌}
use Rattle.copy_csv.specs.CsvReading.{line_from}
use Rattle.copy_csv.specs.Sheets.{column_count, width}
use Rattle.copy_csv.specs.Taking.{read_with_rest}
use Rattle.copy_csv.proofs.LineLemmas.{row-filled, row-none, row-read}
use Rattle.copy_csv.proofs.WidthLemmas.{column_count-within, length-filled}
use Rattle.copy_csv.proofs.csv_rows.read_row.Goals as goal

pub with_absent_texts-requires : goal.with_absent_texts-requires
with_absent_texts-requires c =
    let read : Some (c.in-Some.texts, c.line.new.self) ≡ line_from (column_count c.args.wide c.args.sheet) c.args.reader.now =
    ap (λ t. read_with_rest t c.line.new.self) (sym c.in-Some.is) ∙ c.in_ok-texts.ensures.read ∙ ap (λ n. line_from n c.args.reader.now) c.columns.ensures in
    let long = (row-read (column_count c.args.wide c.args.sheet) c.in-Some.texts c.args.reader.now c.line.new.self read).1 in
    let within : column_count c.args.wide c.args.sheet ≤ width c.args.sheet = column_count-within c.args.wide c.args.sheet in
    rw (c.width.ensures, long) within

pub of-requires : goal.of-requires
of-requires c =
    let read : Some (c.in-Some.texts, c.line.new.self) ≡ line_from (column_count c.args.wide c.args.sheet) c.args.reader.now =
    ap (λ t. read_with_rest t c.line.new.self) (sym c.in-Some.is) ∙ c.in_ok-texts.ensures.read ∙ ap (λ n. line_from n c.args.reader.now) c.columns.ensures in
    length-filled c.args.sheet c.args.wide c.in-Some.texts c.in_ok-all-in-Some.all c.width.result
    (row-read (column_count c.args.wide c.args.sheet) c.in-Some.texts c.args.reader.now c.line.new.self read).1 c.width.ensures c.in_ok-all-in-Some.ensures

pub returns-in_ok-all-in-Some-clause-read : goal.returns-in_ok-all-in-Some-clause-read
returns-in_ok-all-in-Some-clause-read c =
    let read : Some (c.in-Some.texts, c.line.new.self) ≡ line_from (column_count c.args.wide c.args.sheet) c.args.reader.now =
    ap (λ t. read_with_rest t c.line.new.self) (sym c.in-Some.is) ∙ c.in_ok-texts.ensures.read ∙ ap (λ n. line_from n c.args.reader.now) c.columns.ensures in
    row-filled c.args.sheet c.args.wide c.in-Some.texts c.in_ok-all-in-Some.all c.width.result c.of.result c.args.reader.now c.line.new.self
    (row-read (column_count c.args.wide c.args.sheet) c.in-Some.texts c.args.reader.now c.line.new.self read) c.in_ok-all-in-Some.ensures
    c.of.ensures.value c.of.ensures.row

pub returns-in-None-clause-read : goal.returns-in-None-clause-read
returns-in-None-clause-read c =
    row-none c.args.sheet c.args.wide c.args.reader.now c.line.new.self
    (ap (λ t. read_with_rest t c.line.new.self) (sym c.in-None.is) ∙ c.in_ok-texts.ensures.read ∙ ap (λ n. line_from n c.args.reader.now) c.columns.ensures)
