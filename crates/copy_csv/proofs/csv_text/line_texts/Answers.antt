use Rattle.std.proofs.Common.{◌≡◌, ◌-◌, List, false, length, take, drop, sym, ap, subst, ◌∙◌, arith}
use Rattle.std.specs.Prelude.{IfOk, flat_map}
use Rattle.lei_code.specs.Texts.{Text}
use Rattle.item_fields.specs.Sheets.{read_texts}
use Rattle.copy_csv.specs.Csv.{after_comma, csv_fields_text}
use Rattle.copy_csv.specs.Sheets.{column_count, left_out, shown_texts, width}
use Rattle.copy_csv.proofs.RecordLemmas.{lent-part, lent-rest}
use Rattle.copy_csv.proofs.csv_text.line_texts.Goals as goal

pub returns-then-narrow-full-clause-start : goal.returns-then-narrow-full-clause-start
returns-then-narrow-full-clause-start c =
    let xs : List Text = c.args.row.now.texts in
    let all : length xs ≡ width c.args.row.now.sheet = c.sheet.ensures.row.full in
    let narrow : c.columns-narrow.result ≡ column_count false c.args.row.now.sheet = c.columns-narrow.ensures ∙ ap (column_count false) c.sheet.ensures.value in
    let full : c.width-full.result ≡ width c.args.row.now.sheet = c.width-full.ensures ∙ ap width c.sheet-2.ensures.value in
    let some = c.if-narrow-full.true in
    let front : read_texts (take c.columns-narrow.result c.texts_of-texts.result) ≡ shown_texts false c.args.row.now =
    lent-part c.texts_of-texts.result xs c.columns-narrow.result (omega arith) c.texts_of-texts.ensures ∙ ap (λ n. take n xs) narrow in
    let F : List Text → Type 0 = λ l. IfOk c.two_texts.result (λ texts. texts.0 ≡ csv_fields_text l) in
    subst F front c.two_texts.ensures.line

pub returns-then-narrow-full-clause-tail : goal.returns-then-narrow-full-clause-tail
returns-then-narrow-full-clause-tail c =
    let xs : List Text = c.args.row.now.texts in
    let all : length xs ≡ width c.args.row.now.sheet = c.sheet.ensures.row.full in
    let narrow : c.columns-narrow.result ≡ column_count false c.args.row.now.sheet = c.columns-narrow.ensures ∙ ap (column_count false) c.sheet.ensures.value in
    let full : c.width-full.result ≡ width c.args.row.now.sheet = c.width-full.ensures ∙ ap width c.sheet-2.ensures.value in
    let back : read_texts (take (c.width-full.result - c.columns-narrow.result) (drop c.columns-narrow.result c.texts_of-texts.result))
    ≡ left_out false c.args.row.now =
    lent-rest c.texts_of-texts.result xs c.columns-narrow.result c.width-full.result (full ∙ sym all) c.if-narrow-full.true c.texts_of-texts.ensures
    ∙ ap (λ n. drop n xs) narrow in
    let F : List Text → Type 0 = λ l. IfOk c.two_texts.result (λ texts. texts.1 ≡ flat_map after_comma l) in
    subst F back c.two_texts.ensures.further
