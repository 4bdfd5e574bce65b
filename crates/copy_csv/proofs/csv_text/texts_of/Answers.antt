use Rattle.std.proofs.Common.{◌≡◌, ◌<◌, ◌≤◌, ℕ, List, length, refl, ap, ◌∙◌, arith}
use Rattle.std.proofs.lemmas.List.{length-set}
use Rattle.lei_code.specs.Texts.{Text}
use Rattle.copy_csv.specs.Sheets.{width}
use Rattle.copy_csv.proofs.RecordLemmas.{lent-all, lent-step, width-most}
use Rattle.copy_csv.proofs.csv_text.texts_of.Goals as goal

pub loop-index-init : goal.loop-index-init
loop-index-init c = (refl, refl)

pub loop-index-preserved : goal.loop-index-preserved
loop-index-preserved c =
    let xs : List Text = c.args.row.now.texts in
    let index : ℕ = c.loop-index.index in
    let full : length xs ≡ width c.args.row.now.sheet = c.sheet.ensures.row.full in
    let end : c.width-index-end.result ≡ width c.args.row.now.sheet = c.width-index-end.ensures ∙ ap width c.sheet.ensures.value in
    let most : width c.args.row.now.sheet ≤ 32 = width-most c.args.row.now.sheet in
    let before : index < c.width-index-end.result = c.loop-index-test.true in
    let room : length c.loop-index.texts ≡ 32 = c.loop-index.invariant.1 in (
      lent-step c.loop-index.texts xs index c.text_bytes.result (omega arith) (omega arith) c.text_bytes.ensures.value c.loop-index.invariant.0,
      length-set c.loop-index.texts index c.text_bytes.result ∙ room,
    )

pub returns : goal.returns
returns c =
    let xs : List Text = c.args.row.now.texts in
    let full : length xs ≡ width c.args.row.now.sheet = c.sheet.ensures.row.full in
    let end : c.width-index-end.result ≡ width c.args.row.now.sheet = c.width-index-end.ensures ∙ ap width c.sheet.ensures.value in
    let after : c.width-index-end.result ≤ c.loop-index.index = c.loop-index-test.false in
    let within : c.loop-index.index ≤ c.width-index-end.result = c.loop-index.auto.index-end in
    lent-all c.loop-index.texts xs c.loop-index.index (omega arith) c.loop-index.invariant.0
