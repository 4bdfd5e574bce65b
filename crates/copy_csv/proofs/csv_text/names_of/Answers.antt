use Rattle.std.proofs.Common.{◌≡◌, ◌<◌, ◌≤◌, ℕ, List, length, take, refl, sym, ap, ◌∙◌, arith}
use Rattle.std.proofs.lemmas.List.{length-set}
use Rattle.lei_code.specs.Texts.{Text}
use Rattle.copy_csv.specs.Sheets.{column_names, width}
use Rattle.item_fields.specs.Sheets.{read_texts}
use Rattle.copy_csv.proofs.LineLemmas.{column_names-full}
use Rattle.copy_csv.proofs.RecordLemmas.{lent-all, lent-step, width-most}
use Rattle.copy_csv.proofs.csv_text.names_of.Goals as goal

pub loop-index-init : goal.loop-index-init
loop-index-init c = (refl, refl)

pub loop-index-preserved : goal.loop-index-preserved
loop-index-preserved c =
    let xs : List Text = column_names c.args.sheet in
    let index : ℕ = c.loop-index.index in
    let full : length xs ≡ width c.args.sheet = column_names-full c.args.sheet in
    let end : c.width-index-end.result ≡ width c.args.sheet = c.width-index-end.ensures in
    let most : width c.args.sheet ≤ 32 = width-most c.args.sheet in
    let before : index < c.width-index-end.result = c.loop-index-test.true in
    let room : length c.loop-index.names ≡ 32 = c.loop-index.invariant.1 in (
      lent-step c.loop-index.names xs index c.as_bytes.result (omega arith) (omega arith) (c.as_bytes.ensures.value ∙ c.name_at.ensures)
          c.loop-index.invariant.0,
      length-set c.loop-index.names index c.as_bytes.result ∙ room,
    )

pub returns : goal.returns
returns c =
    let xs : List Text = column_names c.args.sheet in
    let full : length xs ≡ width c.args.sheet = column_names-full c.args.sheet in
    let end : c.width-index-end.result ≡ width c.args.sheet = c.width-index-end.ensures in
    let after : c.width-index-end.result ≤ c.loop-index.index = c.loop-index-test.false in
    let within : c.loop-index.index ≤ c.width-index-end.result = c.loop-index.auto.index-end in
    ap (λ n. read_texts (take n c.loop-index.names)) (sym full) ∙ lent-all c.loop-index.names xs c.loop-index.index (omega arith) c.loop-index.invariant.0
