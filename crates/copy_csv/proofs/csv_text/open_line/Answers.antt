use Rattle.std.proofs.Common.{◌++◌, ap, ◌∙◌}
use Rattle.item_fields.specs.Sheets.{read_texts}
use Rattle.copy_csv.specs.Csv.{csv_line}
use Rattle.copy_csv.proofs.RecordLemmas.{lent-some, csv_line-open, csv_line-nonempty}
use Rattle.copy_csv.proofs.csv_text.open_line.Goals as goal

pub overflow_sub-len : goal.overflow_sub-len
overflow_sub-len c =
    csv_line-nonempty c.put_line.new.out.items (read_texts c.args.fields.now) c.len.result (lent-some c.args.fields.now c.requires)
    (c.len.ensures ∙ c.put_line.new.out.ok.0) (c.in_ok-put_line.ensures ∙ ap (λ l. l ++ csv_line (read_texts c.args.fields.now)) c.in_ok-line.ensures.items)

pub returns : goal.returns
returns c =
    c.from.ensures ∙ c.truncate.ensures.items
    ∙ csv_line-open c.put_line.new.out.items (read_texts c.args.fields.now) c.len.result (lent-some c.args.fields.now c.requires)
    (c.len.ensures ∙ c.put_line.new.out.ok.0) (c.in_ok-put_line.ensures ∙ ap (λ l. l ++ csv_line (read_texts c.args.fields.now)) c.in_ok-line.ensures.items)
