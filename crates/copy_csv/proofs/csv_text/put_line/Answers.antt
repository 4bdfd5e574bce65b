use Rattle.std.proofs.Common.{◌≡◌, ap, sym, ◌∙◌}
use Rattle.copy_csv.specs.Records.{all_quoted}
use Rattle.item_fields.specs.Sheets.{read_texts}
use Rattle.copy_csv.proofs.RecordLemmas.{csv_line-put, lent-some}
use Rattle.copy_csv.proofs.csv_text.put_line.Goals as goal

pub returns : goal.returns
returns c =
    let cfg : c.from_writer-writer.result.cfg ≡ all_quoted = c.from_writer-writer.ensures.cfg ∙ c.quoting_builder.ensures in
    csv_line-put c.from_writer-writer.result.cfg c.args.out.now.items c.from_writer-writer.result.wtr.inner.items c.from_writer-writer.result.wtr.buf
    c.in-Ok-into_inner.written.items (read_texts c.args.fields.now) (lent-some c.args.fields.now c.requires) cfg
    (ap (λ v. v.items) (c.from_writer-writer.ensures.wtr ∙ c.in_ok-try_take.ensures.value)) c.from_writer-writer.ensures.empty
    (c.in-Ok-into_inner.ensures.ok ∙ c.in-Ok.ensures.bytes c.from_writer-writer.ensures.fields c.from_writer-writer.ensures.wrote
    (λ e. cc (sym (ap (λ b. b.style) cfg) ∙ e)))
