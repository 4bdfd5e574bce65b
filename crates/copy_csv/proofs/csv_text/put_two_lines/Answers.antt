use Rattle.std.proofs.Common.{◌≡◌, ◌++◌, List, ℕ, length, sym, ap, ◌∙◌}
use Rattle.lei_code.specs.Texts.{Text}
use Rattle.item_fields.specs.Sheets.{read_texts}
use Rattle.copy_csv.specs.Csv.{csv_line}
use Rattle.copy_csv.specs.Records.{all_quoted}
use Rattle.copy_csv.proofs.RecordLemmas.{csv_line-put, flushed, lent-some}
use Rattle.copy_csv.proofs.csv_text.put_two_lines.Goals as goal

pub returns-clause-lines : goal.returns-clause-lines
returns-clause-lines c =
    let xs : List Text = read_texts c.args.fields.now in
    let all : List ℕ = c.args.out.now.items ++ csv_line xs in
    let cfg : c.from_writer-writer.result.cfg ≡ all_quoted = c.from_writer-writer.ensures.cfg ∙ c.quoting_builder.ensures in
    let same : c.flush.new.self.cfg ≡ all_quoted = c.in-Ok-flush.ensures.setup ∙ c.in-Ok.ensures.setup ∙ cfg in
    let first : c.write_fields.new.self.wtr.inner.items ++ c.write_fields.new.self.wtr.buf ≡ all =
    csv_line-put c.from_writer-writer.result.cfg c.args.out.now.items c.from_writer-writer.result.wtr.inner.items c.from_writer-writer.result.wtr.buf
    _ xs (lent-some c.args.fields.now c.requires.some) cfg
    (ap (λ v. v.items) (c.from_writer-writer.ensures.wtr ∙ c.in_ok-try_take.ensures.value)) c.from_writer-writer.ensures.empty
    (c.in-Ok.ensures.bytes c.from_writer-writer.ensures.fields c.from_writer-writer.ensures.wrote (λ e. cc (sym (ap (λ b. b.style) cfg) ∙ e))) in
    csv_line-put c.flush.new.self.cfg all c.flush.new.self.wtr.inner.items c.flush.new.self.wtr.buf
    c.in-Ok-into_inner.written.items (read_texts c.args.others.now) (lent-some c.args.others.now c.requires.more) same
    (flushed c.flush.new.self.wtr.inner.items c.flush.new.self.wtr.buf _ all c.in-Ok-flush.ensures.bytes c.in-Ok-flush.ensures.pending first)
    c.in-Ok-flush.ensures.pending
    (c.in-Ok-into_inner.ensures.ok ∙ c.in-Ok-write_fields.ensures.bytes (c.in-Ok-flush.ensures.fields ∙ c.in-Ok.ensures.ended)
    (c.in-Ok-flush.ensures.wrote ∙ c.in-Ok.ensures.clean) (λ e. cc (sym (ap (λ b. b.style) same) ∙ e)))

pub returns-clause-begins : goal.returns-clause-begins
returns-clause-begins c =
    let xs : List Text = read_texts c.args.fields.now in
    let all : List ℕ = c.args.out.now.items ++ csv_line xs in
    let cfg : c.from_writer-writer.result.cfg ≡ all_quoted = c.from_writer-writer.ensures.cfg ∙ c.quoting_builder.ensures in
    let first : c.write_fields.new.self.wtr.inner.items ++ c.write_fields.new.self.wtr.buf ≡ all =
    csv_line-put c.from_writer-writer.result.cfg c.args.out.now.items c.from_writer-writer.result.wtr.inner.items c.from_writer-writer.result.wtr.buf
    _ xs (lent-some c.args.fields.now c.requires.some) cfg
    (ap (λ v. v.items) (c.from_writer-writer.ensures.wtr ∙ c.in_ok-try_take.ensures.value)) c.from_writer-writer.ensures.empty
    (c.in-Ok.ensures.bytes c.from_writer-writer.ensures.fields c.from_writer-writer.ensures.wrote (λ e. cc (sym (ap (λ b. b.style) cfg) ∙ e))) in
    c.len-start.ensures ∙ c.get_ref.result.now.ok.0
    ∙ ap (λ v. length v.items) c.get_ref.ensures
    ∙ ap length (flushed c.flush.new.self.wtr.inner.items c.flush.new.self.wtr.buf _ all c.in-Ok-flush.ensures.bytes c.in-Ok-flush.ensures.pending first)
