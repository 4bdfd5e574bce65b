use Rattle.std.proofs.Common.{sym, ap, ◌∙◌}
use Rattle.serde_json.specs.View.{members_view}
use Rattle.upload_format.specs.Bodies.{text_members}
use Rattle.upload_format.proofs.Loops.{fields_step, names_step, names_with, rising_step, with_front}
use Rattle.upload_format.proofs.reading.read_fields.Goals as goal

pub with-requires : goal.with-requires
with-requires c =
    rw (c.as_str.ensures.value)
    (rising_step c.args.members.entries c.loop-name.fields c.in-Some.name c.in-Some.value c.as_str-in-loop-name.result.now c.next.new.self c.len.ensures.ordered
    (ap (names_with c.loop-name.fields) (sym c.in-Some.ensures.steps) ∙ c.loop-name.invariant.names))

pub loop-name-preserved : goal.loop-name-preserved
loop-name-preserved c =
    rw (c.in_ok-fields-2.ensures, c.as_str.ensures.value, c.as_str-in-loop-name.ensures)
    (record {
      texts = fields_step c.loop-name.fields c.in-Some.name c.in-Some.value c.in_ok-text.text c.next.new.self c.in_ok-text.ensures
          ∙ (ap (λ es. with_front c.loop-name.fields (text_members (members_view es))) (sym c.in-Some.ensures.steps) ∙ c.loop-name.invariant.texts);
      names = names_step c.loop-name.fields c.in-Some.name c.in-Some.value c.in_ok-text.text c.next.new.self
          ∙ (ap (names_with c.loop-name.fields) (sym c.in-Some.ensures.steps) ∙ c.loop-name.invariant.names);
    })
