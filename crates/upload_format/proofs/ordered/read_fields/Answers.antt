use Rattle.std.proofs.Common.{ap, option_map, rules, subst, sym, IsTrue}
use Rattle.json.specs.Find.{NextMember}
use Rattle.serde_json.specs.Read.{of_members}
use Rattle.upload_format.specs.Ordered.{members_with_texts}
use Rattle.upload_format.proofs.OrderedLemmas.{fields_end, fields_more}
use Rattle.upload_format.proofs.ordered.read_fields.Goals as goal

pub loop-name-init : goal.loop-name-init
loop-name-init c ms at = record {
  rest = ms;
  at = at;
  value = ap (λ fields. of_members ms (members_with_texts fields)) (sym c.in_ok-fields.ensures);
  flat = λ flat. flat;
}

pub loop-name-preserved : goal.loop-name-preserved
loop-name-preserved c ms at =
    let so = c.loop-name.invariant ms at in
    let next = c.in-Some.ensures.value so.rest so.at in
    let passed : IsTrue c.is_next.result = search rules in
    rw c.in_ok-fields-2.ensures
    (fields_more ms c.loop-name.members c.next.new.self c.loop-name.fields c.in-Some.name.now c.in-Some-as_str.text.now next.0 next.1 so next.2
    (c.in-Some-as_str.ensures next.0 next.3) next.4 (c.is_next.ensures c.in-Some-as_str.text.now passed))

pub returns : goal.returns
returns c ms at =
    let so = c.loop-name.invariant ms at in
    fields_end ms c.loop-name.members c.loop-name.fields so
    (subst (λ next. NextMember c.loop-name.members (option_map (λ m. (m.0.now, m.1)) next) c.next.new.self) c.in_default.is c.next.ensures.value so.rest so.at)
