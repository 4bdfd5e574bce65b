use Rattle.std.proofs.Common.{rules}
use Rattle.std.specs.Prelude.{string_bytes}
use Rattle.lei_records.proofs.FieldTextLemmas.{ends_more, has_room, seen_more}
use Rattle.lei_records.proofs.field_texts.FieldTexts.push.Goals as goal

pub bounds-self-inside-self-inside : goal.bounds-self-inside-self-inside
bounds-self-inside-self-inside c = has_room c.self.inside.count c.self.inside.ends _ _ c.self.invariant.0 c.self.view_is c.requires

pub invariant_of-self-2 : goal.invariant_of-self-2
invariant_of-self-2 c =
    let room = has_room c.self.inside.count c.self.inside.ends _ _ c.self.invariant.0 c.self.view_is c.requires in
    ends_more c.self.inside.count c.self.inside.ends (string_bytes c.self.inside.text) c.args.text.now (string_bytes c.push_str.new.self) c.in_ok-end.end
    c.utf8.text c.self.invariant.1 (search rules) (search rules) (search rules)

pub returns-clause-ok : goal.returns-clause-ok
returns-clause-ok c =
    let room = has_room c.self.inside.count c.self.inside.ends _ _ c.self.invariant.0 c.self.view_is c.requires in
    seen_more c.self.inside.count c.self.inside.ends (string_bytes c.self.inside.text) c.args.text.now (string_bytes c.push_str.new.self) c.in_ok-end.end _
    c.self.invariant.1 (search rules) (search rules) (search rules) c.self.view_is
