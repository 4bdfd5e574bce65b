use Rattle.std.proofs.Common.{◌≡◌, map}
use Rattle.std.specs.Map.{keys_of}
use Rattle.std.specs.Prelude.{string_bytes}
use Rattle.serde_json.specs.View.{members_view}
use Rattle.upload_format.specs.Bodies.{text_members}
use Rattle.upload_format.proofs.Loops.{names_with, with_front}
use Rattle.upload_format.proofs.reading.read_fields.Given as goal

-- the fields so far, followed by those of the members that are left, are those of all members
abbrev pub invariant-loop-name : goal.invariant-loop-name
invariant-loop-name l = record {
  texts : with_front l.fields (text_members (members_view l.name-iterator)) ≡ text_members (members_view l.fn.members.entries);
  names : names_with l.fields l.name-iterator ≡ map string_bytes (keys_of l.fn.members.entries);
}
