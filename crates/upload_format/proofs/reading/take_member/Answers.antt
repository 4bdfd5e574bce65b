use Rattle.std.proofs.Common.{ap, ◌∙◌, option_map}
use Rattle.serde_json.proofs.Views.{view-lookup}
use Rattle.serde_json.specs.Find.{get_member}
use Rattle.serde_json.specs.View.{members_view, view}
use Rattle.upload_format.proofs.Members.{get_member-removed}
use Rattle.upload_format.proofs.reading.take_member.Goals as goal

pub returns-clause-value : goal.returns-clause-value
returns-clause-value c = ap (option_map view) c.remove.ensures.value ∙ view-lookup c.args.name.now c.args.members.now.entries

pub returns-clause-others : goal.returns-clause-others
returns-clause-others c = λ other apart.
    ap (λ es. get_member other (members_view es)) c.remove.ensures.entries ∙ get_member-removed c.args.name.now other c.args.members.now.entries apart
