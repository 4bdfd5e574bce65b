use Rattle.copy_forms.proofs.CopyLemmas.{json-delta-ok}
use Rattle.copy_forms.proofs.copies.delta_in_json.Goals as goal

pub returns : goal.returns
returns c = json-delta-ok c.args.head.now c.args.changes.now c.json_delta_text.result c.json_delta_text.ensures
