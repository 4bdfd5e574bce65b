use Rattle.copy_forms.proofs.CopyLemmas.{json-copy-ok}
use Rattle.copy_forms.proofs.copies.copy_in_json.Goals as goal

pub returns : goal.returns
returns c = json-copy-ok c.args.head.now c.args.rows.now c.json_copy_text.result c.json_copy_text.ensures
