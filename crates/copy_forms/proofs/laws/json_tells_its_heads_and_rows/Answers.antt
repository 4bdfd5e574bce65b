use Rattle.copy_forms.proofs.CopyLemmas.{copy-same, delta-same}
use Rattle.copy_forms.proofs.laws.json_tells_its_heads_and_rows.Goals as goal

pub returns : goal.returns
returns c = record { copies = copy-same; deltas = delta-same }
