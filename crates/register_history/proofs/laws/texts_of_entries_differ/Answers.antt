use Rattle.register_history.proofs.TextsDiffer.{texts-differ}
use Rattle.register_history.proofs.laws.texts_of_entries_differ.Goals as goal

pub returns : goal.returns
returns c = texts-differ
