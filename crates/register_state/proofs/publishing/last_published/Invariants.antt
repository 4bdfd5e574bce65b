use Rattle.std.proofs.Common.{◌≡◌, [], drop, filter}
use Rattle.upload_ledger.specs.History.{is_publication}
use Rattle.register_state.proofs.publishing.last_published.Given as goal

abbrev pub invariant-loop-index : goal.invariant-loop-index
invariant-loop-index l = filter is_publication (drop l.index l.entries) ≡ []
