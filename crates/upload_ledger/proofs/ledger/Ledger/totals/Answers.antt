use Rattle.std.proofs.Common.{arith}
use Rattle.upload_ledger.specs.History.{is_publication}
use Rattle.upload_ledger.proofs.KeptLemmas.{places-few}
use Rattle.upload_ledger.proofs.ledger.Ledger.totals.Goals as goal

pub overflow_cast-result : goal.overflow_cast-result
overflow_cast-result c =
    omega (arith, places-few is_publication c.self.inside.entries.items c.self.inside.publications.items c.self.invariant.publications c.self.invariant.few, c.len-2.ensures, c.self.inside.publications.ok.0)
