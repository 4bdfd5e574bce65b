use Rattle.std.specs.Prelude.{IsTrue}
use Rattle.register_judge.proofs.ChainLemmas.{take-each}
use Rattle.register_judge.proofs.laws.items_keep_what_each_record_has.Goals as goal

pub returns : goal.returns
returns c test = take-each (λ row. IsTrue (test row))
