use Rattle.std.proofs.lemmas.Bool.{false≢true}
use Rattle.upload_format.proofs.Values.{value_of-read, value_of-refused}
use Rattle.upload_format.proofs.reading.read_value.Goals as goal

pub returns-in-Ok : goal.returns-in-Ok
returns-in-Ok c = value_of-read c.args.body.now _ c.in-Ok.ensures.ok.0 c.in-Ok.ensures.ok.1

pub returns-else-is_memory : goal.returns-else-is_memory
returns-else-is_memory c =
    value_of-refused c.args.body.now (c.in-Err.ensures.err (λ memory. false≢true (c.if-is_memory.ensures.1 memory)))
