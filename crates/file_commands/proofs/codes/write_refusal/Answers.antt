use Rattle.file_commands.proofs.codes.write_refusal.Goals as goal

pub returns-in-CheckDigits-clause-written : goal.returns-in-CheckDigits-clause-written
returns-in-CheckDigits-clause-written g c = rw (c.in-CheckDigits.is) c.write_pieces-in-CheckDigits.ensures.written
