use Rattle.file_commands.proofs.applying.write_refusal.Goals as goal

pub returns-in-CopyNotRead-clause-written : goal.returns-in-CopyNotRead-clause-written
returns-in-CopyNotRead-clause-written g c = rw (c.in-CopyNotRead.is) c.write_pieces.ensures.written

pub returns-in-DeltaNotRead-clause-written : goal.returns-in-DeltaNotRead-clause-written
returns-in-DeltaNotRead-clause-written g c = rw (c.in-DeltaNotRead.is) c.write_pieces-in-DeltaNotRead.ensures.written

pub returns-in-WrongBase-clause-written : goal.returns-in-WrongBase-clause-written
returns-in-WrongBase-clause-written g c = rw (c.in-WrongBase.is) c.write_numbers.ensures.written

pub returns-in-OlderDelta-clause-written : goal.returns-in-OlderDelta-clause-written
returns-in-OlderDelta-clause-written g c = rw (c.in-OlderDelta.is) c.write_pieces-in-OlderDelta.ensures.written
