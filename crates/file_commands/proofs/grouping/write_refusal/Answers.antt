use Rattle.file_commands.proofs.grouping.write_refusal.Goals as goal

pub returns-in-LeiCopyNotRead-clause-written : goal.returns-in-LeiCopyNotRead-clause-written
returns-in-LeiCopyNotRead-clause-written g c = rw (c.in-LeiCopyNotRead.is) c.write_pieces.ensures.written

pub returns-in-RrCopyNotRead-clause-written : goal.returns-in-RrCopyNotRead-clause-written
returns-in-RrCopyNotRead-clause-written g c = rw (c.in-RrCopyNotRead.is) c.write_pieces-in-RrCopyNotRead.ensures.written

pub returns-in-OtherPublication-clause-written : goal.returns-in-OtherPublication-clause-written
returns-in-OtherPublication-clause-written g c = rw (c.in-OtherPublication.is) c.write_numbers.ensures.written

pub returns-in-LeiUnknown-clause-written : goal.returns-in-LeiUnknown-clause-written
returns-in-LeiUnknown-clause-written g c = rw (c.in-LeiUnknown.is) c.write_pieces-in-LeiUnknown.ensures.written
