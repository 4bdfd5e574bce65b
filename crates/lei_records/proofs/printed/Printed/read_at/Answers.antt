use Rattle.std.proofs.Common.{rules}
use Rattle.lei_records.proofs.PrintedLemmas.{read_at-place}
use Rattle.lei_records.proofs.printed.Printed.read_at.Goals as goal

pub returns : goal.returns
returns c = read_at-place _ c.args.self.now _ c.args.place _ (search rules) c.self.invariant c.requires.first c.requires.last (search rules)
