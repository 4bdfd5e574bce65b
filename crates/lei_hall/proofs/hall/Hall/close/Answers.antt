use Rattle.std.proofs.Common.{rules}
use Rattle.lei_hall.proofs.Closing.{refused, seen_still}
use Rattle.lei_hall.proofs.hall.Hall.close.Goals as goal

pub returns-clause-closes : goal.returns-clause-closes
returns-clause-closes g c = record {
  legal = search rules;
  history = search rules;
  limits = search rules;
  seen = seen_still _ _ _ c.office_in-office.ensures.office c.close.ensures.seen;
  mine = search rules;
  others = search rules;
  faults = search rules;
  stretches = search rules;
  apart = search rules;
  refuses = refused c.args.passes.items _ _ c.close.ensures.told (search rules) (search rules);
}
