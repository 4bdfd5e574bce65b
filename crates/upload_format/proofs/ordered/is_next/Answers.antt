use Rattle.std.proofs.Common.{rules}
use Rattle.upload_format.proofs.OrderedLemmas.{rising_one, rising_push}
use Rattle.upload_format.proofs.ordered.is_next.Goals as goal

pub returns-then-count-eq0 : goal.returns-then-count-eq0
returns-then-count-eq0 c text is = rising_one c.args.fields.now c.args.name.now text (search rules)

pub returns-else-count-eq0 : goal.returns-else-count-eq0
returns-else-count-eq0 c text is = rising_push c.args.fields.now c.args.name.now text c.len-count.ensures.rising (search rules) (search rules)
