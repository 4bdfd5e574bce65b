use Rattle.std.proofs.Common.{◌∙◌}
use Rattle.lei_shapes.proofs.MomentLemmas.{moment_text-by, is_written, read_moment-text}
use Rattle.lei_shapes.proofs.moments.Moment.text.Goals as goal

pub returns-clause-bytes : goal.returns-clause-bytes
returns-clause-bytes c = c.write_moment.ensures ∙ moment_text-by c.args.self _ _ _ _ _ c.march_count.ensures.value c.date_of-year.ensures.year c.date_of-year.ensures.month c.date_of-year.ensures.day c.second_of_day.ensures.value

pub returns-clause-civil : goal.returns-clause-civil
returns-clause-civil c = rw (returns-clause-bytes c) (is_written c.args.self c.march_count.ensures.moment)

pub returns-clause-reads_back : goal.returns-clause-reads_back
returns-clause-reads_back c = rw (returns-clause-bytes c) (read_moment-text c.args.self c.march_count.ensures.moment)
