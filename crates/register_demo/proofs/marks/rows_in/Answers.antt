use Rattle.std.proofs.Common.{◌∙◌, ◌-◌, ap, length}
use Rattle.memchr.specs.Find.{is_byte}
use Rattle.memchr.proofs.lemmas.CallerLemmas.{length-places}
use Rattle.register_demo.proofs.marks.rows_in.Goals as goal

pub returns : goal.returns
returns c = c.saturating_sub.ensures ∙ ap (λ n. n - 1) (c.count.ensures ∙ ap length c.memchr_iter.ensures.value ∙ length-places (is_byte 10) c.args.text.now)
