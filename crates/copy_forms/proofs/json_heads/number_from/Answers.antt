use Rattle.std.proofs.Common.{ap, option_map, sym, ◌∙◌}
use Rattle.copy_forms.proofs.JsonHeads.{number-by}
use Rattle.copy_forms.proofs.json_heads.number_from.Goals as goal

pub returns-in-Some : goal.returns-in-Some
returns-in-Some c =
    let read = number-by c.args.bytes.now c.split_at.result.0.now c.split_at.result.1.now c.digit_count.result c.digit_count.ensures.within c.digit_count.ensures.before
    c.digit_count.ensures.stop c.split_at.ensures.front c.split_at.ensures.back in
    sym (read ∙ ap (option_map (λ number. (number, c.split_at.result.1.now))) (sym c.in-Some.ensures))

pub returns-in-None : goal.returns-in-None
returns-in-None c =
    let read = number-by c.args.bytes.now c.split_at.result.0.now c.split_at.result.1.now c.digit_count.result c.digit_count.ensures.within c.digit_count.ensures.before
    c.digit_count.ensures.stop c.split_at.ensures.front c.split_at.ensures.back in
    sym (read ∙ ap (option_map (λ number. (number, c.split_at.result.1.now))) (sym c.in-None.ensures))
