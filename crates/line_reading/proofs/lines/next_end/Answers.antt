use Rattle.std.proofs.Common.{List, ℕ, Some, None, subst}
use Rattle.memchr.specs.Find.{IsFirstByte, is_byte}
use Rattle.line_reading.proofs.Walking.{next_end, no_end}
use Rattle.line_reading.proofs.lines.next_end.Goals as goal

pub returns-in-Some-clause-found : goal.returns-in-Some-clause-found
returns-in-Some-clause-found c unseen =
    let F : List ℕ → Type 0 = λ bytes. IsFirstByte (is_byte 10) bytes (Some c.in-Some.at) in
    next_end c.args.rest.now c.args.seen c.in-Some.at c.requires unseen (subst F c.split_at.ensures.back c.in-Some.ensures)

pub returns-in-None-clause-none : goal.returns-in-None-clause-none
returns-in-None-clause-none c unseen =
    let F : List ℕ → Type 0 = λ bytes. IsFirstByte (is_byte 10) bytes None in
    no_end c.args.rest.now c.args.seen unseen (subst F c.split_at.ensures.back c.in-None.ensures)
