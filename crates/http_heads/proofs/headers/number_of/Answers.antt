use Rattle.std.proofs.Common.{rules}
use Rattle.http_heads.proofs.Numbers.{digits_text, ten_read}
use Rattle.http_heads.proofs.headers.number_of.Goals as goal

pub unreachable-requires : goal.unreachable-requires
unreachable-requires c = c.in-Err.ensures.cases.0 (digits_text c.args.digits.now c.requires.digits)

pub unreachable-requires-in-Err-parse : goal.unreachable-requires-in-Err-parse
unreachable-requires-in-Err-parse c =
    search (rules, c.in-Ok.ensures.cases.0, c.in-Err-parse.is, ten_read c.in-Ok.text.now c.parse.result c.parse.ensures.value.0)
