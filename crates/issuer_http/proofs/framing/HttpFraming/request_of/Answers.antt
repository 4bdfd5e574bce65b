use Rattle.std.proofs.Common.{sym, ◌∙◌}
use Rattle.http_heads.proofs.Reading.{read_of}
use Rattle.issuer_http.proofs.Fronts.{reads_head, reads_request}
use Rattle.issuer_http.proofs.framing.HttpFraming.request_of.Goals as goal

pub returns-then-not-is_there : goal.returns-then-not-is_there
returns-then-not-is_there c =
    reads_head c.args.held.now c.args.head c.requires (sym c.is_there.ensures ∙ c.if-not-is_there.true)

pub read_or_refused-asked-requires-clause-read : goal.read_or_refused-asked-requires-clause-read
read_or_refused-asked-requires-clause-read c =
    read_of c.args.held.now c.args.head c.requires (sym c.is_there.ensures ∙ c.if-not-is_there.false)

pub returns : goal.returns
returns c =
    reads_request c.args.held.now c.args.head c.read_or_refused-asked.result c.end_of-ends.result c.requires
    (sym c.is_there.ensures ∙ c.if-not-is_there.false) c.read_or_refused-asked.ensures c.end_of-ends.ensures
