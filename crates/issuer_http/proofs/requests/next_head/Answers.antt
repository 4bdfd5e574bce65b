use Rattle.std.proofs.Common.{subst}
use Rattle.http_heads.specs.Requests.{IsRequestRead}
use Rattle.http_heads.specs.declared.head.HeadRead.{HeadRead}
use Rattle.issuer_http.proofs.requests.next_head.Goals as goal

pub returns-in-Whole-clause-read : goal.returns-in-Whole-clause-read
returns-in-Whole-clause-read c enough =
    let R : HeadRead → Type 0 = λ read. IsRequestRead c.args.bytes.now read in
    (HeadRead.Whole c.in-Whole.head, subst R c.in-Whole.is c.read_whole.ensures, c.whole.ensures.read enough)
