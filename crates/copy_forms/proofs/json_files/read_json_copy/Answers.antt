use Rattle.std.proofs.Common.{◌<◌, ◌^◌, arith, length}
use Rattle.copy_forms.proofs.JsonCopies.{copy-taken, copy-unread}
use Rattle.copy_forms.proofs.JsonSteps.{gives-none, gives-ok}
use Rattle.copy_forms.proofs.json_files.read_json_copy.Goals as goal

pub returns-clause-found : goal.returns-clause-found
returns-clause-found c = gives-ok _ c.copy_from.result _ _ c.copy_from.ensures (λ read is. copy-taken c.args.sheet c.args.bytes.now _ _ is)

pub returns-clause-only : goal.returns-clause-only
returns-clause-only c = λ unread head rows is.
    let short : length c.args.bytes.now < 2 ^ 64 = omega (arith, c.byte_count-count.ensures, c.byte_count-count.type_inv) in
    copy-unread c.args.sheet c.args.bytes.now head rows short (gives-none _ c.copy_from.result _ c.copy_from.ensures unread) is
