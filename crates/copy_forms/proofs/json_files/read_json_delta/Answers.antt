use Rattle.std.proofs.Common.{◌<◌, ◌^◌, arith, length}
use Rattle.copy_forms.proofs.JsonDeltas.{delta-taken, delta-unread}
use Rattle.copy_forms.proofs.JsonSteps.{gives-none, gives-ok}
use Rattle.copy_forms.proofs.json_files.read_json_delta.Goals as goal

pub returns-clause-found : goal.returns-clause-found
returns-clause-found c = gives-ok _ c.delta_from.result _ _ c.delta_from.ensures (λ read is. delta-taken c.args.sheet c.args.bytes.now _ _ is)

pub returns-clause-only : goal.returns-clause-only
returns-clause-only c = λ unread head changes is.
    let short : length c.args.bytes.now < 2 ^ 64 = omega (arith, c.byte_count-count.ensures, c.byte_count-count.type_inv) in
    delta-unread c.args.sheet c.args.bytes.now head changes short (gives-none _ c.delta_from.result _ c.delta_from.ensures unread) is
