use Rattle.http_heads.proofs.RouteTexts.{route_plain}
use Rattle.http_heads.proofs.asking.asked_of.Goals as goal

pub of-requires-clause-text : goal.of-requires-clause-text
of-requires-clause-text c = route_plain c.args.router.now c.path_of-path.result.now _ c.requires c.in-Ok.ensures.found
