use Rattle.std.proofs.Common.{sym, ◌∙◌}
use Rattle.http_heads.proofs.RouteLemmas.{inserted}
use Rattle.http_heads.proofs.routes.insert.Goals as goal

pub returns-then-is_ok : goal.returns-then-is_ok
returns-then-is_ok c = inserted c.args.route.now c.args.place c.args.router.now c.insert-inserted.new.self c.insert-inserted.result (sym c.is_ok.ensures.value ∙ c.if-is_ok.true) c.insert-inserted.ensures
