use Rattle.std.proofs.Common.{◌∙◌, ap}
use Rattle.std.specs.Prelude.{codes}
use Rattle.http_heads.specs.Routes.{routes, with_route}
use Rattle.http_heads.specs.declared.routes.Place.{Place}
use Rattle.http_heads.proofs.routes.router.Goals as goal

pub returns : goal.returns
unfolding routes
returns c =
    c.in_ok-insert-7.ensures ∙ ap (with_route (codes "/v1/status") Place.Status) (c.in_ok-insert-6.ensures ∙ ap (with_route (codes "/v1/deltas/{base}/{table}/{form}") Place.Delta) (c.in_ok-insert-5.ensures ∙ ap (with_route (codes "/v1/copies/{table}/{form}") Place.Copy) (c.in_ok-insert-4.ensures ∙ ap (with_route (codes "/v1/records/{lei}") Place.Record) (c.in_ok-insert-3.ensures ∙ ap (with_route (codes "/v1/publications/{number}") Place.Publication) (c.in_ok-insert-2.ensures ∙ ap (with_route (codes "/v1/issuers/{lou}/uploads/{number}") Place.Upload) (c.in_ok-insert.ensures ∙ ap (with_route (codes "/v1/issuers/{lou}") Place.Issuer) (c.new-router.ensures)))))))
