-- The routes of requests, by what `matchit` says of a router, and the places that they lead to. This project's profile.
use Rattle.std.specs.Prelude.{ℕ, ◌==◌, List, [], codes, Option, option_map, Result, Ok, Err}
use Rattle.std.specs.List.{before_first}
use Rattle.matchit.specs.Order.{placed}
use Rattle.matchit.specs.Route.{Scan, parse_route}
use Rattle.matchit.specs.Router.{RouteOf, route_from}
use Rattle.matchit.specs.Rows.{RowsOf}
use Rattle.matchit.specs.Seek.{first}
use Rattle.matchit.specs.declared.error.InsertError.{InsertError}
use Rattle.http_heads.specs.declared.routes.Place.{Place}

-- The routes of a router, each with its place.
abbrev pub Routes : Type 0
Routes = RowsOf (RouteOf Place)

-- The routes with one more, in the form in which it was read.
abbrev pub with_read : Result Scan InsertError → Place → Routes → Routes
with_read (Ok route) place routes = placed (route.pattern, route_from route place) routes
with_read (Err error) place routes = routes

-- The routes with one added for this text.
unfoldable pub with_route : List ℕ → Place → Routes → Routes
with_route text place routes = with_read (parse_route text) place routes

-- All routes.
unfoldable pub routes : Routes
routes =
    with_route (codes "/v1/status") Place.Status
    (with_route (codes "/v1/deltas/{base}/{table}/{form}") Place.Delta
    (with_route (codes "/v1/copies/{table}/{form}") Place.Copy
    (with_route (codes "/v1/records/{lei}") Place.Record
    (with_route (codes "/v1/publications/{number}") Place.Publication
    (with_route (codes "/v1/issuers/{lou}/uploads/{number}") Place.Upload
    (with_route (codes "/v1/issuers/{lou}") Place.Issuer []))))))

-- The path of a target: what precedes its first `?`. It isn't decoded.
abbrev pub path_of : List ℕ → List ℕ
path_of target = before_first (λ byte. byte == 63) target

-- The route that a path has.
abbrev pub route_of : List ℕ → Option (RouteOf Place)
route_of path = first routes path

-- The place of a path, if it has a route.
abbrev pub route_place : List ℕ → Option Place
route_place path = option_map (λ route. route.value) (route_of path)
