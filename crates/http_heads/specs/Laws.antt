-- The routes, written out.
use Rattle.std.specs.Prelude.{ℕ, List, [], ◌∷◌, ◌++◌, codes, map}
use Rattle.matchit.specs.Params.{part_of}
use Rattle.matchit.specs.Router.{RouteOf}
use Rattle.matchit.specs.Rows.{param_token}
use Rattle.http_heads.specs.declared.routes.Place.{Place}

-- A route: the parts of its path, the names of its parameters in order, and the place that it leads to. In the path a
-- byte means itself, and 256 means a parameter, which takes one or more bytes of a path, and no slash.
pub record RouteRow : Type 0 where
  pub path : List ℕ
  pub names : List (List ℕ)
  pub place : Place

-- A route of a router, written as a row.
abbrev pub row_of_route : List ℕ × RouteOf Place → RouteRow
row_of_route route = record {
  path = route.0;
  names = map (λ name. part_of route.1.text name.0 name.1) route.1.names;
  place = route.1.value;
}

-- A row with these parts.
abbrev pub route_row : List ℕ → List (List ℕ) → Place → RouteRow
route_row path names place = record { path = path; names = names; place = place }

-- A parameter, followed by the rest of a path.
abbrev pub param : List ℕ → List ℕ
param rest = param_token ∷ rest

-- The seven routes, in the order in which a router keeps them.
abbrev pub rows_in_order : List RouteRow
rows_in_order =
    route_row (codes "/v1/copies/" ++ param (codes "/" ++ param [])) (codes "table" ∷ codes "form" ∷ []) Place.Copy
    ∷ route_row (codes "/v1/deltas/" ++ param (codes "/" ++ param (codes "/" ++ param [])))
    (codes "base" ∷ codes "table" ∷ codes "form" ∷ []) Place.Delta
    ∷ route_row (codes "/v1/issuers/" ++ param (codes "/uploads/" ++ param []))
    (codes "lou" ∷ codes "number" ∷ []) Place.Upload
    ∷ route_row (codes "/v1/issuers/" ++ param []) (codes "lou" ∷ []) Place.Issuer
    ∷ route_row (codes "/v1/publications/" ++ param []) (codes "number" ∷ []) Place.Publication
    ∷ route_row (codes "/v1/records/" ++ param []) (codes "lei" ∷ []) Place.Record
    ∷ route_row (codes "/v1/status") [] Place.Status
    ∷ []
