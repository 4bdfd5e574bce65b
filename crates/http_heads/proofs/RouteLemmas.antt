-- What a router has when a route was inserted.
use Rattle.std.proofs.Common.{◌≡◌, ℕ, List, true}
use Rattle.std.proofs.lemmas.Bool.{false≢true}
use Rattle.std.specs.Prelude.{Result, Ok, Err, is_ok}
use Rattle.matchit.specs.Route.{Scan, parse_route}
use Rattle.matchit.specs.Router.{InsertsRead}
use Rattle.matchit.specs.declared.error.InsertError.{InsertError}
use Rattle.http_heads.specs.Routes.{Routes, with_read, with_route}
use Rattle.http_heads.specs.declared.routes.Place.{Place}

-- a text that is a route
read_in : (read : Result Scan InsertError) (place : Place) (old new : Routes) (r : Result (Unit {0}) InsertError) → is_ok r ≡ true → InsertsRead read place old new r → new ≡ with_read read place old
read_in (Ok scan) place old new (Ok done) ok inserts = inserts.1
read_in (Ok scan) place old new (Err error) ok inserts = absurd (false≢true ok)
read_in (Err error) place old new (Ok done) ok inserts = inserts.0
read_in (Err error) place old new (Err other) ok inserts = absurd (false≢true ok)

-- the routes together with the one that was inserted
pub inserted : (route : List ℕ) (place : Place) (old new : Routes) (r : Result (Unit {0}) InsertError) → is_ok r ≡ true → InsertsRead (parse_route route) place old new r → new ≡ with_route route place old
unfolding with_route
inserted route place old new r ok inserts = read_in (parse_route route) place old new r ok inserts
