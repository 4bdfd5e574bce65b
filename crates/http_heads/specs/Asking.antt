-- What a request asks: by its route, its method, the words of its path and its body. This project's profile.
use Rattle.std.specs.Prelude.{ℕ, List, [], codes, if◌then◌else◌, Option, None, Some, option_map, option_and_then}
use Rattle.std.specs.Char.{is_ascii}
use Rattle.std.specs.List.{list_all}
use Rattle.lei_code.specs.Texts.{Lei}
use Rattle.matchit.specs.Params.{named, walk}
use Rattle.matchit.specs.Router.{RouteOf}
use Rattle.register_words.specs.Words.{base_named, form_named, lei_from, number_in_word, sheet_named}
use Rattle.register_words.specs.declared.reply.Allowed.{Allowed}
use Rattle.register_words.specs.declared.reply.Refusal.{Refusal}
use Rattle.register_words.specs.declared.request.Asked.{Asked}
use Rattle.register_words.specs.declared.request.Request.{Request}
use Rattle.http_heads.specs.Routes.{path_of, route_of}
use Rattle.http_heads.specs.declared.routes.Method.{Method}
use Rattle.http_heads.specs.declared.routes.Place.{Place}

-- The words of a path, each with the name of the parameter that took it.
abbrev pub Words : Type 0
Words = List (List ℕ × List ℕ)

-- The words that the parameters of its route took from a path. The words of a request consist of ASCII characters only,
-- so a path with any other character has no words.
abbrev pub words_by : RouteOf Place → List ℕ → Words
words_by route path =
    if list_all is_ascii path then walk route.pattern route.text path route.names 0 0 else []

infixl 10 ◌>>=◌
-- What is made of a value, if there is one.
abbrev pub ◌>>=◌ : {A B : Type 0} → Option A → (A → Option B) → Option B
o >>= f = option_and_then f o

-- ---- what the words ask, if each of them is what it has to be

-- The issuer and the number of an upload.
abbrev pub key_in : Words → Option (Lei × ℕ)
key_in words = do
  lou ← named (codes "lou") words
  word ← named (codes "number") words
  issuer ← lei_from lou
  number ← number_in_word word
  Some (issuer, number)

-- To accredit an issuer.
unfoldable pub accredit_in : Words → Option Request
accredit_in words = do
  lou ← named (codes "lou") words
  issuer ← lei_from lou
  Some (Request.Accredit issuer)

-- To take an upload with this body.
unfoldable pub upload_with_body : Words → List ℕ → Option Request
upload_with_body words body =
    option_map (λ key. Request.Upload (record { office = key.0; number = key.1; body = body })) (key_in words)

-- To show the answer to an upload.
unfoldable pub kept_in : Words → Option Request
kept_in words = option_map (λ key. Request.Kept key.0 key.1) (key_in words)

-- To publish.
unfoldable pub publish_in : Words → Option Request
publish_in words = do
  word ← named (codes "number") words
  number ← number_in_word word
  Some (Request.Publish number)

-- To show a record.
unfoldable pub show_in : Words → Option Request
show_in words = do
  word ← named (codes "lei") words
  lei ← lei_from word
  Some (Request.Show lei)

-- To give a copy.
unfoldable pub copy_in : Words → Option Request
copy_in words = do
  table ← named (codes "table") words
  word ← named (codes "form") words
  sheet ← sheet_named table
  form ← form_named word
  Some (Request.Copy sheet form)

-- To give a delta.
unfoldable pub delta_in : Words → Option Request
delta_in words = do
  name ← named (codes "base") words
  table ← named (codes "table") words
  word ← named (codes "form") words
  base ← base_named name
  sheet ← sheet_named table
  form ← form_named word
  Some (Request.Delta base sheet form)

-- ---- what is asked

-- A request is asked, or a word of the path isn't what it has to be.
abbrev pub asks : Option Request → Asked
asks None = Asked.Refuse Refusal.Path
asks (Some request) = Asked.Ask request

-- The place has only these other methods.
abbrev pub other_method : Allowed → Asked
other_method allowed = Asked.Refuse (Refusal.Method allowed)

-- What a method asks at a place, with the words of the path, and with a body, which only an upload uses.
abbrev pub asked_at : Place → Method → Words → List ℕ → Asked
asked_at Place.Issuer Method.Put words body = asks (accredit_in words)
asked_at Place.Issuer Method.Get words body = other_method Allowed.Put
asked_at Place.Issuer Method.Other words body = other_method Allowed.Put
asked_at Place.Upload Method.Put words body = asks (upload_with_body words body)
asked_at Place.Upload Method.Get words body = asks (kept_in words)
asked_at Place.Upload Method.Other words body = other_method Allowed.GetPut
asked_at Place.Publication Method.Put words body = asks (publish_in words)
asked_at Place.Publication Method.Get words body = other_method Allowed.Put
asked_at Place.Publication Method.Other words body = other_method Allowed.Put
asked_at Place.Record Method.Put words body = other_method Allowed.Get
asked_at Place.Record Method.Get words body = asks (show_in words)
asked_at Place.Record Method.Other words body = other_method Allowed.Get
asked_at Place.Copy Method.Put words body = other_method Allowed.Get
asked_at Place.Copy Method.Get words body = asks (copy_in words)
asked_at Place.Copy Method.Other words body = other_method Allowed.Get
asked_at Place.Delta Method.Put words body = other_method Allowed.Get
asked_at Place.Delta Method.Get words body = asks (delta_in words)
asked_at Place.Delta Method.Other words body = other_method Allowed.Get
asked_at Place.Status Method.Put words body = other_method Allowed.Get
asked_at Place.Status Method.Get words body = Asked.Ask Request.Status
asked_at Place.Status Method.Other words body = other_method Allowed.Get

-- What a method asks on a path, by its route.
abbrev pub asked_on : Option (RouteOf Place) → Method → List ℕ → List ℕ → Asked
asked_on None method path body = Asked.Refuse Refusal.NoRoute
asked_on (Some route) method path body = asked_at route.value method (words_by route path) body

-- What a method asks of a target, with this body.
abbrev pub asked_by_method : Method → List ℕ → List ℕ → Asked
asked_by_method method target body = asked_on (route_of (path_of target)) method (path_of target) body
