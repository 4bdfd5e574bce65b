-- The heads of responses (RFC 9112). Which headers a head has, and in which order, is this project's profile.
use Rattle.std.specs.Prelude.{ℕ, List, [], ◌∷◌, Bool, ◌&&◌, codes, decimal, nat_le, nat_lt, if◌then◌else◌, unwrap_or, Option, None, Some}
use Rattle.std.specs.List.{flat_map}
use Rattle.http.specs.StatusCode.{reason_phrase}
use Rattle.http_heads.specs.declared.responses.Content.{Content}
use Rattle.http_heads.specs.declared.responses.Response.{Response}
use Rattle.register_words.specs.declared.reply.Allowed.{Allowed}

-- The phrase of a status code of three digits (RFC 9110), if it has one.
abbrev pub phrase_of : ℕ → List ℕ
phrase_of code = if nat_le 100 code && nat_lt code 1000 then unwrap_or (reason_phrase code) [] else []

-- The media type of a text.
abbrev pub type_of : Content → List ℕ
type_of Content.Json = codes "application/json"
type_of Content.Csv = codes "text/csv"
type_of Content.Plain = codes "text/plain"

-- The methods of a route, as a header that starts with a line end.
abbrev pub allow_header : Option Allowed → List ℕ
allow_header None = []
allow_header (Some Allowed.Put) = codes "\r\nallow: PUT"
allow_header (Some Allowed.Get) = codes "\r\nallow: GET"
allow_header (Some Allowed.GetPut) = codes "\r\nallow: GET, PUT"

-- The header, written the same way, that the connection is closed after the response.
abbrev pub close_header : Bool → List ℕ
close_header closes = if closes then codes "\r\nconnection: close" else []

-- The bytes of a response before its text, in pieces.
abbrev pub head_pieces : Response → List (List ℕ)
head_pieces response =
    codes "HTTP/1.1 " ∷ decimal response.code ∷ codes " " ∷ phrase_of response.code
    ∷ codes "\r\ncontent-type: " ∷ type_of response.content
    ∷ codes "\r\ncontent-length: " ∷ decimal response.size
    ∷ allow_header response.allow ∷ close_header response.closes ∷ codes "\r\n\r\n" ∷ []

-- The bytes of a response before its text: the status line, the headers, and an empty line.
abbrev pub response_head : Response → List ℕ
response_head response = flat_map (λ piece. piece) (head_pieces response)
