-- The pieces of a response's head.
use Rattle.std.proofs.Common.{◌≡◌, ℕ, List, [], ◌∷◌, flat_map, refl}
use Rattle.std.specs.Prelude.{codes, decimal}
use Rattle.http_heads.specs.Responses.{allow_header, close_header, phrase_of, response_head, type_of}
use Rattle.http_heads.specs.declared.responses.Response.{Response}

-- the pieces joined, if each is what it has to be
pub joined : (response : Response) (code phrase kind size allow close : List ℕ) → code ≡ decimal response.code → phrase ≡ phrase_of response.code → kind ≡ type_of response.content → size ≡ decimal response.size → allow ≡ allow_header response.allow → close ≡ close_header response.closes → flat_map (λ (piece : List ℕ). piece) (codes "HTTP/1.1 " ∷ code ∷ codes " " ∷ phrase ∷ codes "\r\ncontent-type: " ∷ kind ∷ codes "\r\ncontent-length: " ∷ size ∷ allow ∷ close ∷ codes "\r\n\r\n" ∷ []) ≡ response_head response
joined response code phrase kind size allow close a b c d e f = rw (a, b, c, d, e, f) refl
