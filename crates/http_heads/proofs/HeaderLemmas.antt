-- A header before others.
use Rattle.std.proofs.Common.{◌≡◌, List, ◌∷◌, true, false, refl}
use Rattle.std.specs.Prelude.{codes}
use Rattle.http_heads.specs.Headers.{Header, content_length, header_has_name, length_in, joint_length}

-- a Content-Length states its number together with the others
pub length-here : (header : Header) (others : List Header) → header_has_name (codes "content-length") header ≡ true → content_length (header ∷ others) ≡ joint_length (length_in header.1) (content_length others)
length-here header others is = rw is refl

-- and another header states nothing
pub length-other : (header : Header) (others : List Header) → header_has_name (codes "content-length") header ≡ false → content_length (header ∷ others) ≡ content_length others
length-other header others is = rw is refl
