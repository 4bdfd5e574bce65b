-- A frame stays whole when bytes follow.
use Rattle.std.proofs.Common.{ℕ, List, ◌++◌, Option, None, Some, inl, inr, sym, ap, ◌∙◌}
use Rattle.std.proofs.lemmas.List.{drop-append-le}
use Rattle.http_heads.specs.Requests.{request_size}
use Rattle.http_heads.proofs.Reading.{asked_more, bad_more, read_more, whole_of}
use Rattle.register_words.specs.declared.request.Asked.{Asked}
use Rattle.request_loop.specs.declared.frames.Want.{Want}
use Rattle.issuer_http.specs.Frames.{IsFrame, end_if_last}
use Rattle.issuer_http.specs.declared.ended.HttpEnd.{HttpEnd}

-- A frame stays whole when bytes follow.
pub frame_more : (bytes rest more : List ℕ) (frame : Option (Want Asked HttpEnd)) → IsFrame bytes frame rest
    → IsFrame (bytes ++ more) frame (rest ++ more)
frame_more bytes rest more None is = absurd is
frame_more bytes rest more (Some want) (inl (head, read, wants, after)) =
    let W : Asked → Want Asked HttpEnd = λ what. record { asked = what; ends = end_if_last head.last } in
    let fits = (whole_of bytes head read).fits in
    inl (
      head,
      read_more bytes more head read,
      wants ∙ sym (ap W (asked_more bytes more head read)),
      ap (λ (l : List ℕ). l ++ more) after ∙ sym (drop-append-le (request_size head) bytes more fits),
    )
frame_more bytes rest more (Some want) (inr (fault, read, wants, after)) =
    inr (fault, bad_more bytes more fault read, wants, ap (λ (l : List ℕ). l ++ more) after)
