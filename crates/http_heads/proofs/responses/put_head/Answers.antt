use Rattle.std.proofs.Common.{ℕ, ◌++◌, List, ap, ◌∙◌}
use Rattle.http_heads.proofs.HeadPieces.{joined}
use Rattle.http_heads.proofs.responses.put_head.Goals as goal

pub returns : goal.returns
returns c =
    c.in_ok-put_all.ensures ∙ ap (λ (l : List ℕ). c.args.out.now.items ++ l)
    (joined c.args.response.now _ _ _ _ _ _
    (c.as_bytes.ensures.value ∙ c.format.ensures.text) (c.as_bytes-2.ensures.value ∙ c.phrase_of.ensures)
    (c.as_bytes-3.ensures.value ∙ c.type_of.ensures) (c.as_bytes-4.ensures.value ∙ c.format-2.ensures.text)
    c.allow_header.ensures c.close_header.ensures)
