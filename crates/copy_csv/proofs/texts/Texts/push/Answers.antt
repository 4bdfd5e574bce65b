use Rattle.std.proofs.Common.{◌≡◌, ℕ, List, [], ◌∷◌, ◌++◌, length, ap, ◌∙◌}
use Rattle.std.proofs.lemmas.Str.{is_utf8-from_IsUtf8}
use Rattle.copy_csv.proofs.CutLemmas.{IsCut-push, parts_at_ends-push}
use Rattle.copy_csv.proofs.texts.Texts.push.Goals as goal

pub invariant_of-self-in-Ok : goal.invariant_of-self-in-Ok
invariant_of-self-in-Ok c =
    let bytes : List ℕ = c.self.inside.bytes.items in
    let text : List ℕ = c.as_bytes.result.now in
    let to : c.len-end.result ≡ length (bytes ++ text) = c.len-end.ensures ∙ c.extend_from_slice.new.self.ok.0
    ∙ ap length c.in_ok-extend_from_slice.ensures.items in
    rw (c.in_ok-extend_from_slice.ensures.items, c.in-Ok.ensures.pushed)
    (IsCut-push bytes text c.self.inside.ends c.len-end.result c.self.invariant to (is_utf8-from_IsUtf8 text c.as_bytes.ensures.utf8))

pub returns-in-Ok-clause-pushed : goal.returns-in-Ok-clause-pushed
returns-in-Ok-clause-pushed c =
    let bytes : List ℕ = c.self.inside.bytes.items in
    let text : List ℕ = c.as_bytes.result.now in
    let to : c.len-end.result ≡ length (bytes ++ text) = c.len-end.ensures ∙ c.extend_from_slice.new.self.ok.0
    ∙ ap length c.in_ok-extend_from_slice.ensures.items in
    rw (c.in_ok-extend_from_slice.ensures.items, c.in-Ok.ensures.pushed)
    (parts_at_ends-push bytes text c.self.inside.ends c.len-end.result c.self.invariant to ∙ (λ i. c.self.view_is i ++ c.as_bytes.ensures.value i ∷ []))
