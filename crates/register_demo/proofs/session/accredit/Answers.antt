use Rattle.std.proofs.Common.{[], ◌∷◌, List, ℕ, subst}
use Rattle.register_words.specs.declared.request.Request.TheVariants.{Accredit}
use Rattle.register_demo.specs.Codes.{first_issuer}
use Rattle.register_demo.specs.Requests.{RepliesFrom}
use Rattle.register_demo.proofs.Stages.{answers-two}
use Rattle.register_demo.proofs.session.accredit.Goals as goal

pub returns : goal.returns
returns g c =
    let first = c.in_ok-ask.field-0 in
    let second = c.in_ok-ask-2.field-0 in
    let o1 = c.args.office.now.office in
    let o3 = c.ask-2.new.office.office in
    let asked = answers-two o1 c.ask.new.office.office o3 0 (Accredit c.issuer_of.result) (Accredit c.issuer_of-2.result) first second
    c.in_ok-ask.ensures.reply c.in_ok-ask.ensures.next c.in_ok-ask-2.ensures.reply c.in_ok-ask-2.ensures.next in
    let F : List ℕ → Type 0 = λ issuer. RepliesFrom o1 0 (Accredit issuer ∷ Accredit c.issuer_of-2.result ∷ []) (first ∷ second ∷ []) o3 in
    let S : List ℕ → Type 0 = λ issuer. RepliesFrom o1 0 (Accredit first_issuer ∷ Accredit issuer ∷ []) (first ∷ second ∷ []) o3 in
    (first, second, subst S c.issuer_of-2.ensures (subst F c.issuer_of.ensures asked))
