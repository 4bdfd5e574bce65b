use Rattle.std.proofs.Common.{◌≡◌, ◌∙◌, ℕ, List, sym, subst}
use Rattle.std.specs.Prelude.{IfOk, OnErr}
use Rattle.std.specs.Str.{IsUtf8}
use Rattle.register_words.specs.Readings.{MayWantMemory}
use Rattle.http_heads.specs.Asking.{asked_by_method}
use Rattle.http_heads.specs.Requests.{target_in}
use Rattle.http_heads.proofs.Reading.{found_of, target_text, whole_of}
use Rattle.issuer_http.proofs.requests.asked_in.Goals as goal

pub of-requires-clause-ordered : goal.of-requires-clause-ordered
of-requires-clause-ordered c =
    (found_of c.args.bytes.now c.args.head.now (whole_of c.args.bytes.now c.args.head.now c.requires.read).read).is.ordered

pub of-requires-clause-in_range : goal.of-requires-clause-in_range
of-requires-clause-in_range c =
    (found_of c.args.bytes.now c.args.head.now (whole_of c.args.bytes.now c.args.head.now c.requires.read).read).is.within

pub text_of-target-requires : goal.text_of-target-requires
text_of-target-requires c =
    let T : List ℕ → Type 0 = λ l. IsUtf8 l in
    subst T (sym c.of.ensures)
    (target_text c.args.bytes.now c.args.head.now (whole_of c.args.bytes.now c.args.head.now c.requires.read).read)

pub body_in-body-requires : goal.body_in-body-requires
body_in-body-requires c = (whole_of c.args.bytes.now c.args.head.now c.requires.read).fits

pub returns-clause-ok : goal.returns-clause-ok
returns-clause-ok c =
    let target = c.text_of-target.ensures ∙ c.of.ensures in
    let T : List ℕ → Type 0 = λ l. IfOk c.asked_of.result (λ asked. asked ≡ asked_by_method c.args.head.now.method l c.body_in-body.result.now) in
    let B : List ℕ → Type 0 = λ l. IfOk c.asked_of.result (λ asked. asked ≡ asked_by_method c.args.head.now.method (target_in c.args.bytes.now c.args.head.now) l) in
    subst B c.body_in-body.ensures (subst T target c.asked_of.ensures.ok)

pub returns-clause-err : goal.returns-clause-err
returns-clause-err c =
    let target = c.text_of-target.ensures ∙ c.of.ensures in
    let T : List ℕ → Type 0 = λ l. OnErr c.asked_of.result (MayWantMemory (asked_by_method c.args.head.now.method l c.body_in-body.result.now)) in
    let B : List ℕ → Type 0 = λ l. OnErr c.asked_of.result (MayWantMemory (asked_by_method c.args.head.now.method (target_in c.args.bytes.now c.args.head.now) l)) in
    subst B c.body_in-body.ensures (subst T target c.asked_of.ensures.err)
