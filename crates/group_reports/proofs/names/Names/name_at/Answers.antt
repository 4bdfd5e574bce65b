use Rattle.std.proofs.Common.{rules, ap, sym, subst, ◌∙◌, ◌≡◌, Some, None, zip}
use Rattle.group_reports.specs.Links.{name_at}
use Rattle.group_reports.specs.Places.{IsLeiPlace}
use Rattle.group_reports.proofs.NameLemmas.{name_found, name_missing}
use Rattle.group_reports.proofs.PlaceLemmas.{text_is}
use Rattle.group_reports.proofs.names.Names.name_at.Goals as goal

pub returns-in_default : goal.returns-in_default
returns-in_default c =
    let leis = c.self.inside.leis in
    let texts = c.self.inside.texts in
    let whole : zip leis texts ≡ c.args.self.now = search rules in
    let none : c.find.result ≡ None = search rules in
    sym (name_missing leis texts c.args.lei.now (subst (IsLeiPlace leis c.args.lei.now) none c.find.ensures))
    ∙ ap (λ names. name_at names c.args.lei.now) whole

pub returns : goal.returns
returns c =
    let leis = c.self.inside.leis in
    let texts = c.self.inside.texts in
    let whole : zip leis texts ≡ c.args.self.now = search rules in
    let at = subst (IsLeiPlace leis c.args.lei.now) c.in-Some.is c.find.ensures in
    ap Some (c.text.ensures.value ∙ text_is texts c.in-Some.place)
    ∙ (sym (name_found leis texts c.in-Some.place c.args.lei.now c.self.invariant.order c.self.invariant.counted at.0 at.1)
    ∙ ap (λ names. name_at names c.args.lei.now) whole)
